-- Sequences of code: of a block's lines one after another, and of the moves on the way to another block.
use Rattle.std.specs.Prelude.{ℕ, suc, ◌==◌, ◌&&◌, Bool, false, not, cond, if◌then◌else◌, List, [], ◌∷◌, ◌++◌, length}
use Rattle.ia_inst.specs.declared.inst.Inst.{Inst}
use Rattle.ssa_form.specs.declared.form.Val.{Val}
use Rattle.ssa_form.specs.declared.form.Val.TheVariants as val
use Rattle.ssa_form.specs.declared.form.Line.{Line}
use Rattle.par_moves.specs.declared.locations.Place.{Place}
use Rattle.par_moves.specs.declared.locations.PlaceMove.{PlaceMove}
use Rattle.par_moves.specs.Moves.{sequenced}
use Rattle.emit_ops.specs.Templates.{move_code, held_by, line_code}

-- ---- lines

-- the lines of a set
abbrev pub kept : (ℕ → Bool) → List (ℕ × Line) → List (ℕ × Line)
kept keep [] = []
kept keep (p ∷ ps) = if keep p.0 then p ∷ kept keep ps else kept keep ps

-- the code of lines, each with its number, by where parameters and results are held
abbrev pub lines_code : (ℕ → Place) → (ℕ → Place) → List (ℕ × Line) → List Inst
lines_code home place [] = []
lines_code home place (p ∷ ps) = line_code home place p.0 p.1 ++ lines_code home place ps

-- ---- moves

-- the code of moves
abbrev pub moves_code : List PlaceMove → List Inst
moves_code [] = []
moves_code (m ∷ ms) = move_code m.to m.from ++ moves_code ms

-- the register keeps its value
abbrev pub keeps_itself : ℕ → Val → Bool
keeps_itself v (val.Param u) = u == v
keeps_itself v (val.Line j) = false
keeps_itself v (val.Num n) = false

abbrev pub move_of : (ℕ → Place) → (ℕ → Place) → ℕ → Val → PlaceMove
move_of home place v out = record { to = home v; from = held_by home place out }

-- the home of each live register, from v on and ascending, takes its out, but for those that keep their value
abbrev pub live_moves : (ℕ → Place) → (ℕ → Place) → (ℕ → Bool) → ℕ → List Val → List PlaceMove
live_moves home place live v [] = []
live_moves home place live v (out ∷ outs) =
    cond (live v && not (keeps_itself v out))
    (move_of home place v out ∷ live_moves home place live (suc v) outs)
    (live_moves home place live (suc v) outs)

-- in the order of `sequence`
abbrev pub in_order : List PlaceMove → List PlaceMove
in_order ms = sequenced (length ms) ms
