-- What the code of moves does, also of those that are done on the way to another block.
use Rattle.std.specs.Prelude.{◌≡◌, ◌≢◌, ℕ, ◌<◌, Bool, true, false, List, [], ◌∷◌, length, get_or, All}
use Rattle.br_word.specs.Memory.{Region}
use Rattle.br_word.specs.State.{State}
use Rattle.ia_encode.specs.Items.{StandsAt}
use Rattle.ssa_form.specs.declared.form.TheConstants.{REGISTERS}
use Rattle.ssa_form.specs.declared.form.Val.{Val}
use Rattle.ssa_form.specs.declared.form.Val.TheVariants as val
use Rattle.par_moves.specs.declared.locations.Place.{Place}
use Rattle.par_moves.specs.declared.locations.PlaceMove.{PlaceMove}
use Rattle.par_moves.specs.Locations.{same_place, spare, held, IsKept}
use Rattle.par_moves.specs.Moves.{done, AreApart}
use Rattle.emit_ops.specs.Templates.{held_by}
use Rattle.emit_ops.specs.Sequences.{moves_code, live_moves, in_order}
use Rattle.code_laws.specs.Exchange.{Besides}
use Rattle.code_laws.specs.Seen.{Cells, Sees, Leads, Quiet}
use Rattle.code_laws.specs.Laws.{Comes, IsOperand, IsResult}
use Rattle.code_laws.specs.Placed.{IsVal}

-- ---- moves one after another

-- none reads or writes eax or ecx
abbrev pub AllServe : List PlaceMove → Type 0
AllServe [] = Unit {0}
AllServe (m ∷ ms) = IsResult m.to × IsOperand m.from × AllServe ms

-- the places hold what the moves give them
pub record Moved (a : Cells) (f : Place → ℕ) (b : Cells) : Type 0 where
  pub holds : (q : Place) → IsKept q → b.cell q ≡ f q
  pub df : b.df ≡ a.df
  pub besides : Besides a b

-- The code of moves does them, after exactly its length in steps.
abbrev pub MovesHold : Region → Type 0
MovesHold code = (ms : List PlaceMove) (s : State) (a : Cells) (to : ℕ) (cs : List ℕ) → Sees code s a → AllServe ms →
    StandsAt code s.eip (moves_code ms) to →
    Leads (Quiet a.seen) (Comes code to (Moved a (done ms a.cell))) (length (moves_code ms)) s cs

-- ---- moves on the way to another block

-- homes are distinct, and none is the spare
pub record HomesApart (home : ℕ → Place) : Type 0 where
  pub each : (u v : ℕ) → u < REGISTERS → v < REGISTERS → u ≢ v → same_place (home u) (home v) ≡ false
  pub spare : (v : ℕ) → v < REGISTERS → same_place (home v) spare ≡ false

-- one out for each virtual register, each a value that code can hold
pub record AreOuts (limit : ℕ) (outs : List Val) : Type 0 where
  pub count : length outs ≡ REGISTERS
  pub each : (v : ℕ) → v < REGISTERS → IsVal limit (get_or outs v (val.Num 0))

-- `sequence` may be called with these
pub record MayBeGiven (ms : List PlaceMove) : Type 0 where
  pub apart : AreApart ms
  pub no_spare : All (λ m. same_place m.to spare ≡ false) ms

-- Each live home holds the operand of its out, read before the moves, and each other home and place what it held.
pub record Settled (home place : ℕ → Place) (live : ℕ → Bool) (outs : List Val) (a b : Cells) : Type 0 where
  pub taken : (v : ℕ) → v < REGISTERS → live v ≡ true → b.cell (home v) ≡ held a.cell (held_by home place (get_or outs v (val.Num 0)))
  pub kept : (v : ℕ) → v < REGISTERS → live v ≡ false → b.cell (home v) ≡ a.cell (home v)
  pub others : (q : Place) → IsKept q → ((v : ℕ) → v < REGISTERS → same_place (home v) q ≡ false) → same_place spare q ≡ false →
      b.cell q ≡ a.cell q
  pub df : b.df ≡ a.df
  pub besides : Besides a b

-- The code of the moves of a live set settles it, after exactly its length in steps. Before a side exit every register is live.
abbrev pub MovesSettle : Region → ℕ → (ℕ → Place) → (ℕ → Place) → Type 0
MovesSettle code limit home place = (live : ℕ → Bool) (outs : List Val) (s : State) (a : Cells) (to : ℕ) (cs : List ℕ) →
    Sees code s a → AreOuts limit outs → StandsAt code s.eip (moves_code (in_order (live_moves home place live 0 outs))) to →
    Leads (Quiet a.seen) (Comes code to (Settled home place live outs a))
    (length (moves_code (in_order (live_moves home place live 0 outs)))) s cs
