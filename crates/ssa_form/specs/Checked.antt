-- Blocks whose names stand for something.
use Rattle.ssa_form.specs.declared.form.TheConstants.{REGISTERS}
use Rattle.std.specs.Prelude.{ℕ, suc, Bool, true, false, ◌&&◌, nat_lt, nat_eq, List, [], ◌∷◌, length, get_or}
use Rattle.ssa_form.specs.declared.form.Val.{Val}
use Rattle.ssa_form.specs.declared.form.Val.TheVariants.{Param, Line as Of, Num}
use Rattle.ssa_form.specs.declared.form.Line.{Line}
use Rattle.ssa_form.specs.declared.form.Line.TheVariants.{Bin, One, Select, Load, Store, Gone}
use Rattle.ssa_form.specs.declared.form.Block.{Block}
use Rattle.ssa_form.specs.declared.form.Exit.{Exit}
use Rattle.ssa_form.specs.declared.form.Exit.TheVariants.{Cond, Way}

-- a store gives no result, nor does a line that was taken away
abbrev pub has_result : Line → Bool
has_result (Store w at a) = false
has_result Gone = false
has_result _ = true

-- a number, a parameter, or one of the first n lines, which has a result
abbrev pub val_checked : List Line → ℕ → Val → Bool
val_checked ls n (Param v) = nat_lt v REGISTERS
val_checked ls n (Of j) = nat_lt j n && has_result (get_or ls j Gone)
val_checked ls n (Num k) = true

-- a line before which n lines stand
abbrev pub line_checked : List Line → ℕ → Line → Bool
line_checked ls n (Bin op a b) = val_checked ls n a && val_checked ls n b
line_checked ls n (One op a) = val_checked ls n a
line_checked ls n (Select c a b) = val_checked ls n c && (val_checked ls n a && val_checked ls n b)
line_checked ls n (Load w at) = val_checked ls n at
line_checked ls n (Store w at a) = val_checked ls n at && val_checked ls n a
line_checked ls n Gone = true

-- the lines from number n on name earlier ones
abbrev pub lines_checked : List Line → ℕ → List Line → Bool
lines_checked ls n [] = true
lines_checked ls n (l ∷ rest) = line_checked ls n l && lines_checked ls (suc n) rest

-- outs, behind n lines
abbrev pub vals_checked : List Line → ℕ → List Val → Bool
vals_checked ls n [] = true
vals_checked ls n (v ∷ vs) = val_checked ls n v && vals_checked ls n vs

-- the test or the target of an exit
abbrev pub exit_checked : List Line → ℕ → Exit → Bool
exit_checked ls n (Cond test taken next) = val_checked ls n test
exit_checked ls n (Way v) = val_checked ls n v
exit_checked ls n _ = true

-- one out for each virtual register, and each name stands for something
abbrev pub checked : Block → Bool
checked b =
    nat_eq (length b.outs) REGISTERS && (lines_checked b.lines 0 b.lines &&
    (vals_checked b.lines (length b.lines) b.outs && exit_checked b.lines (length b.lines) b.exit))
