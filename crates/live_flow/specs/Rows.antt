-- The row of a block.
use Rattle.std.specs.Prelude.{◌≡◌, ℕ, suc, ◌^◌, ◌&&◌, Bool, true, false, nat_lt, nat_eq, if◌then◌else◌, List, [], ◌∷◌, bit_or}
use Rattle.ssa_form.specs.declared.form.TheConstants.{REGISTERS}
use Rattle.ssa_form.specs.declared.form.Val.{Val}
use Rattle.ssa_form.specs.declared.form.Val.TheVariants.{Param, Line as Of, Num}
use Rattle.ssa_form.specs.declared.form.Line.{Line}
use Rattle.ssa_form.specs.declared.form.Exit.{Exit}
use Rattle.ssa_form.specs.declared.form.Exit.TheVariants.{Jump, Cond, Way, Island}
use Rattle.ssa_form.specs.declared.form.Block.{Block}
use Rattle.pass_dead.specs.Names.{vals_of, exit_vals}
use Rattle.stub_sink.specs.Splits.{has_fallback}
use Rattle.live_flow.specs.declared.row.LiveRow.{LiveRow}

-- ---- sets of registers as numbers

-- the set of one register
abbrev pub one_of : ℕ → ℕ
one_of v = if nat_lt v REGISTERS then 2 ^ v else 0

-- the register that a name is of
abbrev pub val_set : Val → ℕ
val_set (Param v) = one_of v
val_set (Of j) = 0
val_set (Num n) = 0

abbrev pub vals_set : List Val → ℕ
vals_set [] = 0
vals_set (v ∷ vs) = bit_or (val_set v) (vals_set vs)

-- the registers that lines name
abbrev pub lines_set : List Line → ℕ
lines_set [] = 0
lines_set (l ∷ ls) = bit_or (vals_set (vals_of l)) (lines_set ls)

-- the out of register v is what v holds before the block
abbrev pub is_own : ℕ → Val → Bool
is_own v (Param w) = nat_eq w v
is_own v (Of j) = false
is_own v (Num n) = false

-- the registers that are outs of others; the first out is that of register v
abbrev pub moved_set : ℕ → List Val → ℕ
moved_set v [] = 0
moved_set v (o ∷ os) = bit_or (if is_own v o then 0 else val_set o) (moved_set (suc v) os)

-- the registers that are outs of their own
abbrev pub own_set : ℕ → List Val → ℕ
own_set v [] = 0
own_set v (o ∷ os) = bit_or (if is_own v o then one_of v else 0) (own_set (suc v) os)

-- ---- the row

-- what a block reads: a native instruction all registers
abbrev pub uses_of : Exit → Block → ℕ
uses_of (Island len) b = 0x3FFF
uses_of _ b = bit_or (lines_set b.lines) (bit_or (vals_set (exit_vals b.exit)) (moved_set 0 b.outs))

-- where these are its known exits
abbrev pub row_of : Block → List ℕ → LiveRow
row_of b known = record {
  start = b.start;
  uses = uses_of b.exit b;
  passes = own_set 0 b.outs;
  fallback = has_fallback b.exit known;
  next = known;
}
