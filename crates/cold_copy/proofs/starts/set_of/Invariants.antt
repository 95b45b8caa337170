use Rattle.std.proofs.Common.{◌≡◌, ℕ, ◌||◌, drop}
use Rattle.std.specs.Ordering.{nat_cmp}
use Rattle.std.specs.BTreeSet.{contains}
use Rattle.block_cut.specs.Transfers.{is_among}
use Rattle.cold_copy.proofs.starts.set_of.Given as goal

abbrev pub invariant-loop-out : goal.invariant-loop-out
invariant-loop-out l = (y : ℕ) → (contains nat_cmp l.set y || is_among (drop l.out-index l.outs) y) ≡ is_among l.outs y
