use Rattle.std.proofs.Common.{ℕ, ◌<◌, get_or}
use Rattle.reg_place.proofs.placing.first_free.Given as goal

abbrev pub invariant-loop-k : goal.invariant-loop-k
invariant-loop-k l = (j : ℕ) → j < l.k → l.position < get_or l.busy j 0
