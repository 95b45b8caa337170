use Rattle.std.proofs.Common.{ℕ, ◌+◌, ◌-◌, ◌*◌, ◌<◌, length, get_or, sum}
use Rattle.live_flow.specs.Growing.{IsUnder}
use Rattle.live_flow.proofs.sets.settle.Given as goal

abbrev pub invariant-loop-place : goal.invariant-loop-place
invariant-loop-place l = record {
  fits : (k : ℕ) → get_or l.sets k 0 < 65536;
  under : IsUnder l.rows l.sets l.queue.items;
}

-- what can still grow counts twice: a set that grows puts its row into the queue
abbrev pub decreases-loop-place : goal.decreases-loop-place
decreases-loop-place l = 2 * (65536 * length l.sets - sum l.sets) + length l.queue.items
