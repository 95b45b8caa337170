use Rattle.std.proofs.Common.{◌≡◌, ℕ, ◌<◌, length, get_or}
use Rattle.pass_dead.specs.Names.{has}
use Rattle.live_flow.specs.Live.{row_at, needed_at}
use Rattle.live_flow.proofs.sets.all_needed.Given as goal

abbrev pub invariant-loop-row : goal.invariant-loop-row
invariant-loop-row l = record {
  count : length l.sets.items ≡ l.row-index;
  each : (k v : ℕ) → k < l.row-index → has (get_or l.sets.items k 0) v ≡ needed_at (row_at l.rows k) v;
}
