use Rattle.std.proofs.Common.{ℕ, ◌-◌, ◌<◌, ◌≤◌, length, get_or}
use Rattle.code_layout.specs.Rows.{row_starts}
use Rattle.code_layout.proofs.rows.first_from.Given as goal

abbrev pub invariant-loop-low : goal.invariant-loop-low
invariant-loop-low l = record {
  order : l.low ≤ l.high;
  top : l.high ≤ length l.rows;
  below : (k : ℕ) → k < l.low → get_or (row_starts l.rows) k 0 < l.start;
  from : (k : ℕ) → l.high ≤ k → k < length l.rows → l.start ≤ get_or (row_starts l.rows) k 0;
}

abbrev pub decreases-loop-low : goal.decreases-loop-low
decreases-loop-low l = l.high - l.low
