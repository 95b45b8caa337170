use Rattle.std.proofs.Common.{◌≡◌, ◌+◌, ◌<◌, [], length, get_or, set}
use Rattle.trace_set.specs.Rows.{IsKept, shown_rows}
use Rattle.trace_set.proofs.rows.EdgeRows.clear_row.Given as goal

abbrev pub invariant-loop-steps : goal.invariant-loop-steps
invariant-loop-steps g l = record {
  kept : IsKept l.self;
  inside : l.row < length (shown_rows l.self);
  rows : set (shown_rows l.self) l.row [] ≡ set (shown_rows l.fn.self) l.row [];
  counted : l.count + length (get_or (shown_rows l.self) l.row []) ≡ length (get_or (shown_rows l.fn.self) l.row []);
  ticked : l.steps ≡ l.fn.steps + l.count;
}

abbrev pub decreases-loop-steps : goal.decreases-loop-steps
decreases-loop-steps g l = length (get_or (shown_rows l.self) l.row [])
