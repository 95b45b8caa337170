use Rattle.std.proofs.Common.{◌≡◌, set, take}
use Rattle.trace_set.specs.Rows.{IsKept, shown_rows}
use Rattle.trace_set.proofs.fill.fill.Given as goal

abbrev pub invariant-loop-edge : goal.invariant-loop-edge
invariant-loop-edge l = record {
  kept : IsKept l.rows;
  shown : shown_rows l.rows ≡ set (shown_rows l.fn.rows) l.row (take l.edge-index l.edges);
}
