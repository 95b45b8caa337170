use Rattle.std.proofs.Common.{◌≡◌, ◌≤◌, ◌++◌, map, drop, length}
use Rattle.code_layout.specs.Keys.{row_in}
use Rattle.code_layout.proofs.live.rows_after.Given as goal

abbrev pub invariant-loop-index : goal.invariant-loop-index
invariant-loop-index l = record {
  within : l.at ≤ length l.old;
  rows : l.rows.items ++ map (row_in l.exe) (drop l.index l.graph.nodes) ≡ map (row_in l.exe) l.graph.nodes;
}
