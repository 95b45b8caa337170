use Rattle.std.proofs.Common.{◌≡◌, ◌++◌, drop}
use Rattle.block_cut.specs.CountedEdges.{counting}
use Rattle.flow_graph.proofs.counting.counting.Given as goal

abbrev pub invariant-loop-edge : goal.invariant-loop-edge
invariant-loop-edge l = l.counted.items ++ counting l.exe (drop l.edge-index l.edges) ≡ counting l.exe l.edges
