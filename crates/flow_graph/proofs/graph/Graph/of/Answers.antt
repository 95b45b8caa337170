use Rattle.std.proofs.Common.{refl, ap, ◌∙◌}
use Rattle.block_cut.specs.CountedEdges.{counting}
use Rattle.flow_graph.proofs.RowsShow.{counted_again, counted_edges}
use Rattle.flow_graph.proofs.KnownCuts.{none_known}
use Rattle.flow_graph.proofs.graph.Graph.of.Goals as goal

pub of_counted-requires-clause-edges : goal.of_counted-requires-clause-edges
of_counted-requires-clause-edges c = counted_edges c.args.exe.now c.args.edges.now c.in_ok-counted.counted.items (c.in_ok-counted.ensures ∙ ap (counting c.args.exe.now) c.as_slice.ensures.value) c.as_slice.ensures.edges

pub of_counted-requires-clause-counted : goal.of_counted-requires-clause-counted
of_counted-requires-clause-counted c = counted_again c.args.exe.now c.as_slice.result.now c.in_ok-counted.counted.items c.in_ok-counted.ensures

pub of_counted-requires-clause-known : goal.of_counted-requires-clause-known
of_counted-requires-clause-known c = none_known c.args.exe.now _ refl
