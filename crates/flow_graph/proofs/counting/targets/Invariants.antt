use Rattle.std.proofs.Common.{◌≡◌, ◌++◌, map, drop}
use Rattle.run_model.specs.Edges.{Edge}
use Rattle.flow_graph.proofs.counting.targets.Given as goal

abbrev pub invariant-loop-edge : goal.invariant-loop-edge
invariant-loop-edge l = l.all.items ++ map (λ (e : Edge). e.1) (drop l.edge-index l.edges) ≡ map (λ (e : Edge). e.1) l.edges
