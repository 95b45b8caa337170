use Rattle.std.proofs.Common.{◌≡◌, ◌++◌, drop}
use Rattle.flow_graph.specs.Graph.{starts_in}
use Rattle.cold_copy.specs.ColdCode.{reentered_from}
use Rattle.cold_copy.proofs.starts.reentered.Given as goal

abbrev pub invariant-loop-index : goal.invariant-loop-index
invariant-loop-index l =
    l.found.items ++ reentered_from l.fn.exe l.fn.outs (starts_in (drop l.index l.graph.nodes)) ≡ reentered_from l.fn.exe l.fn.outs (starts_in l.graph.nodes)
