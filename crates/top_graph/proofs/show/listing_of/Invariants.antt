use Rattle.std.proofs.Common.{◌≡◌, take, string_bytes}
use Rattle.top_graph.specs.ShowPlan.{listing}
use Rattle.top_graph.proofs.show.listing_of.Given as goal

abbrev pub invariant-loop-index : goal.invariant-loop-index
invariant-loop-index l = string_bytes l.text ≡ listing l.exe (take l.index l.graph.nodes)
