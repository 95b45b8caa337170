use Rattle.std.proofs.Common.{ap, ◌∙◌}
use Rattle.trace_file.specs.Edges.{union_of}
use Rattle.top_graph.proofs.GraphRuns.{is_limited}
use Rattle.top_graph.proofs.show.graph_of.Goals as goal

pub returns-in-Ok-of-clause-graph : goal.returns-in-Ok-of-clause-graph
returns-in-Ok-of-clause-graph c =
    is_limited c.args.exe.now (union_of c.args.traces.items) c.in-Ok.edges c.in-Ok-of.graph.nodes c.one_graph.ensures c.requires.guest
    (c.in-Ok.ensures.value ∙ ap union_of c.as_slice.ensures.value) c.in-Ok-of.ensures.graph c.in-Ok-of.ensures.few
