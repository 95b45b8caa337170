use Rattle.build_core.proofs.image.graph_of.Goals as goal

pub returns-in-Ok-clause-graph : goal.returns-in-Ok-clause-graph
returns-in-Ok-clause-graph c = c.one_graph.ensures.only c.args.exe.now c.args.edges.now c.in-Ok.graph.nodes c.requires c.in-Ok.ensures.graph
