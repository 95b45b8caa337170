use Rattle.std.proofs.Common.{◌∙◌}
use Rattle.flow_graph.proofs.RowsShow.{cut_seen, cut_of_block}
use Rattle.flow_graph.proofs.graph.Graph.cut.Goals as goal

pub returns-clause-block : goal.returns-clause-block
returns-clause-block c = λ exe h.
    cut_seen c.self.inside.edges.items c.self.inside.targets.items c.self.inside.rows.items c.args.index c.index.result.now c.args.self.now c.index.ensures c.self.view_is c.requires
    ∙ cut_of_block exe c.args.self.now c.args.index c.requires h
