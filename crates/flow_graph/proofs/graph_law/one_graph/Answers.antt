use Rattle.flow_graph.proofs.OneList.{is_one_graph}
use Rattle.flow_graph.proofs.graph_law.one_graph.Goals as goal

pub returns : goal.returns
returns c = is_one_graph c.following_above.ensures
