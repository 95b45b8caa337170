use Rattle.flow_graph.proofs.StartSets.{are_least}
use Rattle.flow_graph.proofs.start_law.least_starts.Goals as goal

pub returns : goal.returns
returns c = are_least
