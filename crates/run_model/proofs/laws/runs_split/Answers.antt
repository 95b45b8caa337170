use Rattle.run_model.proofs.SplitRuns.{split_run, split_edges, split_defined}
use Rattle.run_model.proofs.laws.runs_split.Goals as goal

pub returns : goal.returns
returns c = record { state = split_run; edges = split_edges; defined = split_defined }
