use Rattle.sim_runs.proofs.WholeBlock.{all_lines_serve}
use Rattle.sim_runs.proofs.fragments.all_lines_serve.Goals as goal

pub returns : goal.returns
returns c = all_lines_serve
