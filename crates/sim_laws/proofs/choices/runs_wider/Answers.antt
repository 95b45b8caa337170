use Rattle.sim_laws.proofs.Widen.{run_more}
use Rattle.sim_laws.proofs.choices.runs_wider.Goals as goal

pub returns : goal.returns
returns c = λ low extra n s fl choices x h g w. run_more low extra x n s fl choices h g w
