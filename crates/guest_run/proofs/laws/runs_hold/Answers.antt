use Rattle.guest_run.proofs.StepsOfRun as Proved
use Rattle.guest_run.proofs.laws.runs_hold.Goals as goal

pub returns : goal.returns
returns c = Proved.runs_hold
