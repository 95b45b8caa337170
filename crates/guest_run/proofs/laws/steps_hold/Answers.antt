use Rattle.guest_run.proofs.StepsOfRun as Proved
use Rattle.guest_run.proofs.laws.steps_hold.Goals as goal

pub returns : goal.returns
returns c = Proved.steps_hold
