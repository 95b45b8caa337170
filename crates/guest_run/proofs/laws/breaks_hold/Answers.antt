use Rattle.guest_run.proofs.StepsOfRun as Proved
use Rattle.guest_run.proofs.laws.breaks_hold.Goals as goal

pub returns : goal.returns
returns c = Proved.breaks_hold
