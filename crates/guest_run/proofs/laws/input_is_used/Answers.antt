use Rattle.guest_run.proofs.InputUsed as Proved
use Rattle.guest_run.proofs.laws.input_is_used.Goals as goal

pub returns : goal.returns
returns c = Proved.input_is_used
