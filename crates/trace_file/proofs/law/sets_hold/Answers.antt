use Rattle.trace_file.proofs.Sets as Proved
use Rattle.trace_file.proofs.law.sets_hold.Goals as goal

pub returns : goal.returns
returns c = Proved.sets_hold
