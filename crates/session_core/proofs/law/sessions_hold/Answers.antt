use Rattle.session_core.proofs.CallsHold.{hold}
use Rattle.session_core.proofs.law.sessions_hold.Goals as goal

pub returns : goal.returns
returns c = hold
