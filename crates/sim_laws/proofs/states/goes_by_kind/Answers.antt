use Rattle.sim_laws.proofs.KindsLead.{goes_by_kind}
use Rattle.sim_laws.proofs.states.goes_by_kind.Goals as goal

pub returns : goal.returns
returns c = λ i n s t c e. goes_by_kind i n s t c e
