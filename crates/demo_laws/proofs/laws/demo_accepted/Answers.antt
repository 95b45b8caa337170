use Rattle.demo_laws.proofs.Accepted as Proved
use Rattle.demo_laws.proofs.laws.demo_accepted.Goals as goal

pub returns : goal.returns
returns c = Proved.is_accepted c.flat_accepted.ensures
