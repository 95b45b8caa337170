use Rattle.demo_laws.proofs.Sites as Proved
use Rattle.demo_laws.proofs.laws.demo_sites.Goals as goal

pub returns : goal.returns
returns c = Proved.sites
