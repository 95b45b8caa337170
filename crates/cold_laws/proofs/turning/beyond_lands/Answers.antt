use Rattle.cold_laws.proofs.InTurn.{beyond_lands}
use Rattle.cold_laws.proofs.turning.beyond_lands.Goals as goal

pub returns : goal.returns
returns c = beyond_lands c.captures_joined.ensures.enters
