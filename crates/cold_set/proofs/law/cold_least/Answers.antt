use Rattle.cold_set.proofs.ColdRounds.{is_least}
use Rattle.cold_set.proofs.law.cold_least.Goals as goal

pub returns : goal.returns
returns c = is_least
