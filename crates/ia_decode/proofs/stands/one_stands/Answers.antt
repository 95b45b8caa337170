use Rattle.ia_decode.proofs.FoundSpelled.{one_stands}
use Rattle.ia_decode.proofs.stands.one_stands.Goals as goal

pub returns : goal.returns
returns c = one_stands
