use Rattle.ia_encode.proofs.RoundTrip.{canonical_back}
use Rattle.ia_encode.proofs.ItemsStand as stand
use Rattle.ia_encode.proofs.laws.items_stand.Goals as goal

pub returns : goal.returns
returns c = stand.items_stand canonical_back
