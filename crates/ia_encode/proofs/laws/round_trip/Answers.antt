use Rattle.ia_encode.proofs.RoundTrip.{canonical_back}
use Rattle.ia_encode.proofs.laws.round_trip.Goals as goal

pub returns : goal.returns
returns c = canonical_back
