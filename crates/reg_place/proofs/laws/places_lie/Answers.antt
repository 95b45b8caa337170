use Rattle.reg_place.proofs.Lie.{places_lie, homes_lie}
use Rattle.reg_place.proofs.laws.places_lie.Goals as goal

pub returns : goal.returns
returns c = record { places = places_lie; homes = homes_lie }
