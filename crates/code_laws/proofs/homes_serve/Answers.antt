use Rattle.code_laws.proofs.HomesApart.{homes_serve, homes_apart}
use Rattle.code_laws.proofs.homes_serve.Goals as goal

pub returns : goal.returns
returns c = record {
  lines = homes_serve c.places_lie.ensures.places c.places_lie.ensures.homes;
  moves = homes_apart c.places_lie.ensures.homes;
}
