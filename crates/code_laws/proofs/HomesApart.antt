-- The homes of virtual registers serve.
use Rattle.std.proofs.Common.{◌≡◌, ℕ, ◌<◌, sym, ap, ◌∙◌, subst, arith}
use Rattle.par_moves.specs.declared.locations.Place.{Place}
use Rattle.par_moves.specs.Homes.{home_of}
use Rattle.par_moves.specs.Locations.{same_place, InRange, IsKept}
use Rattle.reg_place.specs.Laws.{PlacesLie, HomesLie}
use Rattle.reg_place.specs.Places.{place_of}
use Rattle.code_laws.specs.Placed.{HomesServe}
use Rattle.code_laws.specs.Moves.{HomesApart}

pub homes_serve : PlacesLie → HomesLie → HomesServe
homes_serve places homes limit place each = record {
  homes = homes.kept;
  homes_fit = homes.fit;
  places = λ j l. let e = each j l in subst IsKept (sym e.2) (places.kept e.0);
  places_fit = λ j l. let e = each j l in subst InRange (sym e.2) (places.fit e.0 e.1);
  apart = λ v j l m. let e = each j m in ap (same_place (home_of v)) e.2 ∙ homes.places v e.0 l;
}

pub homes_apart : HomesLie → HomesApart home_of
homes_apart homes = record { each = homes.apart; spare = λ v l. homes.slots v 16 l (omega arith) }
