use Rattle.piece_laws.proofs.Suited as suited
use Rattle.piece_laws.proofs.laws.suits_hold.Goals as goal

pub returns : goal.returns
returns c = suited.suits_hold c.places_serve.ensures
