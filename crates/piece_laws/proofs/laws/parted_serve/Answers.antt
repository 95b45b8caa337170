use Rattle.piece_laws.proofs.Parted as parted
use Rattle.piece_laws.proofs.laws.parted_serve.Goals as goal

pub returns : goal.returns
returns c = parted.parted_serve c.places_serve.ensures
