use Rattle.piece_laws.proofs.Joined as joined
use Rattle.piece_laws.proofs.laws.items_are_pieces.Goals as goal

pub returns : goal.returns
returns c = joined.items_are_pieces
