use Rattle.cold_laws.proofs.InTurn.{copies_turn}
use Rattle.cold_laws.proofs.turning.copies_turn.Goals as goal

pub returns : goal.returns
returns c = copies_turn c.goes_by_kind.ensures
