use Rattle.par_moves.proofs.AtOnce.{act_at_once}
use Rattle.par_moves.proofs.laws.moves_at_once.Goals as goal

pub returns : goal.returns
returns c = act_at_once
