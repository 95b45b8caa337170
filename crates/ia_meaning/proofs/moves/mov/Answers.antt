use Rattle.ia_inst.specs.Meaning.{meaning}
use Rattle.ia_meaning.proofs.moves.mov.Goals as goal

pub returns : goal.returns
unfolding meaning
returns c k = rw c.in_ok-v.ensures.value (c.finish_plain.ensures k)
