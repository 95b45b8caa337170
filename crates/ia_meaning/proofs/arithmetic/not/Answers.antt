use Rattle.ia_inst.specs.Meaning.{meaning}
use Rattle.ia_meaning.proofs.arithmetic.not.Goals as goal

pub returns : goal.returns
unfolding meaning
returns c k = rw c.in_ok-a.ensures.value (rw (← c.greatest.ensures) (c.finish_plain.ensures k))
