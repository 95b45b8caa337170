use Rattle.ia_inst.specs.Meaning.{meaning}
use Rattle.ia_meaning.proofs.control.setcc.Goals as goal

pub returns : goal.returns
unfolding meaning
returns c k = rw c.condition-holds.ensures (c.finish_plain.ensures k)
