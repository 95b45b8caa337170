use Rattle.std.proofs.Common.{rules}
use Rattle.ia_inst.specs.Meaning.{meaning}
use Rattle.ia_meaning.proofs.arithmetic.test.Goals as goal

pub returns : goal.returns
unfolding meaning
returns c k = rw c.in_ok-a.ensures.value (rw c.in_ok-b.ensures.value (search rules))
