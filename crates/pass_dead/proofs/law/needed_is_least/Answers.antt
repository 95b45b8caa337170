use Rattle.pass_dead.proofs.Bools.{and_left, and_right}
use Rattle.pass_dead.proofs.Least.{needed_least}
use Rattle.pass_dead.proofs.law.needed_is_least.Goals as goal

pub returns : goal.returns
returns c = λ b roots whole. needed_least b.lines roots (and_left _ _ (and_right _ _ whole))
