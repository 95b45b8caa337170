use Rattle.std.proofs.Common.{false, rules}
use Rattle.ia_inst.specs.Meaning.{meaning, of_step}
use Rattle.br_word.specs.Flags.{add_result}
use Rattle.ia_meaning.proofs.arithmetic.inc.Goals as goal

pub returns : goal.returns
unfolding meaning
returns c k = rw c.in_ok-a.ensures.value (c.finish.ensures (of_step (add_result c.args.w c.in_ok-a.a 1 false)) k (search rules) (search rules))
