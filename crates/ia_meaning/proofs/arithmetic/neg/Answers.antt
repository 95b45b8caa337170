use Rattle.std.proofs.Common.{false, rules}
use Rattle.ia_inst.specs.Meaning.{meaning, of_sum}
use Rattle.br_word.specs.Flags.{sub_result}
use Rattle.ia_meaning.proofs.arithmetic.neg.Goals as goal

pub returns : goal.returns
unfolding meaning
returns c k = rw c.in_ok-a.ensures.value (c.finish.ensures (of_sum (sub_result c.args.w 0 c.in_ok-a.a false)) k (search rules) (search rules))
