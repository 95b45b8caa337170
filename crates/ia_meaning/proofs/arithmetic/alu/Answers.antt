use Rattle.ia_inst.specs.Meaning.{meaning, alu}
use Rattle.ia_meaning.proofs.arithmetic.alu.Goals as goal

pub returns : goal.returns
unfolding meaning
returns c k = rw c.carry_in-carry.ensures (rw c.in_ok-a.ensures.value (rw c.in_ok-b.ensures.value (c.put_sum.ensures (alu c.args.op c.args.w c.in_ok-a.a c.in_ok-b.b c.carry_in-carry.result) k c.alu_sum-sum.ensures.sum)))
