use Rattle.std.proofs.Common.{◌∙◌, arith}
use Rattle.reg_place.proofs.Marks.{out_more, outs_done}
use Rattle.reg_place.proofs.uses.mark_outs.Goals as goal

pub loop-register-preserved : goal.loop-register-preserved
loop-register-preserved c = λ j l. out_more c.args.outs.now c.loop-register.register j _ _ _ _ _ (omega arith) (c.mark_val.ensures j (omega arith)) (c.loop-register.invariant j l)

pub returns : goal.returns
returns c = λ j l. outs_done c.args.outs.now c.loop-register.register j _ _ (omega (arith, c.told-outs)) ∙ c.loop-register.invariant j l
