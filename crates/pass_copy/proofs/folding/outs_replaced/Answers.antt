use Rattle.std.proofs.Common.{arith}
use Rattle.pass_copy.specs.Folded.{replaced}
use Rattle.pass_copy.proofs.Steps.{outs_more}
use Rattle.pass_copy.proofs.folding.outs_replaced.Goals as goal

pub loop-out-preserved : goal.loop-out-preserved
loop-out-preserved c = outs_more (replaced c.args.stands.now) c.args.outs.now c.loop-out.out-items c.loop-out.out-index _ _ (omega arith) c.loop-out.invariant c.replaced.ensures
