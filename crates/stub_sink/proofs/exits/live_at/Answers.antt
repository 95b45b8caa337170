use Rattle.std.proofs.Common.{arith}
use Rattle.stub_sink.proofs.Sets.{live_more}
use Rattle.stub_sink.proofs.exits.live_at.Goals as goal

pub loop-exit-preserved : goal.loop-exit-preserved
loop-exit-preserved c = λ v. live_more c.args.exits.now c.loop-exit.live c.loop-exit.exit-index v (0, 0) _ (omega arith) (c.loop-exit.invariant v)
