use Rattle.std.proofs.Common.{arith}
use Rattle.live_flow.proofs.Places.{at_or_above, below}
use Rattle.live_flow.proofs.links.place_of.Goals as goal

pub loop-low-preserved-then-rows-mid : goal.loop-low-preserved-then-rows-mid
loop-low-preserved-then-rows-mid c = record {
  top = c.loop-low.invariant.top;
  from = at_or_above c.args.rows.now c.args.start _ c.index-rows-mid.result c.requires.ascending c.requires.there (omega arith) c.if-rows-mid.true;
  to = c.loop-low.invariant.to;
}

pub loop-low-preserved : goal.loop-low-preserved
loop-low-preserved c = record {
  top = omega arith;
  from = c.loop-low.invariant.from;
  to = below c.args.rows.now c.args.start _ c.index-rows-mid.result c.requires.ascending c.requires.there (omega arith) c.if-rows-mid.false;
}
