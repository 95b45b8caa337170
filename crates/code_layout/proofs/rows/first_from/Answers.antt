use Rattle.std.proofs.Common.{◌+◌, ◌-◌, ◌/◌, arith}
use Rattle.code_layout.proofs.Found.{after_middle, before_middle}
use Rattle.code_layout.proofs.rows.first_from.Goals as goal

pub loop-low-preserved-then-rows-middle : goal.loop-low-preserved-then-rows-middle
loop-low-preserved-then-rows-middle c = record {
  order = omega arith;
  top = c.loop-low.invariant.top;
  below = before_middle c.args.rows.now c.requires (c.loop-low.low + (c.loop-low.high - c.loop-low.low) / 2) c.args.start _ (omega arith) c.if-rows-middle.true;
  from = c.loop-low.invariant.from;
}

pub loop-low-preserved : goal.loop-low-preserved
loop-low-preserved c = record {
  order = omega arith;
  top = omega arith;
  below = c.loop-low.invariant.below;
  from = after_middle c.args.rows.now c.requires (c.loop-low.low + (c.loop-low.high - c.loop-low.low) / 2) c.args.start _ (omega arith) c.if-rows-middle.false;
}
