use Rattle.std.proofs.Common.{◌+◌, ◌-◌, ◌/◌, arith}
use Rattle.flow_graph.proofs.SiteRuns.{after_middle, before_middle}
use Rattle.flow_graph.proofs.site_search.first_at.Goals as goal

pub loop-low-preserved-then-edges-middle : goal.loop-low-preserved-then-edges-middle
loop-low-preserved-then-edges-middle c = record {
  order = omega arith;
  top = c.loop-low.invariant.top;
  below = before_middle c.args.edges.now (c.loop-low.low + (c.loop-low.high - c.loop-low.low) / 2) c.args.site c.requires (omega arith) c.if-edges-middle.true;
  from = c.loop-low.invariant.from;
}

pub loop-low-preserved : goal.loop-low-preserved
loop-low-preserved c = record {
  order = omega arith;
  top = omega arith;
  below = c.loop-low.invariant.below;
  from = after_middle c.args.edges.now (c.loop-low.low + (c.loop-low.high - c.loop-low.low) / 2) c.args.site c.requires (omega arith) c.if-edges-middle.false;
}
