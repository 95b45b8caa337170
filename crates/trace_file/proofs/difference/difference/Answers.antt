use Rattle.std.proofs.Common.{◌≡◌, ◌+◌, ◌<◌, true, length, arith, sym, ap, ◌∙◌, rules}
use Rattle.std.proofs.lemmas.Grind.{common_steps}
use Rattle.trace_file.proofs.Without.{turn}
use Rattle.trace_file.proofs.difference.difference.Goals as goal

pub loop-edge-preserved : goal.loop-edge-preserved
loop-edge-preserved c = record {
  here = turn c.args.gone.now c.args.list.now c.loop-edge.next c.skipped-next.result c.loop-edge.edge-index _ c.is_from-is_gone.result c.loop-edge.rest.items c.keep_unless.new.rest.items _ c.is_from-is_gone.ensures c.in_ok-keep_unless.ensures c.requires.list c.loop-edge-test.true c.skipped-next.ensures.rest c.loop-edge.invariant.here;
  within = c.skipped-next.ensures.within;
}
