use Rattle.std.proofs.Common.{arith, ◌∙◌}
use Rattle.pass_copy.proofs.Steps.{step_more}
use Rattle.pass_copy.proofs.folding.fold.Goals as goal

pub loop-index-preserved : goal.loop-index-preserved
loop-index-preserved c =
    let q = c.in_ok-push-2.ensures in
    let h = step_more c.args.b.now.lines c.loop-index.lines _ c.loop-index.stands.items _ _ c.loop-index.index _ _ _ _ _ (omega arith) c.loop-index.invariant.count c.as_slice.ensures.value c.line.ensures c.line_replaced-line.ensures c.rule_of-name.ensures c.kept.ensures c.stand.ensures c.in_ok-push.ensures q.items in
    record { count = omega (arith, q.len, c.loop-index.invariant.count); lines = h.0 ∙ c.loop-index.invariant.lines; stands = h.1 ∙ c.loop-index.invariant.stands }
