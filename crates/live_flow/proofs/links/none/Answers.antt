use Rattle.std.proofs.Common.{[], ◌∷◌, ◌++◌, ◌∙◌, get_or, ap, arith}
use Rattle.live_flow.proofs.Linking.{none_more}
use Rattle.live_flow.proofs.links.none.Goals as goal

pub loop-preserved : goal.loop-preserved
loop-preserved c =
    let q = c.in_ok-push.ensures in
    record {
      count = omega (arith, q.len, c.loop.invariant.count);
      empty = λ i. ap (λ t. get_or t i []) (q.items ∙ ap (λ x. c.loop.links.items ++ x ∷ []) c.new-empty.ensures) ∙ none_more c.loop.links.items c.loop.invariant.empty i;
    }
