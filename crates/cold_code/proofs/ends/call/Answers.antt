use Rattle.std.proofs.Common.{◌∷◌, [], ◌++◌, ap, ◌∙◌}
use Rattle.ia_encode.specs.declared.item.Item.TheVariants as item
use Rattle.fall_stubs.proofs.Parts.{follows, grew_more}
use Rattle.cold_code.specs.Copies.{part, push_next}
use Rattle.cold_code.specs.Around.{around}
use Rattle.cold_code.proofs.ends.call.Goals as goal

pub returns-clause-err : goal.returns-clause-err
returns-clause-err c =
    let e = c.in_ok-put.ensures.ok ∙ ap (λ i. c.args.p.now ++ item.Inst i ∷ []) c.push.ensures.value in
    follows _ c.part.ensures.err (λ g. grew_more c.args.p.now c.put.new.self c.part.new.p (push_next c.args.next ∷ []) (part (around c.args.starts.now) c.args.target) e g)
