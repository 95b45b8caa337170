use Rattle.std.proofs.Common.{◌∷◌, [], ◌++◌, sym, ap, ◌∙◌}
use Rattle.ia_encode.specs.declared.item.Item.TheVariants as item
use Rattle.par_moves.specs.Homes.{register_homes}
use Rattle.fall_stubs.specs.Exchange.{closing_items}
use Rattle.fall_stubs.proofs.Parts.{anyway, follows, grew_whole, grew_more}
use Rattle.cold_code.specs.Around.{named}
use Rattle.cold_code.specs.Copies.{aim, push_next}
use Rattle.cold_code.proofs.Upto.{grew_as}
use Rattle.cold_code.proofs.ends.call_by.Goals as goal

pub returns-in_err-put-clause-err : goal.returns-in_err-put-clause-err
returns-in_err-put-clause-err c =
    let turn = closing_items register_homes (named c.args.naming 0) in
    anyway _ (grew_whole c.args.p.now c.put.new.self (aim c.args.target) (push_next c.args.next ∷ turn) (c.in_err-put.ensures.err ∙ c.in_ok-aim.ensures.ok))

pub returns-clause-err : goal.returns-clause-err
returns-clause-err c =
    let turn = closing_items register_homes (named c.args.naming 0) in
    let e = c.in_ok-put.ensures.ok ∙ ap (λ i. c.aim.new.p ++ item.Inst i ∷ []) c.push.ensures.value in
    follows _ c.close.ensures.err (λ g. grew_more c.args.p.now c.aim.new.p c.close.new.p (aim c.args.target) (push_next c.args.next ∷ turn) c.in_ok-aim.ensures.ok (grew_more c.aim.new.p c.put.new.self c.close.new.p (push_next c.args.next ∷ []) turn e (grew_as c.put.new.self c.close.new.p turn (closing_items register_homes c.named.result) (ap (λ d. closing_items register_homes d) (sym c.named.ensures)) g)))
