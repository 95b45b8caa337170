use Rattle.std.proofs.Common.{◌∷◌, [], ◌++◌, sym, ap, ◌∙◌}
use Rattle.ia_encode.specs.declared.item.Item.TheVariants as item
use Rattle.par_moves.specs.Homes.{register_homes}
use Rattle.fall_stubs.specs.Exchange.{closing_items}
use Rattle.fall_stubs.proofs.Parts.{follows, grew_more}
use Rattle.cold_code.specs.Around.{named}
use Rattle.cold_code.specs.Copies.{pop_to_slot, pop_more}
use Rattle.cold_code.proofs.Upto.{grew_as}
use Rattle.cold_code.proofs.ends.give_back.Goals as goal

pub returns-clause-err : goal.returns-clause-err
returns-clause-err c =
    let turn = closing_items register_homes (named c.args.naming 0) in
    let e = c.in_ok-put.ensures.ok ∙ ap (λ i. c.args.p.now ++ item.Inst i ∷ []) c.pop.ensures.value in
    follows _ c.close.ensures.err (λ g. grew_more c.args.p.now c.put.new.self c.close.new.p (pop_to_slot ∷ []) (pop_more c.args.count ++ turn) e (grew_more c.put.new.self c.drop_more.new.p c.close.new.p (pop_more c.args.count) turn c.in_ok-drop_more.ensures.ok (grew_as c.drop_more.new.p c.close.new.p turn (closing_items register_homes c.named.result) (ap (λ d. closing_items register_homes d) (sym c.named.ensures)) g)))
