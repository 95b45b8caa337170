use Rattle.std.proofs.Common.{◌∙◌, ◌++◌, ◌∷◌, [], map, ap}
use Rattle.ia_encode.specs.declared.item.Item.TheVariants as item
use Rattle.fall_stubs.specs.Exchange.{reg_from_slot, joined}
use Rattle.fall_stubs.proofs.Parts.{anyway, follows, both, grew_whole}
use Rattle.fall_stubs.proofs.exchange.join_flags.Goals as goal

pub returns-in_err-join-2-clause-err : goal.returns-in_err-join-2-clause-err
returns-in_err-join-2-clause-err c =
    let first = item.Inst (reg_from_slot 0 8) ∷ [] in
    let e = both c.args.p.now c.append.new.self c.join.new.p first (map item.Inst (joined 9 2)) (c.in_ok-append.ensures.ok ∙ ap (λ x. c.args.p.now ++ item.Inst x ∷ []) c.load.ensures.value) c.in_ok-join.ensures.ok in
    anyway _ (grew_whole c.args.p.now c.join-2.new.p (first ++ map item.Inst (joined 9 2)) (map item.Inst (joined 10 6 ++ joined 11 7)) (c.in_err-join-2.ensures.err ∙ e))

pub returns-clause-err : goal.returns-clause-err
returns-clause-err c =
    let first = item.Inst (reg_from_slot 0 8) ∷ [] in
    let e = both c.args.p.now c.append.new.self c.join.new.p first (map item.Inst (joined 9 2)) (c.in_ok-append.ensures.ok ∙ ap (λ x. c.args.p.now ++ item.Inst x ∷ []) c.load.ensures.value) c.in_ok-join.ensures.ok in
    let f = both c.args.p.now c.join.new.p c.join-2.new.p (first ++ map item.Inst (joined 9 2)) (map item.Inst (joined 10 6)) e c.in_ok-join-2.ensures.ok in
    follows _ c.join-3.ensures.err (λ h. grew_whole c.args.p.now c.join-3.new.p ((first ++ map item.Inst (joined 9 2)) ++ map item.Inst (joined 10 6)) (map item.Inst (joined 11 7)) (h ∙ f))
