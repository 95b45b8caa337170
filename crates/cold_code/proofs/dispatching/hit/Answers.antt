use Rattle.std.proofs.Common.{◌∷◌, [], ◌++◌, sym, ◌∙◌, None}
use Rattle.ia_encode.specs.declared.item.Item.TheVariants as item
use Rattle.block_cut.specs.Transfers.{is_among}
use Rattle.fall_stubs.specs.Exchange.{restore_items}
use Rattle.fall_stubs.proofs.Parts.{anyway, follows, grew_whole, grew_wider}
use Rattle.cold_code.specs.Around.{named}
use Rattle.cold_code.specs.Dispatcher.{hit}
use Rattle.cold_code.proofs.Upto.{grew_as}
use Rattle.cold_code.proofs.Meeting.{hit_cold}
use Rattle.cold_code.proofs.dispatching.hit.Goals as goal

pub returns-in_err-restore-clause-err : goal.returns-in_err-restore-clause-err
returns-in_err-restore-clause-err c =
    let part = restore_items c.args.label in
    let jump = item.Jump None (named c.args.around.now.naming c.args.address) ∷ [] in
    anyway _ (grew_as c.args.p.now c.restore.new.p (hit (named c.args.around.now.naming) (is_among c.args.around.now.blocks.now c.args.address) c.args.address c.args.label) (part ++ jump) (hit_cold (named c.args.around.now.naming) _ c.args.address c.args.label (sym c.is_member.ensures ∙ c.if-is_member.false)) (grew_wider c.args.p.now c.restore.new.p part jump c.in_err-restore.ensures.err))

pub returns-in_ok-restore-clause-err : goal.returns-in_ok-restore-clause-err
returns-in_ok-restore-clause-err c =
    let part = restore_items c.args.label in
    let jump = item.Jump None (named c.args.around.now.naming c.args.address) ∷ [] in
    follows _ c.jump-else-is_member.ensures.err (λ h. grew_as c.args.p.now c.jump-else-is_member.new.self (hit (named c.args.around.now.naming) (is_among c.args.around.now.blocks.now c.args.address) c.args.address c.args.label) (part ++ jump) (hit_cold (named c.args.around.now.naming) _ c.args.address c.args.label (sym c.is_member.ensures ∙ c.if-is_member.false)) (grew_whole c.args.p.now c.jump-else-is_member.new.self part jump (h ∙ c.in_ok-restore.ensures.ok)))
