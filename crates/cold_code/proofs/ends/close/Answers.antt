use Rattle.std.proofs.Common.{◌∷◌, [], None, ◌∙◌}
use Rattle.ia_encode.specs.declared.item.Item.TheVariants as item
use Rattle.par_moves.specs.Homes.{register_homes}
use Rattle.fall_stubs.specs.Exchange.{capture_items}
use Rattle.fall_stubs.proofs.Parts.{anyway, follows, grew_whole, grew_wider}
use Rattle.cold_code.proofs.ends.close.Goals as goal

pub returns-in_err-capture-clause-err : goal.returns-in_err-capture-clause-err
returns-in_err-capture-clause-err c =
    anyway _ (grew_wider c.args.p.now c.capture.new.p (capture_items register_homes) (item.Jump None c.args.next ∷ []) c.in_err-capture.ensures.err)

pub returns-clause-err : goal.returns-clause-err
returns-clause-err c =
    follows _ c.jump.ensures.err (λ h. grew_whole c.args.p.now c.jump.new.self (capture_items register_homes) (item.Jump None c.args.next ∷ []) (h ∙ c.in_ok-capture.ensures.ok))
