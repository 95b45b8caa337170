use Rattle.std.proofs.Common.{◌∷◌, [], ◌++◌, ◌∙◌}
use Rattle.ia_inst.specs.declared.inst.Inst.TheVariants.{JmpRm}
use Rattle.ia_encode.specs.declared.item.Item.TheVariants as item
use Rattle.par_moves.specs.declared.locations.Place.TheVariants.{Slot}
use Rattle.par_moves.specs.Locations.{rm_of}
use Rattle.fall_stubs.specs.Exchange.{restore_items}
use Rattle.fall_stubs.proofs.Parts.{anyway, follows, grew_whole, grew_more, grew_wider}
use Rattle.cold_code.proofs.dispatching.missed.Goals as goal

pub returns-in_err-restore-clause-err : goal.returns-in_err-restore-clause-err
returns-in_err-restore-clause-err c =
    let part = restore_items c.args.label in
    let jump = item.Inst (JmpRm (rm_of (Slot 15))) ∷ [] in
    anyway _ (grew_more c.args.p.now c.label.new.self c.restore.new.p (item.Label c.args.miss ∷ []) (part ++ jump) c.in_ok-label.ensures.ok (grew_wider c.label.new.self c.restore.new.p part jump c.in_err-restore.ensures.err))

pub returns-clause-err : goal.returns-clause-err
returns-clause-err c =
    let part = restore_items c.args.label in
    let jump = item.Inst (JmpRm (rm_of (Slot 15))) ∷ [] in
    follows _ c.put.ensures.err (λ h. grew_more c.args.p.now c.label.new.self c.put.new.self (item.Label c.args.miss ∷ []) (part ++ jump) c.in_ok-label.ensures.ok (grew_whole c.label.new.self c.put.new.self part jump (h ∙ c.in_ok-restore.ensures.ok)))
