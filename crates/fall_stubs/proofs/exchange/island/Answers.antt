use Rattle.std.proofs.Common.{◌∙◌, ◌++◌, ◌∷◌, [], map, None}
use Rattle.ia_encode.specs.declared.item.Item.TheVariants as item
use Rattle.par_moves.specs.Homes.{register_homes}
use Rattle.fall_stubs.specs.Exchange.{spill_items, restore_items, capture_items, closing_items}
use Rattle.fall_stubs.proofs.Parts.{anyway, follows, goes_on, both, grew_whole, grew_more, grew_wider}
use Rattle.fall_stubs.proofs.exchange.island.Goals as goal

pub returns-in_err-restore-clause-err : goal.returns-in_err-restore-clause-err
returns-in_err-restore-clause-err c =
    let spilled = spill_items register_homes in
    let restored = restore_items c.args.label in
    let rest = map item.Byte c.args.bytes.now ++ closing_items register_homes c.args.next in
    anyway _ (grew_more c.args.p.now c.spill.new.p c.restore.new.p spilled (restored ++ rest) c.in_ok-spill.ensures.ok (grew_wider c.spill.new.p c.restore.new.p restored rest c.in_err-restore.ensures.err))

pub returns-in_err-put_bytes-clause-err : goal.returns-in_err-put_bytes-clause-err
returns-in_err-put_bytes-clause-err c =
    let spilled = spill_items register_homes in
    let restored = restore_items c.args.label in
    let rest = map item.Byte c.args.bytes.now ++ closing_items register_homes c.args.next in
    let e = both c.args.p.now c.spill.new.p c.restore.new.p spilled restored c.in_ok-spill.ensures.ok c.in_ok-restore.ensures.ok in
    anyway _ (grew_whole c.args.p.now c.put_bytes.new.self (spilled ++ restored) rest (c.in_err-put_bytes.ensures.err ∙ e))

pub returns-in_err-capture-clause-err : goal.returns-in_err-capture-clause-err
returns-in_err-capture-clause-err c =
    let spilled = spill_items register_homes in
    let restored = restore_items c.args.label in
    let own = map item.Byte c.args.bytes.now in
    let captured = capture_items register_homes in
    let jump = item.Jump None c.args.next ∷ [] in
    let e = both c.args.p.now c.spill.new.p c.restore.new.p spilled restored c.in_ok-spill.ensures.ok c.in_ok-restore.ensures.ok in
    anyway _ (grew_more c.args.p.now c.restore.new.p c.capture.new.p (spilled ++ restored) (own ++ (captured ++ jump)) e (grew_more c.restore.new.p c.put_bytes.new.self c.capture.new.p own (captured ++ jump) c.in_ok-put_bytes.ensures.ok (grew_wider c.put_bytes.new.self c.capture.new.p captured jump c.in_err-capture.ensures.err)))

pub returns-clause-err : goal.returns-clause-err
returns-clause-err c =
    let spilled = spill_items register_homes in
    let restored = restore_items c.args.label in
    let own = map item.Byte c.args.bytes.now in
    let captured = capture_items register_homes in
    let jump = item.Jump None c.args.next ∷ [] in
    let e = both c.args.p.now c.spill.new.p c.restore.new.p spilled restored c.in_ok-spill.ensures.ok c.in_ok-restore.ensures.ok in
    follows _ c.jump.ensures.err (λ h. grew_more c.args.p.now c.restore.new.p c.jump.new.self (spilled ++ restored) (own ++ (captured ++ jump)) e (grew_more c.restore.new.p c.put_bytes.new.self c.jump.new.self own (captured ++ jump) c.in_ok-put_bytes.ensures.ok (grew_whole c.put_bytes.new.self c.jump.new.self captured jump (h ∙ c.in_ok-capture.ensures.ok))))

pub returns-clause-ok : goal.returns-clause-ok
returns-clause-ok c =
    let spilled = spill_items register_homes in
    let restored = restore_items c.args.label in
    let own = map item.Byte c.args.bytes.now in
    let captured = capture_items register_homes in
    let jump = item.Jump None c.args.next ∷ [] in
    let e = both c.args.p.now c.spill.new.p c.restore.new.p spilled restored c.in_ok-spill.ensures.ok c.in_ok-restore.ensures.ok in
    goes_on _ c.jump.ensures.ok (λ h. both c.args.p.now c.restore.new.p c.jump.new.self (spilled ++ restored) (own ++ (captured ++ jump)) e (both c.restore.new.p c.put_bytes.new.self c.jump.new.self own (captured ++ jump) c.in_ok-put_bytes.ensures.ok (both c.put_bytes.new.self c.capture.new.p c.jump.new.self captured jump c.in_ok-capture.ensures.ok h)))
