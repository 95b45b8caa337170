use Rattle.std.proofs.Common.{◌∷◌, [], ◌++◌, Some, ◌∙◌}
use Rattle.ia_encode.specs.declared.item.Dest.TheVariants as dests
use Rattle.ia_encode.specs.declared.item.Item.TheVariants as item
use Rattle.fall_stubs.proofs.Parts.{anyway, follows, grew_whole, grew_more, grew_wider}
use Rattle.cold_code.specs.Copies.{part}
use Rattle.cold_code.specs.Around.{around}
use Rattle.cold_code.proofs.ends.either.Goals as goal

pub returns-in_err-part-clause-err : goal.returns-in_err-part-clause-err
returns-in_err-part-clause-err c =
    let jump = item.Jump (Some c.args.cond) (dests.Label 1) ∷ [] in
    let first = part (around c.args.starts.now) c.args.next in
    let rest = item.Label 1 ∷ part (around c.args.starts.now) c.args.taken in
    anyway _ (grew_more c.args.p.now c.jump.new.self c.part.new.p jump (first ++ rest) c.in_ok-jump.ensures.ok (grew_wider c.jump.new.self c.part.new.p first rest c.in_err-part.ensures.err))

pub returns-in_err-label-clause-err : goal.returns-in_err-label-clause-err
returns-in_err-label-clause-err c =
    let jump = item.Jump (Some c.args.cond) (dests.Label 1) ∷ [] in
    let first = part (around c.args.starts.now) c.args.next in
    let rest = item.Label 1 ∷ part (around c.args.starts.now) c.args.taken in
    anyway _ (grew_more c.args.p.now c.jump.new.self c.label.new.self jump (first ++ rest) c.in_ok-jump.ensures.ok (grew_whole c.jump.new.self c.label.new.self first rest (c.in_err-label.ensures.err ∙ c.in_ok-part.ensures.ok)))

pub returns-clause-err : goal.returns-clause-err
returns-clause-err c =
    let jump = item.Jump (Some c.args.cond) (dests.Label 1) ∷ [] in
    let first = part (around c.args.starts.now) c.args.next in
    let second = part (around c.args.starts.now) c.args.taken in
    follows _ c.part-2.ensures.err (λ g. grew_more c.args.p.now c.jump.new.self c.part-2.new.p jump (first ++ (item.Label 1 ∷ second)) c.in_ok-jump.ensures.ok (grew_more c.jump.new.self c.part.new.p c.part-2.new.p first (item.Label 1 ∷ second) c.in_ok-part.ensures.ok (grew_more c.part.new.p c.label.new.self c.part-2.new.p (item.Label 1 ∷ []) second c.in_ok-label.ensures.ok g)))
