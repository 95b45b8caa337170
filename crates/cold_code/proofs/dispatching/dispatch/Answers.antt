use Rattle.std.proofs.Common.{◌+◌, ◌*◌, ◌∷◌, [], ◌++◌, ◌<◌, length, rules, ap, ◌∙◌}
use Rattle.ia_encode.specs.declared.item.Item.TheVariants as item
use Rattle.block_cut.specs.Transfers.{is_among}
use Rattle.fall_stubs.specs.Exchange.{reg_from_slot}
use Rattle.fall_stubs.proofs.Parts.{anyway, follows}
use Rattle.cold_code.specs.Around.{named}
use Rattle.cold_code.specs.Dispatcher.{tree, hits, missed, dispatcher_of}
use Rattle.cold_code.proofs.Upto.{upto_none, upto_as, upto_more, upto_grew, upto_grew_part}
use Rattle.cold_code.proofs.Meeting.{dispatcher_some}
use Rattle.cold_code.proofs.dispatching.dispatch.Goals as goal

pub returns-in_err-tree-clause-err : goal.returns-in_err-tree-clause-err
returns-in_err-tree-clause-err c =
    let old = c.args.p.now in
    let l = c.args.all.now in
    let n = length l in
    let some : 0 < n = search rules in
    let is = is_among c.args.around.now.blocks.now in
    let all = dispatcher_of (named c.args.around.now.naming) is l in
    let search = tree n l 0 (1 + n) (2 + n) in
    let rest = hits (named c.args.around.now.naming) is l 0 (2 + 2 * n) ++ missed (1 + n) (2 + 3 * n) in
    let front = item.Inst (reg_from_slot 0 15) ∷ [] in
    let u = upto_more old old c.put.new.self all front (search ++ rest) (upto_as old old all all (front ++ (search ++ rest)) (upto_none old all) (dispatcher_some (named c.args.around.now.naming) is l some)) (c.in_ok-put.ensures.ok ∙ ap (λ i. old ++ item.Inst i ∷ []) c.load.ensures.value) in
    anyway _ (upto_grew_part old c.put.new.self c.tree.new.p all search rest u c.in_err-tree.ensures.err)

pub returns-in_err-hits-clause-err : goal.returns-in_err-hits-clause-err
returns-in_err-hits-clause-err c =
    let old = c.args.p.now in
    let l = c.args.all.now in
    let n = length l in
    let some : 0 < n = search rules in
    let is = is_among c.args.around.now.blocks.now in
    let all = dispatcher_of (named c.args.around.now.naming) is l in
    let search = tree n l 0 (1 + n) (2 + n) in
    let met = hits (named c.args.around.now.naming) is l 0 (2 + 2 * n) in
    let rest = missed (1 + n) (2 + 3 * n) in
    let front = item.Inst (reg_from_slot 0 15) ∷ [] in
    let u = upto_more old old c.put.new.self all front (search ++ (met ++ rest)) (upto_as old old all all (front ++ (search ++ (met ++ rest))) (upto_none old all) (dispatcher_some (named c.args.around.now.naming) is l some)) (c.in_ok-put.ensures.ok ∙ ap (λ i. old ++ item.Inst i ∷ []) c.load.ensures.value) in
    let v = upto_more old c.put.new.self c.tree.new.p all search (met ++ rest) u c.in_ok-tree.ensures.ok in
    anyway _ (upto_grew_part old c.tree.new.p c.hits.new.p all met rest v c.in_err-hits.ensures.err)

pub returns-clause-err : goal.returns-clause-err
returns-clause-err c =
    let old = c.args.p.now in
    let l = c.args.all.now in
    let n = length l in
    let some : 0 < n = search rules in
    let is = is_among c.args.around.now.blocks.now in
    let all = dispatcher_of (named c.args.around.now.naming) is l in
    let search = tree n l 0 (1 + n) (2 + n) in
    let met = hits (named c.args.around.now.naming) is l 0 (2 + 2 * n) in
    let rest = missed (1 + n) (2 + 3 * n) in
    let front = item.Inst (reg_from_slot 0 15) ∷ [] in
    let u = upto_more old old c.put.new.self all front (search ++ (met ++ rest)) (upto_as old old all all (front ++ (search ++ (met ++ rest))) (upto_none old all) (dispatcher_some (named c.args.around.now.naming) is l some)) (c.in_ok-put.ensures.ok ∙ ap (λ i. old ++ item.Inst i ∷ []) c.load.ensures.value) in
    let v = upto_more old c.put.new.self c.tree.new.p all search (met ++ rest) u c.in_ok-tree.ensures.ok in
    let w = upto_more old c.tree.new.p c.hits.new.p all met rest v c.in_ok-hits.ensures.ok in
    follows _ c.missed.ensures.err (λ g. upto_grew old c.hits.new.p c.missed.new.p all rest w g)
