use Rattle.std.proofs.Common.{◌≡◌, ◌+◌, ◌∷◌, [], ◌++◌, drop, get_or, arith}
use Rattle.std.proofs.lemmas.List.{drop_all}
use Rattle.ia_encode.specs.declared.item.Item.TheVariants as item
use Rattle.block_cut.specs.Transfers.{is_among}
use Rattle.fall_stubs.proofs.Parts.{anyway}
use Rattle.cold_code.specs.Around.{named}
use Rattle.cold_code.specs.Dispatcher.{hit, hits}
use Rattle.cold_code.proofs.Upto.{upto_none, upto_as, upto_more, upto_done, upto_same, upto_grew_part}
use Rattle.cold_code.proofs.Meeting.{next_hit, no_hit, all_hits}
use Rattle.cold_code.proofs.dispatching.hits.Goals as goal

pub loop-index-init : goal.loop-index-init
loop-index-init c =
    let is = is_among c.args.around.now.blocks.now in
    let all = hits (named c.args.around.now.naming) is c.args.all.now 0 c.args.label in
    upto_as c.args.p.now c.args.p.now all all (hits (named c.args.around.now.naming) is (drop 0 c.args.all.now) 0 (c.args.label + 0)) (upto_none c.args.p.now all) (all_hits (named c.args.around.now.naming) is c.args.all.now c.args.label)

pub returns-in_err-label-clause-err : goal.returns-in_err-label-clause-err
returns-in_err-label-clause-err c =
    let is = is_among c.args.around.now.blocks.now in
    let all = hits (named c.args.around.now.naming) is c.args.all.now 0 c.args.label in
    anyway _ (upto_same c.args.p.now c.loop-index.p c.label.new.self all (hits (named c.args.around.now.naming) is (drop c.loop-index.index c.args.all.now) c.loop-index.index (c.args.label + c.loop-index.index)) c.loop-index.invariant c.in_err-label.ensures.err)

pub returns-in_err-hit-clause-err : goal.returns-in_err-hit-clause-err
returns-in_err-hit-clause-err c =
    let is = is_among c.args.around.now.blocks.now in
    let i = c.loop-index.index in
    let all = hits (named c.args.around.now.naming) is c.args.all.now 0 c.args.label in
    let here = hit (named c.args.around.now.naming) (is (get_or c.args.all.now i 0)) (get_or c.args.all.now i 0) (c.args.label + i) in
    let rest = hits (named c.args.around.now.naming) is (drop (i + 1) c.args.all.now) (i + 1) (c.args.label + (i + 1)) in
    let u = upto_as c.args.p.now c.loop-index.p all (hits (named c.args.around.now.naming) is (drop i c.args.all.now) i (c.args.label + i)) (item.Label (i + 1) ∷ (here ++ rest)) c.loop-index.invariant (next_hit (named c.args.around.now.naming) is c.args.all.now i c.args.label (omega arith)) in
    let v = upto_more c.args.p.now c.loop-index.p c.label.new.self all (item.Label (i + 1) ∷ []) (here ++ rest) u c.in_ok-label.ensures.ok in
    anyway _ (upto_grew_part c.args.p.now c.label.new.self c.hit.new.p all here rest v c.in_err-hit.ensures.err)

pub loop-index-preserved : goal.loop-index-preserved
loop-index-preserved c =
    let is = is_among c.args.around.now.blocks.now in
    let i = c.loop-index.index in
    let all = hits (named c.args.around.now.naming) is c.args.all.now 0 c.args.label in
    let here = hit (named c.args.around.now.naming) (is (get_or c.args.all.now i 0)) (get_or c.args.all.now i 0) (c.args.label + i) in
    let rest = hits (named c.args.around.now.naming) is (drop (i + 1) c.args.all.now) (i + 1) (c.args.label + (i + 1)) in
    let u = upto_as c.args.p.now c.loop-index.p all (hits (named c.args.around.now.naming) is (drop i c.args.all.now) i (c.args.label + i)) (item.Label (i + 1) ∷ (here ++ rest)) c.loop-index.invariant (next_hit (named c.args.around.now.naming) is c.args.all.now i c.args.label (omega arith)) in
    let v = upto_more c.args.p.now c.loop-index.p c.label.new.self all (item.Label (i + 1) ∷ []) (here ++ rest) u c.in_ok-label.ensures.ok in
    upto_more c.args.p.now c.label.new.self c.hit.new.p all here rest v c.in_ok-hit.ensures.ok

pub returns-clause-ok : goal.returns-clause-ok
returns-clause-ok c =
    let is = is_among c.args.around.now.blocks.now in
    let i = c.loop-index.index in
    let all = hits (named c.args.around.now.naming) is c.args.all.now 0 c.args.label in
    let none : drop i c.args.all.now ≡ [] = drop_all i c.args.all.now (omega arith) in
    upto_done c.args.p.now c.loop-index.p all (upto_as c.args.p.now c.loop-index.p all (hits (named c.args.around.now.naming) is (drop i c.args.all.now) i (c.args.label + i)) [] c.loop-index.invariant (no_hit (named c.args.around.now.naming) is (drop i c.args.all.now) i (c.args.label + i) none))
