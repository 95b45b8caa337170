use Rattle.std.proofs.Common.{◌∙◌, ◌++◌, map}
use Rattle.ia_encode.specs.declared.item.Item.TheVariants as item
use Rattle.fall_stubs.specs.Exchange.{direction_items, joined_flags, restore_flags, low_loads, high_loads}
use Rattle.fall_stubs.proofs.Parts.{anyway, follows, both, grew_whole, grew_more, grew_wider}
use Rattle.fall_stubs.proofs.exchange.restore.Goals as goal

pub returns-in_err-join_flags-clause-err : goal.returns-in_err-join_flags-clause-err
returns-in_err-join_flags-clause-err c =
    let start = direction_items c.args.label in
    let bits = map item.Inst joined_flags in
    let rest = map item.Inst (restore_flags ++ (low_loads ++ high_loads)) in
    anyway _ (grew_more c.args.p.now c.restore_direction.new.p c.join_flags.new.p start (bits ++ rest) c.in_ok-restore_direction.ensures.ok (grew_wider c.restore_direction.new.p c.join_flags.new.p bits rest c.in_err-join_flags.ensures.err))

pub returns-in_err-set_flags-clause-err : goal.returns-in_err-set_flags-clause-err
returns-in_err-set_flags-clause-err c =
    let start = direction_items c.args.label in
    let bits = map item.Inst joined_flags in
    let rest = map item.Inst (restore_flags ++ (low_loads ++ high_loads)) in
    let e = both c.args.p.now c.restore_direction.new.p c.join_flags.new.p start bits c.in_ok-restore_direction.ensures.ok c.in_ok-join_flags.ensures.ok in
    anyway _ (grew_whole c.args.p.now c.set_flags.new.p (start ++ bits) rest (c.in_err-set_flags.ensures.err ∙ e))

pub returns-in_err-load_low-clause-err : goal.returns-in_err-load_low-clause-err
returns-in_err-load_low-clause-err c =
    let start = direction_items c.args.label in
    let bits = map item.Inst joined_flags in
    let set = map item.Inst restore_flags in
    let rest = map item.Inst (low_loads ++ high_loads) in
    let e = both c.args.p.now c.restore_direction.new.p c.join_flags.new.p start bits c.in_ok-restore_direction.ensures.ok c.in_ok-join_flags.ensures.ok in
    let f = both c.args.p.now c.join_flags.new.p c.set_flags.new.p (start ++ bits) set e c.in_ok-set_flags.ensures.ok in
    anyway _ (grew_whole c.args.p.now c.load_low.new.p ((start ++ bits) ++ set) rest (c.in_err-load_low.ensures.err ∙ f))

pub returns-clause-err : goal.returns-clause-err
returns-clause-err c =
    let start = direction_items c.args.label in
    let bits = map item.Inst joined_flags in
    let set = map item.Inst restore_flags in
    let low = map item.Inst low_loads in
    let e = both c.args.p.now c.restore_direction.new.p c.join_flags.new.p start bits c.in_ok-restore_direction.ensures.ok c.in_ok-join_flags.ensures.ok in
    let f = both c.args.p.now c.join_flags.new.p c.set_flags.new.p (start ++ bits) set e c.in_ok-set_flags.ensures.ok in
    let g = both c.args.p.now c.set_flags.new.p c.load_low.new.p ((start ++ bits) ++ set) low f c.in_ok-load_low.ensures.ok in
    follows _ c.load_high.ensures.err (λ h. grew_whole c.args.p.now c.load_high.new.p (((start ++ bits) ++ set) ++ low) (map item.Inst high_loads) (h ∙ g))
