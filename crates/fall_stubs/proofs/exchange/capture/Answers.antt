use Rattle.std.proofs.Common.{◌∙◌, ◌++◌, map}
use Rattle.ia_encode.specs.declared.item.Item.TheVariants as item
use Rattle.par_moves.specs.Homes.{register_homes}
use Rattle.fall_stubs.specs.Exchange.{low_stores, high_stores, flag_stores, home_code}
use Rattle.fall_stubs.proofs.Parts.{anyway, follows, both, grew_whole}
use Rattle.fall_stubs.proofs.exchange.capture.Goals as goal

pub returns-in_err-store_high-clause-err : goal.returns-in_err-store_high-clause-err
returns-in_err-store_high-clause-err c =
    let low = map item.Inst low_stores in
    let rest = map item.Inst (high_stores ++ (flag_stores ++ home_code register_homes)) in
    anyway _ (grew_whole c.args.p.now c.store_high.new.p low rest (c.in_err-store_high.ensures.err ∙ c.in_ok-store_low.ensures.ok))

pub returns-in_err-store_flags-clause-err : goal.returns-in_err-store_flags-clause-err
returns-in_err-store_flags-clause-err c =
    let low = map item.Inst low_stores in
    let high = map item.Inst high_stores in
    let rest = map item.Inst (flag_stores ++ home_code register_homes) in
    let e = both c.args.p.now c.store_low.new.p c.store_high.new.p low high c.in_ok-store_low.ensures.ok c.in_ok-store_high.ensures.ok in
    anyway _ (grew_whole c.args.p.now c.store_flags.new.p (low ++ high) rest (c.in_err-store_flags.ensures.err ∙ e))

pub returns-clause-err : goal.returns-clause-err
returns-clause-err c =
    let low = map item.Inst low_stores in
    let high = map item.Inst high_stores in
    let flags = map item.Inst flag_stores in
    let rest = map item.Inst (home_code register_homes) in
    let e = both c.args.p.now c.store_low.new.p c.store_high.new.p low high c.in_ok-store_low.ensures.ok c.in_ok-store_high.ensures.ok in
    let f = both c.args.p.now c.store_high.new.p c.store_flags.new.p (low ++ high) flags e c.in_ok-store_flags.ensures.ok in
    follows _ c.load_homes.ensures.err (λ h. grew_whole c.args.p.now c.load_homes.new.p ((low ++ high) ++ flags) rest (h ∙ f))
