use Rattle.std.proofs.Common.{length, sym, ap, ◌∙◌, arith}
use Rattle.ia_encode.specs.declared.item.Dest.TheVariants as dests
use Rattle.block_cut.specs.Transfers.{is_among}
use Rattle.fall_stubs.proofs.Parts.{follows}
use Rattle.cold_code.specs.Dispatcher.{merged, dispatcher_of}
use Rattle.cold_code.proofs.Upto.{grew_as}
use Rattle.cold_code.proofs.Trees.{length_merged}
use Rattle.cold_code.proofs.dispatching.linked_dispatcher.Goals as goal

pub dispatch-requires-clause-few : goal.dispatch-requires-clause-few
dispatch-requires-clause-few c =
    let e = ap length (c.as_slice.ensures.value ∙ c.in_ok-all.ensures) in
    omega (arith, e, length_merged c.args.starts.now c.args.cold.now, c.requires.few, c.requires.few_cold)

pub returns-clause-err : goal.returns-clause-err
returns-clause-err c =
    let is = is_among c.args.starts.now in
    let whole = dispatcher_of dests.Block is (merged c.args.starts.now c.args.cold.now) in
    let e = c.as_slice.ensures.value ∙ c.in_ok-all.ensures in
    follows _ c.dispatch.ensures.err (λ g. grew_as c.args.p.now c.dispatch.new.p whole (dispatcher_of dests.Block is c.as_slice.result.now) (ap (dispatcher_of dests.Block is) (sym e)) g)
