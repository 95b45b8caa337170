use Rattle.std.proofs.Common.{◌≡◌, ◌∙◌, ap, arith}
use Rattle.std.proofs.lemmas.List.{get_or_default}
use Rattle.live_flow.specs.declared.row.LiveRow.{LiveRow}
use Rattle.live_flow.specs.Live.{no_row, row_at, place_of}
use Rattle.live_flow.proofs.Places.{next_there}
use Rattle.live_flow.proofs.Linking.{row_more}
use Rattle.live_flow.proofs.links.add_row.Goals as goal

pub place_of-requires-clause-there : goal.place_of-requires-clause-there
place_of-requires-clause-there c =
    let e : c.as_slice-start-items.result.now ≡ (row_at c.args.rows.now c.args.place).next = c.as_slice-start-items.ensures ∙ ap (λ (r : LiveRow). r.next) (get_or_default c.args.rows.now c.args.place c.index-rows-place.result no_row c.requires.place) in
    next_there c.args.rows.now c.args.place c.loop-start.start-index _ c.requires.starts e (omega arith)

pub add-requires : goal.add-requires
add-requires c =
    let e : c.as_slice-start-items.result.now ≡ (row_at c.args.rows.now c.args.place).next = c.as_slice-start-items.ensures ∙ ap (λ (r : LiveRow). r.next) (get_or_default c.args.rows.now c.args.place c.index-rows-place.result no_row c.requires.place) in
    let there = next_there c.args.rows.now c.args.place c.loop-start.start-index c.as_slice-start-items.result.now c.requires.starts e (omega arith) in
    omega (arith, there, c.place_of.ensures, c.loop-start.invariant.each, c.requires.each)

pub loop-start-preserved : goal.loop-start-preserved
loop-start-preserved c =
    let e : c.as_slice-start-items.result.now ≡ (row_at c.args.rows.now c.args.place).next = c.as_slice-start-items.ensures ∙ ap (λ (r : LiveRow). r.next) (get_or_default c.args.rows.now c.args.place c.index-rows-place.result no_row c.requires.place) in
    let there = next_there c.args.rows.now c.args.place c.loop-start.start-index c.as_slice-start-items.result.now c.requires.starts e (omega arith) in
    row_more (place_of c.args.rows.now) (row_at c.args.rows.now c.args.place).next c.as_slice-start-items.result.now c.loop-start.start-index c.args.place c.place_of.result c.args.links.now.items c.loop-start.links.items c.add.new.links.items e (omega arith) c.place_of.ensures (omega (arith, there, c.place_of.ensures, c.loop-start.invariant.each, c.requires.each)) c.in_ok-add.ensures c.loop-start.invariant
