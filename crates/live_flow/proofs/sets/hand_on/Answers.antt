use Rattle.std.proofs.Common.{List, ℕ, take, sym, subst, arith}
use Rattle.std.proofs.lemmas.List.{take_more}
use Rattle.live_flow.specs.Growing.{Grows}
use Rattle.live_flow.proofs.Places.{among_at}
use Rattle.live_flow.proofs.Growth.{grows_more}
use Rattle.live_flow.proofs.sets.hand_on.Goals as goal

pub take_over-requires-clause-place : goal.take_over-requires-clause-place
take_over-requires-clause-place c = c.requires.places _ (among_at c.args.places.now c.loop-place.place-index 0 (omega arith))

pub loop-place-preserved : goal.loop-place-preserved
loop-place-preserved c =
    let k = c.loop-place.place-index in
    let P : List ℕ → Type 0 = λ t. Grows c.args.rows.now c.args.set t c.args.sets.now c.take_over.new.sets c.args.queue.now.items c.take_over.new.queue.items in
    subst P (sym (take_more c.args.places.now k 0 (omega arith))) (grows_more c.args.rows.now c.args.set (take k c.args.places.now) c.args.sets.now c.loop-place.sets c.take_over.new.sets c.args.queue.now.items c.loop-place.queue.items c.take_over.new.queue.items _ c.loop-place.invariant c.in_ok-take_over.ensures)
