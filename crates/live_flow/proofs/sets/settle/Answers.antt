use Rattle.std.proofs.Common.{◌≡◌, ◌∙◌, ℕ, ◌+◌, ◌<◌, ◌∷◌, ◌++◌, [], List, length, get_or, sum, sym, subst, ap, arith, length-append}
use Rattle.std.proofs.lemmas.List.{get_or_default}
use Rattle.live_flow.specs.Live.{IsAmong, live_in}
use Rattle.live_flow.specs.Growing.{IsUnder}
use Rattle.live_flow.proofs.Among.{among_last}
use Rattle.live_flow.proofs.Growth.{grows_as, empty_of, go_on, finish, smaller, sum_most}
use Rattle.live_flow.proofs.sets.settle.Goals as goal

pub bounds-sets-place : goal.bounds-sets-place
bounds-sets-place c =
    let h = c.loop-place.invariant.under in
    let in' = h.within c.in-Some.place (subst (λ t. IsAmong t c.in-Some.place) (sym c.in-Some.ensures.items) (among_last c.pop.new.self.items c.in-Some.place)) in
    omega (arith, in', h.each)

pub bounds-links-place : goal.bounds-links-place
bounds-links-place c =
    let h = c.loop-place.invariant.under in
    let in' = h.within c.in-Some.place (subst (λ t. IsAmong t c.in-Some.place) (sym c.in-Some.ensures.items) (among_last c.pop.new.self.items c.in-Some.place)) in
    omega (arith, in', c.requires.links.each)

pub hand_on-requires-clause-places : goal.hand_on-requires-clause-places
hand_on-requires-clause-places c = λ p a.
    let h = c.loop-place.invariant.under in
    let in' = h.within c.in-Some.place (subst (λ t. IsAmong t c.in-Some.place) (sym c.in-Some.ensures.items) (among_last c.pop.new.self.items c.in-Some.place)) in
    let e : c.as_slice.result.now ≡ get_or c.args.links.now c.in-Some.place [] = c.as_slice.ensures ∙ c.index-links-place.is ∙ get_or_default c.args.links.now c.in-Some.place c.index-links-place.result [] (omega (arith, in', c.requires.links.each)) in
    (c.requires.links.sound c.in-Some.place p (subst (λ t. IsAmong t p) e a)).0

pub loop-place-smaller : goal.loop-place-smaller
loop-place-smaller c =
    let q = c.in-Some.ensures.items in
    let k : length c.loop-place.queue.items ≡ length c.pop.new.self.items + 1 = omega (arith, ap length q, length-append c.pop.new.self.items (c.in-Some.place ∷ [])) in
    let g = c.in_ok-hand_on.ensures in
    smaller (length c.hand_on.new.sets) (length c.loop-place.sets) (length c.loop-place.queue.items) (length c.pop.new.self.items) (length c.hand_on.new.queue.items) (sum c.loop-place.sets) (sum c.hand_on.new.sets) g.each (sum_most c.loop-place.sets c.loop-place.invariant.fits) (sum_most c.hand_on.new.sets (λ k. (c.type_inv.sets k).fits)) k g.cost

pub loop-place-preserved : goal.loop-place-preserved
loop-place-preserved c =
    let h = c.loop-place.invariant.under in
    let in' = h.within c.in-Some.place (subst (λ t. IsAmong t c.in-Some.place) (sym c.in-Some.ensures.items) (among_last c.pop.new.self.items c.in-Some.place)) in
    let e : c.as_slice.result.now ≡ get_or c.args.links.now c.in-Some.place [] = c.as_slice.ensures ∙ c.index-links-place.is ∙ get_or_default c.args.links.now c.in-Some.place c.index-links-place.result [] (omega (arith, in', c.requires.links.each)) in
    record {
      fits = λ k. (c.type_inv.sets k).fits;
      under = go_on c.args.rows.now c.args.links.now c.loop-place.sets c.hand_on.new.sets c.loop-place.queue.items c.pop.new.self.items c.hand_on.new.queue.items c.in-Some.place c.requires.links c.in-Some.ensures.items (grows_as c.args.rows.now _ _ _ c.loop-place.sets c.hand_on.new.sets c.pop.new.self.items c.hand_on.new.queue.items e c.in_ok-hand_on.ensures) h;
    }

pub returns : goal.returns
returns c =
    let e = empty_of c.loop-place.queue.items (omega (arith, c.in_default.ensures.cases.0)) in
    let P : List ℕ → Type 0 = λ t. IsUnder c.args.rows.now c.loop-place.sets t in
    finish c.args.rows.now c.loop-place.sets c.loop-place.invariant.fits (subst P e c.loop-place.invariant.under)
