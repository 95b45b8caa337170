use Rattle.std.proofs.Common.{◌≡◌, ◌-◌, ◌++◌, List, length, arith, subst, sym, ap, ◌∙◌, append-nil}
use Rattle.std.proofs.lemmas.Bool.Decides.{nat_tests}
use Rattle.par_moves.specs.declared.locations.PlaceMove.{PlaceMove}
use Rattle.par_moves.specs.Moves.{sequenced, ActAtOnce}
use Rattle.par_moves.proofs.AtOnce.{act_at_once, turn_more, no_more, no_turns}
use Rattle.par_moves.proofs.order.sequence.Goals as goal
use Rattle.par_moves.proofs.order.sequence.Goals.{else-loop-turn-test, then-loop-turn-test+then-is_empty}

pub loop-turn-preserved : goal.loop-turn-preserved
loop-turn-preserved c =
    let v = c.as_slice.ensures.value in
    turn_more c.args.moves.now c.loop-turn.out.items c.turn.new.out.items c.as_slice.result.now c.in_ok-pending-2.pending.items (length c.args.moves.now) c.loop-turn._turn c.loop-turn-test.true
    (c.loop-turn.invariant ∙ ap (λ x. c.loop-turn.out.items ++ sequenced (length c.args.moves.now - c.loop-turn._turn) x) (sym v)) (grind (arith, nat_tests, v, ap (λ (xs : List PlaceMove). length xs) v)) c.in_ok-pending-2.ensures

pub returns-clause-order : goal.returns-clause-order
returns-clause-order c = elim c.loop-turn-test.branch as (λ _. c.loop-turn.out.items ≡ sequenced (length c.args.moves.now) c.args.moves.now) [
  | else-loop-turn-test w ↦ let z : length c.args.moves.now - c.loop-turn._turn ≡ 0 = omega arith in sym (c.loop-turn.invariant ∙ ap (λ k. c.loop-turn.out.items ++ sequenced k c.loop-turn.pending.items) z ∙ ap (λ x. c.loop-turn.out.items ++ x) (no_turns c.loop-turn.pending.items) ∙ append-nil c.loop-turn.out.items)
  | then-loop-turn-test+then-is_empty w ↦ let z : length c.loop-turn.pending.items ≡ 0 = grind (arith, nat_tests) in sym (c.loop-turn.invariant ∙ ap (λ x. c.loop-turn.out.items ++ x) (no_more (length c.args.moves.now - c.loop-turn._turn) c.loop-turn.pending.items z) ∙ append-nil c.loop-turn.out.items)
]

pub returns-clause-effect : goal.returns-clause-effect
returns-clause-effect c = let e = returns-clause-order c in subst (ActAtOnce c.args.moves.now) (sym e) (act_at_once c.args.moves.now c.requires.apart c.requires.to_spare)
