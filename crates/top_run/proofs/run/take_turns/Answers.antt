use Rattle.std.proofs.Common.{◌+◌, ◌-◌, arith}
use Rattle.top_run.proofs.GuestRuns.{steps_on, stays, fails, before, at_last, took_step}
use Rattle.top_run.proofs.run.take_turns.Goals as goal

pub loop-turn-init : goal.loop-turn-init
loop-turn-init g c = record { live = c.requires.live; steps = omega arith; goes = λ v o u went. before (c.args.budget - 0) c.args.budget _ _ o u (omega arith) went }

pub step-requires-clause-live : goal.step-requires-clause-live
step-requires-clause-live g c = c.loop-turn.invariant.live

pub step-requires-clause-room : goal.step-requires-clause-room
step-requires-clause-room g c = omega (arith, c.requires.room, c.loop-turn.invariant.steps, c.loop-turn-test.true)

pub returns-in-Ok-false : goal.returns-in-Ok-false
returns-in-Ok-false g c v o u went = c.loop-turn.invariant.goes v o u (stays (c.args.budget - c.loop-turn.turn) _ _ v _ _ o u c.in-Ok-false.field-0 c.in-Ok-false.ensures c.in-Ok-false.field-0-test went)

pub returns-in-Err : goal.returns-in-Err
returns-in-Err g c v = rw c.halt_of_error.ensures (c.loop-turn.invariant.goes v _ _ (fails (c.args.budget - c.loop-turn.turn) (c.args.budget - (c.loop-turn.turn + 1)) _ _ v _ _ c.in-Err.error c.in-Err.ensures (omega (arith, c.loop-turn-test.true))))

pub loop-turn-preserved : goal.loop-turn-preserved
loop-turn-preserved g c = record {
  live = (took_step _ _ _ _ c.in-Ok-true.field-0 c.in-Ok-true.ensures c.in-Ok-true.field-0-test).0;
  steps = (let h = took_step _ _ _ _ c.in-Ok-true.field-0 c.in-Ok-true.ensures c.in-Ok-true.field-0-test in omega (arith, h.1, c.loop-turn.invariant.steps));
  goes = λ v o u went. c.loop-turn.invariant.goes v o u (steps_on (c.args.budget - c.loop-turn.turn) (c.args.budget - (c.loop-turn.turn + 1)) _ _ v _ _ o u c.in-Ok-true.field-0 c.in-Ok-true.ensures c.in-Ok-true.field-0-test (omega (arith, c.loop-turn-test.true)) went);
}

pub returns : goal.returns
returns g c v o u went = c.loop-turn.invariant.goes v o u (at_last (c.args.budget - c.loop-turn.turn) _ _ o u (omega (arith, c.loop-turn-test.false)) went)
