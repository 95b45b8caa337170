use Rattle.std.proofs.Common.{◌≡◌, ◌≤◌, ◌+◌, ◌-◌, true}
use Rattle.guest_run.specs.declared.guest.TheConstants.{STEP_LIMIT}
use Rattle.guest_run.specs.Guest.{streams}
use Rattle.tracer.proofs.LoopSteps.{AreTaken}
use Rattle.tracer.proofs.tracing.follow.Given as goal

abbrev pub invariant-loop-step : goal.invariant-loop-step
invariant-loop-step g l = record {
  live : l.guest.live ≡ true;
  room : l.guest.steps + (l.budget - l._step) ≤ STEP_LIMIT;
  taken : AreTaken l._step l.fn.guest l.guest l.fn.recorder l.recorder (streams (g.I.Source.seen l.fn.input) (g.O.Sink.seen l.fn.out) (g.E.Sink.seen l.fn.err))
      (streams (g.I.Source.seen l.input) (g.O.Sink.seen l.out) (g.E.Sink.seen l.err));
}
