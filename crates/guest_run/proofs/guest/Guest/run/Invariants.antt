use Rattle.std.proofs.Common.{◌≡◌, ◌≤◌, ◌+◌, ◌-◌, true, List}
use Rattle.guest_sys.specs.Machine.{bare}
use Rattle.run_model.specs.Edges.{Edge}
use Rattle.guest_run.specs.declared.guest.TheConstants.{STEP_LIMIT}
use Rattle.guest_run.specs.Guest.{streams}
use Rattle.guest_run.specs.BoundedRun.{TakesSteps}
use Rattle.guest_run.proofs.guest.Guest.run.Given as goal

abbrev pub invariant-loop-step : goal.invariant-loop-step
invariant-loop-step g l = record {
  live : l.self.live ≡ true;
  began : (l.initial.self.live ≡ true) × (l.initial.self.state ≡ bare l.initial.self.state);
  room : l.self.steps + (l.budget - l._step) ≤ STEP_LIMIT;
  edges : List Edge;
  taken : TakesSteps l._step l.initial.self (streams (g.I.Source.seen l.initial.input) (g.O.Sink.seen l.initial.out) (g.E.Sink.seen l.initial.err)) edges
      l.self (streams (g.I.Source.seen l.input) (g.O.Sink.seen l.out) (g.E.Sink.seen l.err));
}
