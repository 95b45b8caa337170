use Rattle.std.proofs.Common.{[], refl, sym, ap, arith, ◌≡◌, suc, ◌+◌, ◌-◌}
use Rattle.guest_run.specs.Guest.{GuestView}
use Rattle.guest_run.proofs.LoopSteps.{takes_none, takes_more, stands_after, stands_before, breaks_at, done_live, done_steps}
use Rattle.guest_run.proofs.StepsOfRun.{run_holds}
use Rattle.guest_run.proofs.guest.Guest.run.Goals as goal

pub loop-step-init : goal.loop-step-init
loop-step-init g c = record {
  live = c.requires.live;
  began = (c.requires.live, rw (← c.self.view_is) refl);
  room = omega arith;
  edges = [];
  taken = takes_none _ _;
}

pub loop-step-preserved : goal.loop-step-preserved
loop-step-preserved g c =
    let d = rw c.in-Ok-true.field-0-test at c.in-Ok-true.ensures in
    record {
      live = done_live _ _ _ _ _ d;
      began = c.loop-step.invariant.began;
      room = omega (arith, done_steps _ _ _ _ _ d);
      edges = _;
      taken = takes_more _ _ _ _ _ _ _ _ _ (omega arith) c.loop-step.invariant.taken d;
    }

pub returns-in-Err-clause-steps : goal.returns-in-Err-clause-steps
returns-in-Err-clause-steps g c = breaks_at _ _ _ _ _ _ _ _ _ _ (omega arith) c.loop-step.invariant.taken c.in-Err.ensures

pub returns-in-Err-clause-told : goal.returns-in-Err-clause-told
returns-in-Err-clause-told g c =
    run_holds _ _ _ _ _ _ c.loop-step.invariant.began.0 c.loop-step.invariant.began.1
    (breaks_at _ _ _ _ _ _ _ _ _ _ (omega arith) c.loop-step.invariant.taken c.in-Err.ensures)

pub returns-in-Ok-false-clause-steps : goal.returns-in-Ok-false-clause-steps
returns-in-Ok-false-clause-steps g c =
    stands_before _ _ _ _ _ _ _ _ _ _ (omega arith) c.loop-step.invariant.taken (rw c.in-Ok-false.field-0-test at c.in-Ok-false.ensures) (ap (λ (v : GuestView). v.state.stop) c.self-in-loop-step.view_is)

pub returns-in-Ok-false-clause-told : goal.returns-in-Ok-false-clause-told
returns-in-Ok-false-clause-told g c =
    run_holds _ _ _ _ _ _ c.loop-step.invariant.began.0 c.loop-step.invariant.began.1
    (stands_before _ _ _ _ _ _ _ _ _ _ (omega arith) c.loop-step.invariant.taken (rw c.in-Ok-false.field-0-test at c.in-Ok-false.ensures) (ap (λ (v : GuestView). v.state.stop) c.self-in-loop-step.view_is))

pub returns-clause-steps : goal.returns-clause-steps
returns-clause-steps g c = stands_after _ _ _ _ _ _ _ _ (omega arith) c.loop-step.invariant.taken (ap (λ (v : GuestView). v.state.stop) c.self-2.view_is)

pub returns-clause-told : goal.returns-clause-told
returns-clause-told g c =
    run_holds _ _ _ _ _ _ c.loop-step.invariant.began.0 c.loop-step.invariant.began.1
    (stands_after _ _ _ _ _ _ _ _ (omega arith) c.loop-step.invariant.taken (ap (λ (v : GuestView). v.state.stop) c.self-2.view_is))
