use Rattle.std.proofs.Common.{◌≡◌, ◌+◌, ◌-◌, suc, sym, ◌∙◌, arith}
use Rattle.tracer.proofs.LoopSteps.{done_live, done_steps, NextEdges, next_none, next_some, taken_none, taken_more, all_taken, stopped_before, step_fails, edge_fails, follows_as}
use Rattle.tracer.proofs.tracing.follow.Goals.{in-Some+in_ok-add, in_default}
use Rattle.tracer.proofs.tracing.follow.Goals as goal

pub loop-step-init : goal.loop-step-init
loop-step-init g c = record { live = c.requires.live; room = omega arith; taken = taken_none _ _ _ c.requires.few }

pub returns-in_err-step : goal.returns-in_err-step
returns-in_err-step g c = follows_as _ _ _ _ _ _ _ _ _ c.from_residual.ensures.1 (step_fails c.in_err-step.field-0.0 _ _ _ _ _ _ _ _ _ _ (omega arith) c.loop-step.invariant.taken c.in_err-step.ensures)

pub returns-then-not-branch : goal.returns-then-not-branch
returns-then-not-branch g c = stopped_before _ _ _ _ _ _ _ _ _ _ (omega arith) c.loop-step.invariant.taken (rw c.if-not-branch.true at c.in_ok-step.ensures)

pub returns-in_err-add : goal.returns-in_err-add
returns-in_err-add g c =
    follows_as _ _ _ _ _ _ _ _ _ c.from_residual-in_err-add.ensures.1
    (edge_fails c.in_err-add.field-0.0 c.in-Some.edge _ _ _ _ _ _ _ _ _ _ _ (omega arith) c.loop-step.invariant.taken (rw c.if-not-branch.false at c.in_ok-step.ensures) (sym c.edge.ensures ∙ c.in-Some.is) c.in_err-add.ensures)

pub loop-step-preserved : goal.loop-step-preserved
loop-step-preserved g c =
    let d = rw c.if-not-branch.false at c.in_ok-step.ensures in
    let next : NextEdges c.step.new.self.edge c.loop-step.recorder c.match-edge.recorder = elim c.match-edge.branch [
      | in-Some+in_ok-add w ↦ next_some _ w.in-Some.edge _ w.add.new.self _ (sym c.edge.ensures ∙ w.in-Some.is) w.recorder-is w.in_ok-add.ensures
      | in_default w ↦ next_none _ _ _ (sym c.edge.ensures ∙ w.in_default.is) w.recorder-is c.loop-step.invariant.taken.few
    ] in
    record {
      live = done_live _ _ _ _ _ d;
      room = omega (arith, done_steps _ _ _ _ _ d, c.loop-step.invariant.room, c.loop-step-test.true);
      taken = taken_more _ _ _ _ _ _ _ _ _ _ _ (omega arith) c.loop-step.invariant.taken d next.0 next.1;
    }

pub returns : goal.returns
returns g c = all_taken _ _ _ _ _ _ _ _ (omega arith) c.loop-step.invariant.taken
