use Rattle.std.proofs.Common.{refl}
use Rattle.guest_run.proofs.GuestSteps.{step_done, step_failed, step_not}
use Rattle.guest_run.proofs.guest.Guest.step.Goals as goal

pub returns-then-not-is_running : goal.returns-then-not-is_running
returns-then-not-is_running g c = rw (← c.self.view_is) (step_not c.args.choice c.self.inside.cpu c.self.inside.memory _ c.self.inside.stop c.self.inside.steps c.self.inside.edge c.self.inside.live (λ e. let z = c.if-not-is_running.ensures.1 e in cc))

pub returns-in-Err : goal.returns-in-Err
returns-in-Err g c = rw (← c.self.view_is) (step_failed c.args.choice c.self.inside.cpu c.advance.new.cpu c.self.inside.memory c.advance.new.memory _ _ c.in-Err.error c.self.inside.stop c.self.inside.steps c.self.inside.edge c.self.inside.live (c.if-not-is_running.ensures.0 refl) c.in-Err.ensures)

pub returns-in-Ok : goal.returns-in-Ok
returns-in-Ok g c = rw (← c.self.view_is) (step_done c.args.choice c.self.inside.cpu c.advance.new.cpu c.self.inside.memory c.advance.new.memory _ _ c.in-Ok.advanced c.self.inside.stop c.self.inside.steps c.self.inside.edge c.self.inside.live (c.if-not-is_running.ensures.0 refl) (rw (← c.self.view_is) at c.requires.live) c.in-Ok.ensures)
