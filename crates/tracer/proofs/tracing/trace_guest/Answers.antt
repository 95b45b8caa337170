use Rattle.tracer.specs.declared.answers.TracingError.TheVariants as errors
use Rattle.tracer.proofs.LoopSteps.{traced_as, wants_after, traced_by}
use Rattle.tracer.proofs.tracing.trace_guest.Goals as goal

pub returns-in_err-follow-clause-steps : goal.returns-in_err-follow-clause-steps
returns-in_err-follow-clause-steps g c = traced_as _ _ _ _ _ _ _ c.from_residual.ensures.1 c.in_err-follow.ensures

pub returns-in_err-edges-clause-steps : goal.returns-in_err-edges-clause-steps
returns-in_err-edges-clause-steps g c = traced_as _ errors.Memory _ _ _ _ _ c.from_residual-in_err-edges.ensures.1 (wants_after _ _ _ _ _ _ _ c.in_ok-follow.ensures)

pub returns-clause-steps : goal.returns-clause-steps
returns-clause-steps g c = traced_by _ _ _ _ _ _ _ _ _ _ _ c.in_ok-edges.ensures.value c.stop.ensures c.steps.ensures c.undefined.ensures c.in_ok-follow.ensures
