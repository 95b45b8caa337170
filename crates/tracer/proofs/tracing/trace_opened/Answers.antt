use Rattle.std.proofs.Common.{arith}
use Rattle.tracer.specs.declared.answers.TracingError.TheVariants as errors
use Rattle.tracer.proofs.LoopSteps.{traced_as, wants_first}
use Rattle.tracer.proofs.tracing.trace_opened.Goals as goal

pub returns-in_err-guest-clause-steps : goal.returns-in_err-guest-clause-steps
returns-in_err-guest-clause-steps g c = traced_as _ errors.Memory _ _ _ _ _ c.from_residual.ensures.1 (wants_first _ _ _ _ (omega arith))

pub returns-in_err-recorder-clause-steps : goal.returns-in_err-recorder-clause-steps
returns-in_err-recorder-clause-steps g c = traced_as _ errors.Memory _ _ _ _ _ c.from_residual-in_err-recorder.ensures.1 (wants_first _ _ _ _ (omega arith))
