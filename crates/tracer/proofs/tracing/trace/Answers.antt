use Rattle.tracer.proofs.TraceOfRun.{gives}
use Rattle.tracer.proofs.tracing.trace.Goals as goal

pub returns-clause-faults : goal.returns-clause-faults
returns-clause-faults g c = (gives c.steps_hold.ensures c.runs_hold.ensures c.breaks_hold.ensures _ _ _ _ _ _ c.trace_opened.ensures.steps).0

pub returns-clause-told : goal.returns-clause-told
returns-clause-told g c = (gives c.steps_hold.ensures c.runs_hold.ensures c.breaks_hold.ensures _ _ _ _ _ _ c.trace_opened.ensures.steps).1
