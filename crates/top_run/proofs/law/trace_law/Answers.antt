use Rattle.top_run.specs.TracePlan.{trace_plan}
use Rattle.top_run.proofs.GuestTurns.{trace_orderly}
use Rattle.top_run.proofs.TraceMeant.{means_trace}
use Rattle.top_run.proofs.law.trace_law.Goals as goal

pub returns : goal.returns
returns c = record {
  orderly = trace_orderly c.input_is_used.ensures;
  means = λ steps target original args word s result t happened.
      means_trace steps target original args word s result t (c.plan_law.ensures.exact (trace_plan steps target original args word) s result t (trace_orderly c.input_is_used.ensures steps target original args word) happened);
}
