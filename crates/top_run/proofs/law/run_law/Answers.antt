use Rattle.top_run.specs.RunPlan.{run_plan}
use Rattle.top_run.proofs.GuestTurns.{run_orderly}
use Rattle.top_run.proofs.RunMeant.{means_run}
use Rattle.top_run.proofs.law.run_law.Goals as goal

pub returns : goal.returns
returns c = record {
  orderly = run_orderly c.input_is_used.ensures;
  means = λ steps name args word s result t happened. means_run steps name args word s result t (c.plan_law.ensures.exact (run_plan steps name args word) s result t (run_orderly c.input_is_used.ensures steps name args word) happened);
}
