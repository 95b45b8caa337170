use Rattle.top_plan.proofs.TurnsOf.{no_turns}
use Rattle.top_graph.specs.ShowPlan.{show_plan}
use Rattle.top_graph.proofs.Quiet.{show_quiet}
use Rattle.top_graph.proofs.ShowMeant.{means_show}
use Rattle.top_graph.proofs.law.show_law.Goals as goal

pub returns : goal.returns
returns c = record {
  orderly = λ original names. no_turns _ (show_plan original names) (show_quiet original names);
  means = λ original names s result t happened. means_show original names s result t happened
      (c.plan_law.ensures.exact (show_plan original names) s result t (no_turns _ (show_plan original names) (show_quiet original names)) happened);
}
