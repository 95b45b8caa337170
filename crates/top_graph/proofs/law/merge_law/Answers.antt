use Rattle.top_plan.proofs.TurnsOf.{no_turns}
use Rattle.top_graph.specs.MergePlan.{merge_plan}
use Rattle.top_graph.proofs.Quiet.{merge_quiet}
use Rattle.top_graph.proofs.MergeMeant.{means_merge}
use Rattle.top_graph.proofs.law.merge_law.Goals as goal

pub returns : goal.returns
returns c = record {
  orderly = λ target original names. no_turns _ (merge_plan target original names) (merge_quiet target original names);
  means = λ target original names s result t happened. means_merge target original names s result t happened
      (c.plan_law.ensures.exact (merge_plan target original names) s result t (no_turns _ (merge_plan target original names) (merge_quiet target original names)) happened);
}
