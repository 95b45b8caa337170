use Rattle.top_plan.proofs.TurnsOf.{no_turns}
use Rattle.top_build.specs.BuildPlan.{build_plan}
use Rattle.top_build.proofs.BuildMeant.{build_quiet, means_build}
use Rattle.top_build.proofs.law.build_law.Goals as goal

pub returns : goal.returns
returns c = record {
  orderly = λ name original traces. no_turns _ (build_plan name original traces) (build_quiet name original traces);
  means = λ name original traces s result t happened. means_build name original traces s result t (c.image_law.ensures.preserves, c.image_law.ensures.within) happened
      (c.plan_law.ensures.exact (build_plan name original traces) s result t (no_turns _ (build_plan name original traces) (build_quiet name original traces)) happened);
  spelled = c.found_is_spelled.ensures.stands;
  only = c.found_is_spelled.ensures.only;
}
