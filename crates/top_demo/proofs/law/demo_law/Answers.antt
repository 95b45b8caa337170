use Rattle.std.proofs.Common.{arith, lit<}
use Rattle.top_plan.proofs.TurnsOf.{no_turns}
use Rattle.top_demo.specs.DemoPlan.{demo_plan}
use Rattle.top_demo.proofs.SameShown.{same_shown}
use Rattle.top_demo.proofs.DemoMeant.{means_demo, demo_quiet}
use Rattle.top_demo.proofs.law.demo_law.Goals as goal

pub returns : goal.returns
returns c = record {
  orderly = λ count. no_turns _ (demo_plan count) (demo_quiet count);
  means = λ count s result t some few happened. means_demo count s result t
      (same_shown (record {
        accepted = c.demo_accepted.ensures;
        runs = c.demo_runs.ensures;
        graphs = c.demo_graph.ensures;
        sets = c.sets_hold.ensures;
        code = c.code_short.ensures;
        image = c.image_law.ensures.preserves;
      }) c.runs_split.ensures.state c.image_law.ensures.within count 1000000 1000000000 some few (omega (arith, few)) (lit< tt) (omega (arith, few)))
      happened;
}
