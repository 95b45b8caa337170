use Rattle.top_plan.proofs.TurnsOf.{no_turns}
use Rattle.top_asm.specs.AsmPlan.{asm_plan}
use Rattle.top_asm.proofs.AsmMeant.{asm_quiet, means_asm}
use Rattle.top_asm.proofs.law.asm_command_law.Goals as goal

pub returns : goal.returns
returns c = record {
  orderly = λ name text. no_turns _ (asm_plan name text) (asm_quiet name text);
  means = λ name text s result t happened. means_asm c.asm_law.ensures name text s result t happened
      (c.plan_law.ensures.exact (asm_plan name text) s result t (no_turns _ (asm_plan name text) (asm_quiet name text)) happened);
}
