use Rattle.top_plan.proofs.Outcomes.{ends_on}
use Rattle.top_asm.specs.AsmPlan.{store_part}
use Rattle.top_asm.proofs.asm.asm_command.Goals as goal

pub returns-in_err-file : goal.returns-in_err-file
returns-in_err-file g c w = ends_on _ _ _ _ c.from_residual.result (c.in_err-file.ensures w (store_part c.args.name.now)) c.from_residual.ensures.1

pub returns : goal.returns
returns g c w = c.in_ok-file.ensures w (store_part c.args.name.now) _ _ (rw c.as_slice.ensures.value at c.store_assembled.ensures w)
