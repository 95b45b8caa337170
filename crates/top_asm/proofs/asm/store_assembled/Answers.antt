use Rattle.std.proofs.Common.{Ok, refl, string_bytes}
use Rattle.top_plan.specs.Plan.{Ends}
use Rattle.top_plan.specs.Outcomes.{done_with}
use Rattle.top_plan.specs.declared.ends.Finish.TheVariants.{Done}
use Rattle.top_plan.proofs.Passes.{memory_ends}
use Rattle.top_plan.proofs.Outcomes.{ends_on, ended_as}
use Rattle.top_asm.specs.AsmPlan.{assembled_line, store_part}
use Rattle.top_asm.proofs.asm.store_assembled.Goals as goal

pub returns-in_err-line : goal.returns-in_err-line
returns-in_err-line g c w = ends_on _ _ _ _ c.from_residual.result (memory_ends (store_part c.args.name.now c.args.file.now) _ _ _ c.in_err-line.ensures) c.from_residual.ensures.1

pub returns-in_err-store_file : goal.returns-in_err-store_file
returns-in_err-store_file g c w = ends_on _ _ _ _ c.from_residual-in_err-store_file.result
    (c.in_err-store_file.ensures w (λ _. Ends (Ok (done_with (assembled_line c.args.file.now))))) c.from_residual-in_err-store_file.ensures.1

pub returns : goal.returns
returns g c w = c.in_ok-store_file.ensures w (λ _. Ends (Ok (done_with (assembled_line c.args.file.now)))) _ _
    (ended_as Done Done _ (string_bytes c.in_ok-line.line) _ refl c.in_ok-line.ensures)
