use Rattle.asm_text.specs.Source.{assembled}
use Rattle.top_plan.specs.Plan.{Fetches}
use Rattle.top_asm.specs.AsmPlan.{file_of_word}
use Rattle.top_plan.proofs.Passes.{goes_checked}
use Rattle.top_asm.proofs.asm.fetch_assembled.Goals as goal

pub returns : goal.returns
returns g c w = goes_checked (λ file. file.items) (Fetches c.args.text.now 16777216) (λ source. file_of_word 2 (assembled source)) c.in_ok-source.source.items _ _ c.file_of.result (c.in_ok-source.ensures.goes w) (rw c.as_slice.ensures.value at c.file_of.ensures)
