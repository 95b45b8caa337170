use Rattle.elf_read.specs.Elf.{elf}
use Rattle.elf_read.specs.declared.exe.Reach.TheVariants.{Original}
use Rattle.top_plan.specs.Plan.{Fetches}
use Rattle.top_files.specs.OriginalPart.{of_word}
use Rattle.top_plan.proofs.Passes.{goes_checked}
use Rattle.top_files.proofs.original.fetch_original.Goals as goal

pub returns-clause-goes : goal.returns-clause-goes
returns-clause-goes g c w = goes_checked (λ exe. exe) (Fetches c.args.name.now 16777216) (λ bytes. of_word c.args.word (elf Original bytes)) c.in_ok-bytes.bytes.items _ _ c.original_of.result (c.in_ok-bytes.ensures.goes w) (rw c.as_slice.ensures.value at c.original_of.ensures.checks)
