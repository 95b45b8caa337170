use Rattle.elf_read.specs.Elf.{elf}
use Rattle.elf_read.specs.declared.exe.Reach.TheVariants.{Guest}
use Rattle.top_plan.specs.Plan.{Fetches}
use Rattle.top_files.specs.OriginalPart.{of_word}
use Rattle.top_plan.proofs.Passes.{goes_checked}
use Rattle.top_run.proofs.run.fetch_guest.Goals as goal

pub returns-clause-goes : goal.returns-clause-goes
returns-clause-goes g c w = goes_checked (λ exe. exe) (Fetches c.args.name.now 268435456) (λ bytes. of_word c.args.word (elf Guest bytes)) c.in_ok-bytes.bytes.items _ _ c.guest_of.result (c.in_ok-bytes.ensures.goes w) c.guest_of.ensures.checks
