use Rattle.std.proofs.lemmas.Result.{IfOk-weaker}
use Rattle.elf_read.specs.Elf.{elf, IsOriginal, IsGuest}
use Rattle.elf_read.specs.declared.exe.Reach.TheVariants.{Original}
use Rattle.top_plan.specs.Plan.{Fetches}
use Rattle.top_files.specs.OriginalPart.{of_word, with_digest}
use Rattle.top_plan.proofs.Passes.{goes_checked}
use Rattle.top_files.proofs.GuestToo.{original_is_guest}
use Rattle.top_files.proofs.original.fetch_subject.Goals as goal

pub returns-clause-goes : goal.returns-clause-goes
returns-clause-goes g c w = goes_checked (λ subject. subject) (Fetches c.args.name.now 16777216) (λ bytes. with_digest bytes (of_word c.args.word (elf Original bytes))) c.in_ok-bytes.bytes.items _ _ c.subject_of.result (c.in_ok-bytes.ensures.goes w) (rw c.as_slice.ensures.value at c.subject_of.ensures.checks)

pub returns-clause-guest : goal.returns-clause-guest
returns-clause-guest g c = IfOk-weaker c.subject_of.result (λ subject. IsOriginal subject.exe) (λ subject. IsGuest subject.exe) (λ subject h. original_is_guest subject.exe h) c.subject_of.ensures.original
