use Rattle.std.proofs.Common.{◌≡◌, length}
use Rattle.elf_read.specs.Elf.{first_where}
use Rattle.elf_read.specs.Reads.{fails, failed_at}
use Rattle.elf_read.proofs.Walk.{left_of}
use Rattle.elf_read.proofs.table.failing_place.Given as goal

abbrev pub invariant-loop-i : goal.invariant-loop-i
invariant-loop-i l = first_where (fails l.check (length l.bytes)) (left_of l.bytes l.table l.i) ≡ failed_at l.check l.bytes
