use Rattle.std.proofs.Common.{◌≡◌}
use Rattle.elf_read.specs.Elf.{loaded, holds_entry}
use Rattle.elf_read.proofs.Walk.{loaded_left}
use Rattle.elf_read.proofs.table.is_in_code.Given as goal

abbrev pub invariant-loop-i : goal.invariant-loop-i
invariant-loop-i l = holds_entry l.entry (loaded_left l.bytes l.table l.i) ≡ holds_entry l.entry (loaded l.bytes)
