use Rattle.std.proofs.Common.{◌≡◌}
use Rattle.elf_read.specs.Elf.{loaded, first_below}
use Rattle.elf_read.proofs.Walk.{loaded_left}
use Rattle.elf_read.proofs.table.unordered_place.Given as goal

abbrev pub invariant-loop-i : goal.invariant-loop-i
invariant-loop-i l = first_below l.end (loaded_left l.bytes l.table l.i) ≡ first_below 0 (loaded l.bytes)
