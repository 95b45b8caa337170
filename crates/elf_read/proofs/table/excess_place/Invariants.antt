use Rattle.std.proofs.Common.{◌≡◌}
use Rattle.elf_read.specs.Elf.{loaded, first_past, most_segments, most_memory}
use Rattle.elf_read.proofs.Walk.{loaded_left}
use Rattle.elf_read.proofs.table.excess_place.Given as goal

abbrev pub invariant-loop-i : goal.invariant-loop-i
invariant-loop-i l = first_past l.count l.room (loaded_left l.bytes l.table l.i) ≡ first_past (most_segments l.fn.reach) (most_memory l.fn.reach) (loaded l.bytes)
