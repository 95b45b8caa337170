use Rattle.std.proofs.Common.{◌≡◌, ◌++◌, map}
use Rattle.elf_read.specs.Elf.{loaded, segment_of}
use Rattle.elf_read.proofs.Walk.{loaded_left}
use Rattle.elf_read.proofs.load.load_segments.Given as goal

abbrev pub invariant-loop-i : goal.invariant-loop-i
invariant-loop-i l = l.segments.items ++ map (segment_of l.bytes) (loaded_left l.bytes l.table l.i) ≡ map (segment_of l.bytes) (loaded l.bytes)
