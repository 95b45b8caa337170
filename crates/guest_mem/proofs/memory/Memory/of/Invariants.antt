use Rattle.std.proofs.Common.{◌≡◌, take}
use Rattle.std.specs.Prelude.{map}
use Rattle.elf_read.specs.Regions.{region_of}
use Rattle.guest_mem.proofs.memory.Memory.of.Given as goal

abbrev pub invariant-loop-segment : goal.invariant-loop-segment
invariant-loop-segment l = l.areas.items ≡ map region_of (take l.segment-index l.segment-items)
