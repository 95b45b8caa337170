use Rattle.std.proofs.Common.{◌≡◌, ◌++◌, take, drop}
use Rattle.elf_read.specs.Code.{segment_bytes}
use Rattle.elf_read.proofs.code.copy_bytes.Given as goal

abbrev pub invariant-loop-i : goal.invariant-loop-i
invariant-loop-i l = l.into ≡ take l.i (drop l.offset (segment_bytes l.segment)) ++ drop l.i l.fn.into
