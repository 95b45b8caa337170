use Rattle.std.proofs.Common.{◌≡◌, ◌^◌, ◌++◌, drop}
use Rattle.elf_write.specs.File.{pieces}
use Rattle.elf_write.proofs.Loops.{IsLeft}
use Rattle.elf_write.proofs.file.push_pieces.Given as goal

abbrev pub invariant-loop-segment : goal.invariant-loop-segment
invariant-loop-segment l = record {
  text : l.out.items ++ pieces l.at (drop l.segment-index l.segments) ≡ l.fn.out.items ++ pieces l.start l.segments;
  left : IsLeft (2 ^ 31) l.at (drop l.segment-index l.segments);
}
