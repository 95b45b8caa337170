use Rattle.std.proofs.Common.{◌≡◌, ◌^◌, [], ◌++◌, drop}
use Rattle.elf_write.specs.File.{program_headers}
use Rattle.elf_write.proofs.Loops.{IsLeft}
use Rattle.elf_write.proofs.file.push_headers.Given as goal

abbrev pub invariant-loop-segment : goal.invariant-loop-segment
invariant-loop-segment l = record {
  text : l.out.items ++ program_headers l.at (drop l.segment-index l.segments) [] ≡ l.fn.out.items ++ program_headers l.start l.segments [];
  left : IsLeft (2 ^ 31) l.at (drop l.segment-index l.segments);
}
