use Rattle.std.proofs.Common.{◌≡◌, ◌+◌, ◌*◌, length, drop}
use Rattle.elf_read.specs.Elf.{sizes}
use Rattle.elf_write.specs.File.{end_of_all}
use Rattle.elf_write.proofs.Loops.{IsLeft}
use Rattle.elf_write.proofs.file.end_of_pieces.Given as goal

abbrev pub invariant-loop-segment : goal.invariant-loop-segment
invariant-loop-segment l = record {
  value : end_of_all l.at (drop l.segment-index l.segments) ≡ end_of_all l.start l.segments;
  left : IsLeft (l.start + 4096 * length l.segments + sizes l.segments) l.at (drop l.segment-index l.segments);
}
