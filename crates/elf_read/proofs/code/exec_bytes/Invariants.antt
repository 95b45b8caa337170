use Rattle.std.proofs.Common.{◌≡◌, drop}
use Rattle.elf_read.specs.Elf.{AreSegments}
use Rattle.elf_read.specs.Code.{code_at}
use Rattle.elf_read.proofs.code.exec_bytes.Given as goal

abbrev pub invariant-loop-segment : goal.invariant-loop-segment
invariant-loop-segment l = record {
  code : code_at l.at (drop l.segment-index l.exe.segments) ≡ code_at l.at l.exe.segments;
  each : AreSegments 0x01000000 (drop l.segment-index l.exe.segments);
  same : l.into ≡ l.fn.into;
}
