use Rattle.std.proofs.Common.{◌≡◌, drop}
use Rattle.elf_read.specs.Elf.{is_exec}
use Rattle.elf_read.proofs.code.in_exec.Given as goal

abbrev pub invariant-loop-segment : goal.invariant-loop-segment
invariant-loop-segment l = is_exec l.at (drop l.segment-index l.exe.segments) ≡ is_exec l.at l.exe.segments
