use Rattle.std.proofs.Common.{◌-◌, string_bytes}
use Rattle.block_cut.specs.Blocks.{block_of}
use Rattle.show_text.proofs.Listed.{IsListed}
use Rattle.show_text.proofs.lines.lines_text.Given as goal

abbrev pub invariant-loop : goal.invariant-loop
invariant-loop l = IsListed l.exe (block_of l.exe l.start).insts (string_bytes l.lines) (l.count - l.counter) l.at
