use Rattle.std.proofs.Common.{◌≡◌, ◌++◌, drop}
use Rattle.pass_dead.specs.Names.{set_of}
use Rattle.pass_dead.specs.Needed.{kept_lines}
use Rattle.pass_dead.proofs.pruning.kept_lines.Given as goal

abbrev pub invariant-loop-index : goal.invariant-loop-index
invariant-loop-index l = l.all ++ kept_lines (set_of l.marks) l.index (drop l.index l.lines) ≡ kept_lines (set_of l.marks) 0 l.lines
