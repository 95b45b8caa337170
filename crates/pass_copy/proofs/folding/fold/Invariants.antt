use Rattle.std.proofs.Common.{◌≡◌, [], ◌++◌, length, drop}
use Rattle.pass_copy.specs.Folded.{folded_lines, stands}
use Rattle.pass_copy.proofs.folding.fold.Given as goal

abbrev pub invariant-loop-index : goal.invariant-loop-index
invariant-loop-index l = record {
  count : length l.stands.items ≡ l.index;
  lines : l.lines ++ folded_lines l.stands.items (drop l.index l.b.lines) ≡ folded_lines [] l.b.lines;
  stands : stands l.stands.items (drop l.index l.b.lines) ≡ stands [] l.b.lines;
}
