use Rattle.std.proofs.Common.{◌≡◌, ◌++◌}
use Rattle.reg_place.specs.Places.{lines_in}
use Rattle.reg_place.proofs.Marks.{taken_from}
use Rattle.reg_place.proofs.uses.push_lines.Given as goal

abbrev pub invariant-loop-index : goal.invariant-loop-index
invariant-loop-index l = l.steps.items ++ taken_from l.set l.b.lines l.index ≡ l.initial.steps.items ++ lines_in l.set l.b
