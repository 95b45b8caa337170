use Rattle.std.proofs.Common.{◌≡◌, ◌++◌}
use Rattle.par_moves.specs.Homes.{home_of}
use Rattle.reg_place.specs.Places.{is_in}
use Rattle.block_make.specs.Choices.{place_in}
use Rattle.block_make.specs.Prepared.{choice_in}
use Rattle.block_make.proofs.Behind.{lines_left}
use Rattle.block_make.proofs.lines.emit_lines.Given as goal

abbrev pub invariant-loop-index : goal.invariant-loop-index
invariant-loop-index l = l.fn.p ++ lines_left home_of (place_in (choice_in l.of)) (is_in l.set) l.of.block.lines 0 ≡ l.p ++ lines_left home_of (place_in (choice_in l.of)) (is_in l.set) l.of.block.lines l.index
