use Rattle.std.proofs.Common.{◌≡◌, ◌++◌}
use Rattle.par_moves.specs.Homes.{home_of}
use Rattle.block_make.specs.Choices.{place_in}
use Rattle.block_make.specs.Prepared.{choice_in, is_live}
use Rattle.block_make.proofs.Behind.{moves_left}
use Rattle.block_make.proofs.moves.live_moves.Given as goal

abbrev pub invariant-loop-register : goal.invariant-loop-register
invariant-loop-register l = moves_left home_of (place_in (choice_in l.of)) (is_live l.live) l.of.block.outs 0 ≡ l.moves.items ++ moves_left home_of (place_in (choice_in l.of)) (is_live l.live) l.of.block.outs l.register
