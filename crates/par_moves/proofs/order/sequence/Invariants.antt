use Rattle.std.proofs.Common.{◌≡◌, ◌-◌, ◌++◌, length}
use Rattle.par_moves.specs.Moves.{sequenced}
use Rattle.par_moves.proofs.order.sequence.Given as goal

abbrev pub invariant-loop-turn : goal.invariant-loop-turn
invariant-loop-turn l = sequenced (length l.moves) l.moves ≡ l.out.items ++ sequenced (length l.moves - l._turn) l.pending.items
