use Rattle.std.proofs.Common.{◌≡◌, ◌++◌, map, drop}
use Rattle.ia_encode.specs.declared.item.Item.TheVariants as item
use Rattle.emit_ops.specs.Sequences.{moves_code}
use Rattle.block_make.proofs.moves.emit_moves.Given as goal

abbrev pub invariant-loop-index : goal.invariant-loop-index
invariant-loop-index l = l.fn.p ++ map item.Inst (moves_code l.ordered.items) ≡ l.p ++ map item.Inst (moves_code (drop l.index l.ordered.items))
