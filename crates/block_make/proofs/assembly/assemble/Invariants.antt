use Rattle.block_make.proofs.Assembling.{Stands}
use Rattle.block_make.proofs.assembly.assemble.Given as goal

abbrev pub invariant-loop-index : goal.invariant-loop-index
invariant-loop-index l = Stands l.piece l.labels.items l.bytes.items l.fixes.items l.locals.items l.index
