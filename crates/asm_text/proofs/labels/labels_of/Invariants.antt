use Rattle.std.proofs.Common.{length}
use Rattle.asm_text.proofs.Steps.{IsLabelled}
use Rattle.asm_text.proofs.labels.labels_of.Given as goal

abbrev pub invariant-loop-row : goal.invariant-loop-row
invariant-loop-row l = IsLabelled l.source l.labels l.place

abbrev pub decreases-loop-row : goal.decreases-loop-row
decreases-loop-row l = length l.place.rest.now
