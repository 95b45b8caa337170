use Rattle.std.proofs.Common.{length}
use Rattle.asm_text.proofs.Steps.{IsWritten}
use Rattle.asm_text.proofs.assembler.put_rows.Given as goal

abbrev pub invariant-loop-row : goal.invariant-loop-row
invariant-loop-row l = IsWritten l.source l.fn.out.items l.out.items l.place

abbrev pub decreases-loop-row : goal.decreases-loop-row
decreases-loop-row l = length l.place.rest.now
