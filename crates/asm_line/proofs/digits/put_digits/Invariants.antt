use Rattle.std.proofs.Common.{◌≡◌, ◌++◌, length}
use Rattle.asm_line.specs.Forms.{values}
use Rattle.asm_line.proofs.digits.put_digits.Given as goal

-- what is put and what is left make the whole
abbrev pub invariant-loop-digits : goal.invariant-loop-digits
invariant-loop-digits l = l.out.items ++ values l.digits ≡ l.initial.out.items ++ values l.initial.digits

abbrev pub decreases-loop-digits : goal.decreases-loop-digits
decreases-loop-digits l = length l.digits
