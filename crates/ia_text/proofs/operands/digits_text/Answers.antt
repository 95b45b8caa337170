use Rattle.ia_text.proofs.Digits.{number}
use Rattle.ia_text.proofs.operands.digits_text.Goals as goal

pub returns-in-B8 : goal.returns-in-B8
returns-in-B8 c = rw c.in-B8.is (number 2 c.in_radix.result c.laid_out.result c.args.n c.format.result c.in_radix.ensures c.laid_out.ensures c.format.ensures.ok)

pub returns-in-B16 : goal.returns-in-B16
returns-in-B16 c = rw c.in-B16.is (number 4 c.in_radix-in-B16.result c.laid_out-in-B16.result c.args.n c.format-in-B16.result c.in_radix-in-B16.ensures c.laid_out-in-B16.ensures c.format-in-B16.ensures.ok)

pub returns-in-B32 : goal.returns-in-B32
returns-in-B32 c = rw c.in-B32.is (number 8 c.in_radix-in-B32.result c.laid_out-in-B32.result c.args.n c.format-in-B32.result c.in_radix-in-B32.ensures c.laid_out-in-B32.ensures c.format-in-B32.ensures.ok)
