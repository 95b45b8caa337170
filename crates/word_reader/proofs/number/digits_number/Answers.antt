use Rattle.std.proofs.Common.{arith}
use Rattle.word_reader.proofs.Digits.{below_18}
use Rattle.word_reader.proofs.number.digits_number.Goals as goal

pub overflow_mul-number : goal.overflow_mul-number
overflow_mul-number c =
    let b = below_18 c.loop-byte.number c.loop-byte.byte-index c.loop-byte.invariant.small (omega (arith, c.loop-byte-test.true, c.requires.few)) in
    omega (arith, b)

pub overflow_add-number : goal.overflow_add-number
overflow_add-number c =
    let b = below_18 c.loop-byte.number c.loop-byte.byte-index c.loop-byte.invariant.small (omega (arith, c.loop-byte-test.true, c.requires.few)) in
    let k = c.type_inv.bytes c.loop-byte.byte-index in
    omega (arith, b, k)
