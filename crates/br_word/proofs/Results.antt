-- CF and OF of sums and differences as code computes them, at each width.
use Rattle.std.proofs.Common.{◌≡◌, ℕ, ◌+◌, ◌-◌, ◌/◌, ◌%◌, ◌^◌, ◌<◌, ◌≤◌, Bool, true, false, ap, ◌∙◌, refl, arith}
use Rattle.std.specs.Prelude.{pos, ◌+ℤ◌, ◌-ℤ◌, nat_le, nat_eq, bit_and, bit_xor}
use Rattle.br_word.specs.declared.types.Width.{Width}
use Rattle.br_word.specs.declared.types.Width.TheVariants.{B8, B16, B32}
use Rattle.br_word.specs.Words.{bits_of}
use Rattle.br_word.specs.Words.{bit, signed, out_of_range}
use Rattle.br_word.proofs.Sums.{over_sum_line, over_difference_line, carry_of}

pub bit_le : (b : Bool) → bit b ≤ 1
bit_le true = omega arith
bit_le false = omega arith

pub bit_eq : (b : Bool) → nat_eq (bit b) 1 ≡ b
bit_eq true = refl
bit_eq false = refl

pub bit_from : (n : ℕ) (b : Bool) → n ≡ bit b → nat_eq n 1 ≡ b
bit_from n b e = ap (λ t. nat_eq t 1) e ∙ bit_eq b

pub sum_over : (w : Width) (a b : ℕ) (c : Bool) → a < 2 ^ bits_of w → b < 2 ^ bits_of w → bit_and (bit_xor a ((a + b + bit c) % 2 ^ bits_of w)) (bit_xor b ((a + b + bit c) % 2 ^ bits_of w)) / 2 ^ (bits_of w - 1) ≡ bit (out_of_range (bits_of w) ((signed (bits_of w) a +ℤ signed (bits_of w) b) +ℤ pos (bit c)))
sum_over B8 a b c p q = over_sum_line 7 a b (bit c) p q (bit_le c)
sum_over B16 a b c p q = over_sum_line 15 a b (bit c) p q (bit_le c)
sum_over B32 a b c p q = over_sum_line 31 a b (bit c) p q (bit_le c)

pub difference_over : (w : Width) (a b : ℕ) (c : Bool) → a < 2 ^ bits_of w → b < 2 ^ bits_of w → bit_and (bit_xor a b) (bit_xor a ((a + 2 ^ bits_of w - (b + bit c)) % 2 ^ bits_of w)) / 2 ^ (bits_of w - 1) ≡ bit (out_of_range (bits_of w) ((signed (bits_of w) a -ℤ signed (bits_of w) b) -ℤ pos (bit c)))
difference_over B8 a b c p q = over_difference_line 7 a b (bit c) p q (bit_le c)
difference_over B16 a b c p q = over_difference_line 15 a b (bit c) p q (bit_le c)
difference_over B32 a b c p q = over_difference_line 31 a b (bit c) p q (bit_le c)

pub sum_carry : (w : Width) (a b : ℕ) (c : Bool) → a < 2 ^ bits_of w → b < 2 ^ bits_of w → (a + b + bit c) / 2 ^ bits_of w ≡ bit (nat_le (2 ^ bits_of w) (a + b + bit c))
sum_carry w a b c p q = let l = bit_le c in carry_of (2 ^ bits_of w) (a + b + bit c) (omega arith)
