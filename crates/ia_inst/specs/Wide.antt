-- Rotations, products and quotients (SDM volume 2, RCL/RCR/ROL/ROR, MUL, IMUL, DIV, IDIV).
use Rattle.std.specs.Prelude.{ℕ, ◌+◌, ◌-◌, ◌*◌, ◌/◌, ◌%◌, ◌^◌, Bool, cond, ◌||◌, ◌==◌, nat_le, ◌*ℤ◌, int_div, int_rem, Option, Some, None}
use Rattle.br_word.specs.Words.{signed, out_of_range, wrap}

-- the bits move up by n, and those that leave the top come in below
abbrev pub rotated_left : ℕ → ℕ → ℕ
rotated_left a n = a * 2 ^ n % 2 ^ 32 + a / 2 ^ (32 - n)

-- the bits move down by n, and those that leave the bottom come in above
abbrev pub rotated_right : ℕ → ℕ → ℕ
rotated_right a n = a / 2 ^ n + a * 2 ^ (32 - n) % 2 ^ 32

-- the product, of 64 bits
abbrev pub product : ℕ → ℕ → ℕ
product a b = a * b

-- the signed product modulo 2 ^ 64
abbrev pub signed_product : ℕ → ℕ → ℕ
signed_product a b = wrap (2 ^ 64) (signed 32 a *ℤ signed 32 b)

-- the signed product does not fit 32 bits
abbrev pub product_overflows : ℕ → ℕ → Bool
product_overflows a b = out_of_range 32 (signed 32 a *ℤ signed 32 b)

-- quotient and remainder; none where the divisor is 0 or the quotient does not fit
abbrev pub quotient : ℕ → ℕ → Option (ℕ × ℕ)
quotient n d = cond (d == 0 || nat_le (2 ^ 32) (n / d)) None (Some (n / d, n % d))

-- the same of signed numbers, rounded to 0; the remainder has the sign of the dividend
abbrev pub signed_quotient : ℕ → ℕ → Option (ℕ × ℕ)
signed_quotient n d =
    let z = signed 64 n in let y = signed 32 d in
    cond (d == 0 || out_of_range 32 (int_div z y)) None
    (Some (wrap (2 ^ 32) (int_div z y), wrap (2 ^ 32) (int_rem z y)))
