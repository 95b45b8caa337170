-- Numbers that stay below a power of two.
use Rattle.std.proofs.Common.{◌≡◌, ℕ, suc, ◌+◌, ◌-◌, ◌*◌, ◌/◌, ◌%◌, ◌^◌, ◌<◌, ◌≤◌, true, sym, subst, arith, mul-lt-mul_of_pos_right, mul-le-mul_right, div-lt_iff_lt-mul}
use Rattle.std.specs.Prelude.{ℤ, pos, negsuc}
use Rattle.std.proofs.lemmas.Nat.{mod_below, pow_pos, pow-add, shr_below}
use Rattle.std.proofs.lemmas.Bool.{ltb-true}
use Rattle.br_word.specs.declared.types.Width.{Width}
use Rattle.br_word.specs.declared.types.Width.TheVariants.{B8, B16, B32}
use Rattle.br_word.specs.Words as words
use Rattle.br_word.specs.Words.{bits_of}
use Rattle.br_word.proofs.BitLaws.{shl_mod}
use Rattle.ia_inst.specs.Canonical.{imm_valid}
use Rattle.ia_inst.specs.Wide.{rotated_left, rotated_right}

pub below : (x k : ℕ) → x % 2 ^ k < 2 ^ k
below x k = mod_below x (2 ^ k) (pow_pos k)

pub wrap_below : (k : ℕ) (z : ℤ) → words.wrap (2 ^ k) z < 2 ^ k
wrap_below k (pos n) = below n k
wrap_below k (negsuc n) = let p = pow_pos k in omega arith

pub imm_small : (w : Width) (n : ℕ) → imm_valid w n ≡ true → n < 2 ^ bits_of w
imm_small B8 n e = ltb-true n 256 e
imm_small B16 n e = ltb-true n 65536 e
imm_small B32 n e = ltb-true n 4294967296 e

-- the high half of a product
pub high_below : (m a b : ℕ) → 0 < m → a < m → b < m → a * b / m < m
high_below m a b p h k =
    let l = mul-le-mul_right {m = a} {n = m} b (omega arith) in
    let g : b * m < m * m = mul-lt-mul_of_pos_right k p in
    (div-lt_iff_lt-mul p).1 (grind arith)

-- ---- rotations

two_digits : (r s p q : ℕ) → r < q → s < p → r * p + s < q * p
two_digits r s p q h k =
    let l = mul-le-mul_right {m = suc r} {n = q} p (omega arith) in
    let e : suc r * p ≡ r * p + p = grind arith in
    omega (arith, l, e)

turned_below : (a d n : ℕ) → a < 2 ^ (n + d) → a * 2 ^ n % 2 ^ (d + n) + a / 2 ^ d < 2 ^ (d + n)
turned_below a d n h =
    let l = two_digits (a % 2 ^ d) (a / 2 ^ d) (2 ^ n) (2 ^ d) (below a d) (shr_below a n d h) in
    let e = shl_mod a d n in
    let p = pow-add 2 d n in
    omega (arith, l, e, p)

pub left_below : (a n : ℕ) → a < 2 ^ 32 → n ≤ 32 → rotated_left a n < 2 ^ 32
left_below a n h l =
    let s : 32 - n + n ≡ 32 = omega arith in
    let t : n + (32 - n) ≡ 32 = omega arith in
    subst (λ k. a * 2 ^ n % 2 ^ k + a / 2 ^ (32 - n) < 2 ^ k) s (turned_below a (32 - n) n (subst (λ k. a < 2 ^ k) (sym t) h))

pub right_below : (a n : ℕ) → a < 2 ^ 32 → n ≤ 32 → rotated_right a n < 2 ^ 32
right_below a n h l =
    let b = left_below a (32 - n) h (omega arith) in
    let t : 32 - (32 - n) ≡ n = omega arith in
    let c : a * 2 ^ (32 - n) % 2 ^ 32 + a / 2 ^ n < 2 ^ 32 = subst (λ k. a * 2 ^ (32 - n) % 2 ^ 32 + a / 2 ^ k < 2 ^ 32) t b in
    omega (arith, c)
