-- Rotations, and signed numbers cast to words.
use Rattle.std.proofs.Common.{◌≡◌, ℕ, zero, suc, ◌+◌, ◌-◌, ◌*◌, ◌/◌, ◌%◌, ◌^◌, ◌<◌, ◌≤◌, false, cond, sym, ap, subst, ◌∙◌, refl, arith}
use Rattle.std.specs.Prelude.{ℤ, pos, negsuc, ◌*ℤ◌, bit_or, FitsSigned}
use Rattle.std.specs.Int.{w32, w64, cast_unsigned, cast_signed, rotate_left, rotate_right}
use Rattle.std.proofs.Math.Nat.{mod-eq_of_lt, add-mul, mul_assoc, add_comm, mul-lt-mul_of_pos_right}
use Rattle.std.proofs.lemmas.Nat.{pow-add, or_shifted, shr_below, or_comm, mod-mul-add, div-add-mod', mod_below, pow_pos}
use Rattle.std.specs.Prelude.{unsigned_abs}
use Rattle.std.proofs.lemmas.Int.{to_z-of_z, of_z-to_z, fits_signed_mul, rem_below, fits_signed_from_abs}
use Rattle.ia_meaning.proofs.Signs.{signed_cast}
use Rattle.br_word.specs.Words.{signed, wrap}
use Rattle.std.specs.Prelude.{◌==◌, ◌||◌, int_div, int_rem, Some, None}
use Rattle.std.specs.Int.Signed.{lt_z}
use Rattle.std.proofs.lemmas.Int.{ints}
use Rattle.std.proofs.lemmas.Bool.Decides.{nat_tests}
use Rattle.br_word.specs.Words.{out_of_range}
use Rattle.ia_inst.specs.Wide.{rotated_left, rotated_right, signed_quotient}

-- a shift to the left leaves the low d bits
shl_mod : (a d n : ℕ) → a * 2 ^ n % 2 ^ (d + n) ≡ (a % 2 ^ d) * 2 ^ n
shl_mod a d n =
    let p = pow-add 2 d n in
    let q : ℕ = a / 2 ^ d in
    let r : ℕ = a % 2 ^ d in
    let e : a * 2 ^ n ≡ q * (2 ^ d * 2 ^ n) + r * 2 ^ n = ap (λ t. t * 2 ^ n) (sym (div-add-mod' a (2 ^ d))) ∙ add-mul (q * 2 ^ d) r (2 ^ n) ∙ ap (λ t. t + r * 2 ^ n) (mul_assoc q (2 ^ d) (2 ^ n)) in
    let l : r * 2 ^ n < 2 ^ d * 2 ^ n = mul-lt-mul_of_pos_right (mod_below a (2 ^ d) (pow_pos d)) (pow_pos n) in
    ap (λ t. a * 2 ^ n % t) p ∙ ap (λ t. t % (2 ^ d * 2 ^ n)) e ∙ mod-mul-add q (2 ^ d * 2 ^ n) (r * 2 ^ n) l

turned : (a d n : ℕ) → a < 2 ^ (n + d) → bit_or (a * 2 ^ n % 2 ^ (d + n)) (a / 2 ^ d) ≡ a * 2 ^ n % 2 ^ (d + n) + a / 2 ^ d
turned a d n h =
    let e = shl_mod a d n in
    ap (λ t. bit_or t (a / 2 ^ d)) e ∙ or_shifted (a % 2 ^ d) n (a / 2 ^ d) (shr_below a n d h) ∙ ap (λ t. t + a / 2 ^ d) (sym e)

pub rotate_left_is : (a n : ℕ) → a < 2 ^ 32 → 1 ≤ n → n ≤ 31 → rotate_left w32 a n ≡ rotated_left a n
rotate_left_is a n h p q =
    let d : ℕ = 32 - n in
    let s : d + n ≡ 32 = omega arith in
    let t : n + d ≡ 32 = omega arith in
    let e1 : n % 32 ≡ n = mod-eq_of_lt (omega arith) in
    let e2 : (32 - n) % 32 ≡ 32 - n = mod-eq_of_lt (omega arith) in
    ap (λ k. bit_or (a * 2 ^ k % 2 ^ 32) (a / 2 ^ ((32 - k) % 32))) e1 ∙ ap (λ k. bit_or (a * 2 ^ n % 2 ^ 32) (a / 2 ^ k)) e2
    ∙ subst (λ k. bit_or (a * 2 ^ n % 2 ^ k) (a / 2 ^ (32 - n)) ≡ a * 2 ^ n % 2 ^ k + a / 2 ^ (32 - n)) s (turned a d n (subst (λ k. a < 2 ^ k) (sym t) h))

pub rotate_right_is : (a n : ℕ) → a < 2 ^ 32 → 1 ≤ n → n ≤ 31 → rotate_right w32 a n ≡ rotated_right a n
rotate_right_is a n h p q =
    let d : ℕ = 32 - n in
    let s : n + d ≡ 32 = omega arith in
    let t : d + n ≡ 32 = omega arith in
    let e1 : n % 32 ≡ n = mod-eq_of_lt (omega arith) in
    let e2 : (32 - n) % 32 ≡ 32 - n = mod-eq_of_lt (omega arith) in
    ap (λ k. bit_or (a / 2 ^ k) (a * 2 ^ ((32 - k) % 32) % 2 ^ 32)) e1 ∙ ap (λ k. bit_or (a / 2 ^ n) (a * 2 ^ k % 2 ^ 32)) e2
    ∙ or_comm (a / 2 ^ n) (a * 2 ^ d % 2 ^ 32)
    ∙ subst (λ k. bit_or (a * 2 ^ (32 - n) % 2 ^ k) (a / 2 ^ n) ≡ a * 2 ^ (32 - n) % 2 ^ k + a / 2 ^ n) s (turned a n d (subst (λ k. a < 2 ^ k) (sym t) h))
    ∙ add_comm (a * 2 ^ d % 2 ^ 32) (a / 2 ^ n)

pub wrap_fits_64 : (z : ℤ) → FitsSigned w64 z → wrap (2 ^ 64) z ≡ cast_unsigned w64 z
wrap_fits_64 (pos n) h = let l = h.sfits in mod-eq_of_lt (omega arith)
wrap_fits_64 (negsuc n) h = let l = h.sfits in let e : n % 2 ^ 64 ≡ n = mod-eq_of_lt (omega arith) in ap (λ t. 2 ^ 64 - 1 - t) e ∙ omega arith

pub wrap_fits_32 : (z : ℤ) → FitsSigned w32 z → wrap (2 ^ 32) z ≡ cast_unsigned w32 z
wrap_fits_32 (pos n) h = let l = h.sfits in mod-eq_of_lt (omega arith)
wrap_fits_32 (negsuc n) h = let l = h.sfits in let e : n % 2 ^ 32 ≡ n = mod-eq_of_lt (omega arith) in ap (λ t. 2 ^ 32 - 1 - t) e ∙ omega arith

-- ---- casts between signed widths lose nothing where the number fits
wider : (x : ℤ) → FitsSigned w32 x → FitsSigned w64 x
wider x h = record { sfits = let l = h.sfits in omega arith }

pub widened : (x : ℤ) → FitsSigned w32 x → cast_signed w64 (cast_unsigned w64 (cast_signed w32 (cast_unsigned w32 x))) ≡ x
widened x h = ap (λ t. cast_signed w64 (cast_unsigned w64 t)) (to_z-of_z w32 x h) ∙ to_z-of_z w64 x (wider x h)

abs_fits : (x : ℤ) → FitsSigned w32 x → unsigned_abs x ≤ 2 ^ 31
abs_fits (pos zero) h = omega arith
abs_fits (pos (suc n)) h = let l = h.sfits in omega arith
abs_fits (negsuc n) h = let l = h.sfits in omega arith

pub imul_word : (a b : ℕ) (x y : ℤ) → a < 2 ^ 32 → b < 2 ^ 32 → FitsSigned w32 x → FitsSigned w32 y → x ≡ cast_signed w32 a → y ≡ cast_signed w32 b → cast_unsigned w64 (cast_signed w64 (cast_unsigned w64 (cast_signed w64 (cast_unsigned w64 (cast_signed w32 (cast_unsigned w32 x))) *ℤ cast_signed w64 (cast_unsigned w64 (cast_signed w32 (cast_unsigned w32 y)))))) ≡ wrap (2 ^ 64) (signed 32 a *ℤ signed 32 b)
imul_word a b x y p q f g e k =
    let z : ℤ = x *ℤ y in
    let zf : FitsSigned w64 z = fits_signed_mul w64 x y (2 ^ 31) (2 ^ 31) (abs_fits x f) (abs_fits y g) (omega arith) in
    ap (λ t. cast_unsigned w64 (cast_signed w64 (cast_unsigned w64 (t *ℤ cast_signed w64 (cast_unsigned w64 (cast_signed w32 (cast_unsigned w32 y))))))) (widened x f)
    ∙ ap (λ t. cast_unsigned w64 (cast_signed w64 (cast_unsigned w64 (x *ℤ t)))) (widened y g)
    ∙ ap (cast_unsigned w64) (to_z-of_z w64 z zf) ∙ sym (wrap_fits_64 z zf)
    ∙ ap (λ t. wrap (2 ^ 64) (t *ℤ y)) (e ∙ sym (signed_cast a p)) ∙ ap (λ t. wrap (2 ^ 64) (signed 32 a *ℤ t)) (k ∙ sym (signed_cast b q))

-- ---- a quotient of 64 bits that fits 32
pub narrowed : (x : ℤ) → FitsSigned w32 x → cast_unsigned w32 (cast_signed w32 (cast_unsigned w32 (cast_signed w64 (cast_unsigned w64 x)))) ≡ wrap (2 ^ 32) x
narrowed x h =
    ap (λ t. cast_unsigned w32 (cast_signed w32 (cast_unsigned w32 t))) (to_z-of_z w64 x (wider x h))
    ∙ ap (cast_unsigned w32) (to_z-of_z w32 x h) ∙ sym (wrap_fits_32 x h)

pub signed_cast_64 : (a : ℕ) → a < 2 ^ 64 → signed 64 a ≡ cast_signed w64 a
signed_cast_64 a p = grind (arith, nat_tests, ints)

fits_in_range : (q : ℤ) → lt_z q (negsuc 2147483647) ≡ false → lt_z (pos 2147483647) q ≡ false → FitsSigned w32 q
fits_in_range (pos n) p q = record { sfits = grind (arith, nat_tests, ints) }
fits_in_range (negsuc n) p q = record { sfits = grind (arith, nat_tests, ints) }

in_range : (q : ℤ) → lt_z q (negsuc 2147483647) ≡ false → lt_z (pos 2147483647) q ≡ false → out_of_range 32 q ≡ false
in_range q p h = grind (arith, nat_tests, ints)

pub idiv_word : (n d : ℕ) (x y q : ℤ) (r1 r2 : ℕ) → n < 2 ^ 64 → d < 2 ^ 32 → (d == 0) ≡ false → FitsSigned w64 x → FitsSigned w32 y → FitsSigned w64 q
    → x ≡ cast_signed w64 n → y ≡ cast_signed w32 d → FitsSigned w32 (int_rem x y)
    → q ≡ int_div x y
    → lt_z q (negsuc 2147483647) ≡ false → lt_z (pos 2147483647) q ≡ false
    → r1 ≡ wrap (2 ^ 32) q → r2 ≡ wrap (2 ^ 32) (int_rem x y)
    → Some (r1, r2) ≡ signed_quotient n d
idiv_word n d x y q r1 r2 nl dl z fx fy fq ex ey fr eq l1 l2 e1 e2 =
    let xs : x ≡ signed 64 n = ex ∙ sym (signed_cast_64 n nl) in
    let ys : y ≡ signed 32 d = ey ∙ sym (signed_cast d dl) in
    let qs : q ≡ int_div (signed 64 n) (signed 32 d) = eq ∙ ap (λ t. int_div t y) xs ∙ ap (int_div (signed 64 n)) ys in
    let rs : int_rem x y ≡ int_rem (signed 64 n) (signed 32 d) = ap (λ t. int_rem t y) xs ∙ ap (int_rem (signed 64 n)) ys in
    let o : out_of_range 32 (int_div (signed 64 n) (signed 32 d)) ≡ false = ap (out_of_range 32) (sym qs) ∙ in_range q l1 l2 in
    let pair : (r1, r2) ≡ (wrap (2 ^ 32) (int_div (signed 64 n) (signed 32 d)), wrap (2 ^ 32) (int_rem (signed 64 n) (signed 32 d))) =
    ap (λ t. (t, r2)) (e1 ∙ ap (wrap (2 ^ 32)) qs) ∙ ap (λ t. (wrap (2 ^ 32) (int_div (signed 64 n) (signed 32 d)), t)) (e2 ∙ ap (wrap (2 ^ 32)) rs) in
    ap Some pair ∙ sym (ap (λ b. cond (b || out_of_range 32 (int_div (signed 64 n) (signed 32 d))) None (Some (wrap (2 ^ 32) (int_div (signed 64 n) (signed 32 d)), wrap (2 ^ 32) (int_rem (signed 64 n) (signed 32 d))))) z ∙ ap (λ b. cond b None (Some (wrap (2 ^ 32) (int_div (signed 64 n) (signed 32 d)), wrap (2 ^ 32) (int_rem (signed 64 n) (signed 32 d))))) o)

pub rem_fits : (x y : ℤ) → FitsSigned w32 y → 0 < unsigned_abs y → FitsSigned w32 (int_rem x y)
rem_fits x y h p = let b = rem_below x y p in let a = abs_fits y h in fits_signed_from_abs w32 (int_rem x y) (omega arith)

abs_zero : (y : ℤ) → unsigned_abs y ≡ 0 → y ≡ pos 0
abs_zero (pos zero) e = refl
abs_zero (pos (suc n)) e = absurd (omega arith)
abs_zero (negsuc n) e = absurd (omega arith)

abs_pos : (d : ℕ) (y : ℤ) → d < 2 ^ 32 → (d ≡ 0 → ⊥) → y ≡ cast_signed w32 d → 0 < unsigned_abs y
abs_pos d y p nz e = by_zero (unsigned_abs y) refl
  where
    by_zero : (k : ℕ) → unsigned_abs y ≡ k → 0 < unsigned_abs y
    by_zero zero q = absurd (nz (sym (of_z-to_z w32 d p) ∙ ap (cast_unsigned w32) (sym e ∙ abs_zero y q)))
    by_zero (suc k) q = omega arith

-- the same, over the terms that the code's casts give
pub idiv_made : (n d : ℕ) (x y q : ℤ) (r1 r2 : ℕ) → n < 2 ^ 64 → d < 2 ^ 32 → (d ≡ 0 → ⊥) → FitsSigned w64 x → FitsSigned w32 y
    → x ≡ cast_signed w64 n → y ≡ cast_signed w32 d
    → FitsSigned w64 (int_div (cast_signed w64 (cast_unsigned w64 x)) (cast_signed w64 (cast_unsigned w64 (cast_signed w32 (cast_unsigned w32 y)))))
    → q ≡ int_div (cast_signed w64 (cast_unsigned w64 x)) (cast_signed w64 (cast_unsigned w64 (cast_signed w32 (cast_unsigned w32 y))))
    → lt_z (cast_signed w64 (cast_unsigned w64 q)) (negsuc 2147483647) ≡ false → lt_z (pos 2147483647) (cast_signed w64 (cast_unsigned w64 q)) ≡ false
    → r1 ≡ cast_unsigned w32 (cast_signed w32 (cast_unsigned w32 (cast_signed w64 (cast_unsigned w64 q))))
    → r2 ≡ cast_unsigned w32 (cast_signed w32 (cast_unsigned w32 (cast_signed w64 (cast_unsigned w64 (int_rem (cast_signed w64 (cast_unsigned w64 x)) (cast_signed w64 (cast_unsigned w64 (cast_signed w32 (cast_unsigned w32 y)))))))))
    → Some (r1, r2) ≡ signed_quotient n d
idiv_made n d x y q r1 r2 nl dl nz fx fy ex ey fd eq l1 l2 e1 e2 =
    let X = cast_signed w64 (cast_unsigned w64 x) in
    let Y = cast_signed w64 (cast_unsigned w64 (cast_signed w32 (cast_unsigned w32 y))) in
    let rx : X ≡ x = to_z-of_z w64 x fx in
    let ry : Y ≡ y = widened y fy in
    let fq : FitsSigned w64 q = subst (λ t. FitsSigned w64 t) (sym eq) fd in
    let rq : cast_signed w64 (cast_unsigned w64 q) ≡ q = to_z-of_z w64 q fq in
    let m1 : lt_z q (negsuc 2147483647) ≡ false = subst (λ t. lt_z t (negsuc 2147483647) ≡ false) rq l1 in
    let m2 : lt_z (pos 2147483647) q ≡ false = subst (λ t. lt_z (pos 2147483647) t ≡ false) rq l2 in
    let dz : (d == 0) ≡ false = grind (arith, nat_tests) in
    let yp : 0 < unsigned_abs y = abs_pos d y dl nz ey in
    let fr = rem_fits x y fy yp in
    let re : int_rem X Y ≡ int_rem x y = ap (λ t. int_rem t Y) rx ∙ ap (int_rem x) ry in
    idiv_word n d x y q r1 r2 nl dl dz fx fy fq ex ey fr
    (eq ∙ ap (λ t. int_div t Y) rx ∙ ap (int_div x) ry) m1 m2
    (e1 ∙ narrowed q (fits_in_range q m1 m2))
    (e2 ∙ ap (λ t. cast_unsigned w32 (cast_signed w32 (cast_unsigned w32 (cast_signed w64 (cast_unsigned w64 t))))) re ∙ narrowed (int_rem x y) fr)
