-- Sets of registers as numbers.
use Rattle.std.proofs.Common.{◌≡◌, ℕ, zero, suc, ◌+◌, ◌-◌, ◌*◌, ◌^◌, ◌<◌, ◌≤◌, Bool, true, false, sym, ap, ◌∙◌, refl, arith, ⊎_elim, eqb, pow-suc}
use Rattle.std.specs.Prelude.{◌&&◌, ◌||◌, ◌==◌, bit_and, bit_or, min, max, if◌then◌else◌, nat_lt}
use Rattle.std.specs.Int.{bit_at}
use Rattle.std.proofs.lemmas.Bool.{cases_lt, eq-eqb, eqb-true}
use Rattle.std.proofs.lemmas.Bool.Decides.{nat_tests}
use Rattle.std.proofs.lemmas.Nat.Bits.{bit_at_or, bit_at_and, bit_at-lt, bit_at-zero, bit_at_ones, bit_at_above, bit_at-pow_same, bit_at_cat_low, bit_at_cat_high, same_from_bits_below}
use Rattle.std.specs.Int.Bits.{or_zero_r}
use Rattle.pass_dead.specs.Names.{has}
use Rattle.stub_sink.proofs.Sets.{has_or, has_and, has_none}
use Rattle.live_flow.specs.Live.{gathered}
use Rattle.live_flow.specs.Rows.{one_of}

-- ---- bits
-- nothing is behind the last bit
pub none_above : (s v : ℕ) → s < 2 ^ 16 → 16 ≤ v → has s v ≡ false
none_above s v l k = ap (λ x. x == 1) (bit_at_above s 16 v l k)

pub has_all : (v : ℕ) → v < 14 → has 0x3FFF v ≡ true
has_all v l = eq-eqb (bit_at 0x3FFF v) 1 (bit_at_ones 14 v l)

pub has_own : (v : ℕ) → v < 14 → has (one_of v) v ≡ true
has_own v l =
    let t : nat_lt v 14 ≡ true = grind (arith, nat_tests) in
    ap (λ (b : Bool). has (if b then 2 ^ v else 0) v) t ∙ eq-eqb (bit_at (2 ^ v) v) 1 (bit_at-pow_same v)

-- ---- numbers with the same bits
same_bit : (x y : ℕ) → x < 2 → y < 2 → (x == 1) ≡ (y == 1) → x ≡ y
same_bit zero zero l k e = refl
same_bit (suc zero) (suc zero) l k e = refl
same_bit zero (suc zero) l k e = absurd (cc)
same_bit (suc zero) zero l k e = absurd (cc)
same_bit (suc (suc x)) y l k e = absurd (omega arith)
same_bit zero (suc (suc y)) l k e = absurd (omega arith)
same_bit (suc zero) (suc (suc y)) l k e = absurd (omega arith)

pub same_sets : (a b : ℕ) → a < 2 ^ 16 → b < 2 ^ 16 → ((v : ℕ) → v < 16 → has a v ≡ has b v) → a ≡ b
same_sets a b l k h = same_from_bits_below 16 a b l k (λ i m. same_bit (bit_at a i) (bit_at b i) (bit_at-lt a i) (bit_at-lt b i) (h i m))

-- ---- the number of a set
abbrev tick : Bool → ℕ
tick b = if b then 1 else 0

ticked : (b : Bool) (k : ℕ) → (if b then 2 ^ k else 0) ≡ tick b * 2 ^ k
ticked true k = omega arith
ticked false k = omega arith

tick_is : (b : Bool) → (bit_at (tick b) 0 == 1) ≡ b
tick_is true = refl
tick_is false = refl

below_next : (b : Bool) (k g : ℕ) → g < 2 ^ k → (if b then 2 ^ k else 0) + g < 2 ^ suc k
below_next true k g l = let e : 2 ^ suc k ≡ 2 ^ k * 2 = pow-suc 2 k in omega arith
below_next false k g l = let e : 2 ^ suc k ≡ 2 ^ k * 2 = pow-suc 2 k in omega arith

pub gathered_below : (set : ℕ → Bool) (k : ℕ) → gathered set k < 2 ^ k
gathered_below set zero = omega arith
gathered_below set (suc k) = below_next (set k) k (gathered set k) (gathered_below set k)

pub gathered_has : (set : ℕ → Bool) (k v : ℕ) → v < k → has (gathered set k) v ≡ set v
gathered_has set zero v l = absurd (omega arith)
gathered_has set (suc k) v l =
    let e : (if set k then 2 ^ k else 0) + gathered set k ≡ tick (set k) * 2 ^ k + gathered set k = ap (λ x. x + gathered set k) (ticked (set k) k) in
    ⊎_elim
    (λ low. ap (λ x. has x v) e ∙ ap (λ x. x == 1) (bit_at_cat_low (tick (set k)) k (gathered set k) v low) ∙ gathered_has set k v low)
    (λ ge. let is : v ≡ k = omega arith in let z : v - k ≡ 0 = omega arith in
    ap (λ x. has x v) e ∙ ap (λ x. x == 1) (bit_at_cat_high (tick (set k)) k (gathered set k) v (gathered_below set k) ge) ∙ ap (λ x. bit_at (tick (set k)) x == 1) z ∙ tick_is (set k) ∙ ap set (sym is))
    (cases_lt v k)

pub or_none_right : (a : ℕ) → bit_or a 0 ≡ a
or_none_right a = or_zero_r a
