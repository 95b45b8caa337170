-- Sets of registers as numbers.
use Rattle.std.proofs.Common.{◌≡◌, ℕ, zero, suc, ◌+◌, ◌<◌, Bool, false, List, length, drop, get_or, ap, sym, ◌∙◌, refl, arith}
use Rattle.std.specs.Prelude.{◌&&◌, ◌||◌, ◌==◌, bit_and, bit_or, min, max}
use Rattle.std.specs.Int.{bit_at}
use Rattle.std.proofs.lemmas.List.{at_drop_more}
use Rattle.std.proofs.lemmas.Nat.Bits.{bit_at_or, bit_at_and, bit_at-lt, bit_at-zero}
use Rattle.pass_dead.specs.Names.{has}
use Rattle.pass_dead.proofs.Bools.{or_or}
use Rattle.stub_sink.specs.Splits.{live_at}

max_bits : (x y : ℕ) → x < 2 → y < 2 → (max x y == 1) ≡ ((x == 1) || (y == 1))
max_bits zero zero l k = refl
max_bits zero (suc zero) l k = refl
max_bits (suc zero) zero l k = refl
max_bits (suc zero) (suc zero) l k = refl
max_bits (suc (suc x)) y l k = absurd (omega arith)
max_bits zero (suc (suc y)) l k = absurd (omega arith)
max_bits (suc zero) (suc (suc y)) l k = absurd (omega arith)

min_bits : (x y : ℕ) → x < 2 → y < 2 → (min x y == 1) ≡ ((x == 1) && (y == 1))
min_bits zero zero l k = refl
min_bits zero (suc zero) l k = refl
min_bits (suc zero) zero l k = refl
min_bits (suc zero) (suc zero) l k = refl
min_bits (suc (suc x)) y l k = absurd (omega arith)
min_bits zero (suc (suc y)) l k = absurd (omega arith)
min_bits (suc zero) (suc (suc y)) l k = absurd (omega arith)

pub has_or : (a b v : ℕ) → has (bit_or a b) v ≡ (has a v || has b v)
has_or a b v = ap (λ x. x == 1) (bit_at_or a b v) ∙ max_bits (bit_at a v) (bit_at b v) (bit_at-lt a v) (bit_at-lt b v)

pub has_and : (a b v : ℕ) → has (bit_and a b) v ≡ (has a v && has b v)
has_and a b v = ap (λ x. x == 1) (bit_at_and a b v) ∙ min_bits (bit_at a v) (bit_at b v) (bit_at-lt a v) (bit_at-lt b v)

pub has_none : (v : ℕ) → has 0 v ≡ false
has_none v = ap (λ x. x == 1) (bit_at-zero v)

-- one known exit more
pub live_more : (exits : List (ℕ × ℕ)) (live i v : ℕ) (d : ℕ × ℕ) (g : Bool) → i < length exits → (has live v || live_at (drop i exits) v) ≡ g → (has (bit_or live (get_or exits i d).1) v || live_at (drop (i + 1) exits) v) ≡ g
live_more exits live i v d g l h =
    let rest : Bool = live_at (drop (i + 1) exits) v in
    let at : live_at (drop i exits) v ≡ (has (get_or exits i d).1 v || rest) = at_drop_more (λ xs. live_at xs v) exits i d l in
    ap (λ b. b || rest) (has_or live (get_or exits i d).1 v) ∙ or_or (has live v) (has (get_or exits i d).1 v) rest ∙ ap (λ b. has live v || b) (sym at) ∙ h
