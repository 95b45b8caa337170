-- Last uses as numbers, and uses by what is left.
use Rattle.std.proofs.Common.{◌≡◌, ℕ, zero, suc, ◌+◌, ◌≤◌, Bool, true, false, List, [], ◌∷◌, length, drop, refl, sym, ap, ◌∙◌, arith}
use Rattle.std.specs.Prelude.{nat_lt, if◌then◌else◌, ◌||◌}
use Rattle.std.proofs.lemmas.Bool.{ltb-true, lt-ltb, le-ltb, or_parts}
use Rattle.pass_dead.specs.Names.{vals_of, vals_name}
use Rattle.reg_place.specs.Places.{is_used}
use Rattle.reg_place.specs.LastUses.{last_named, last_use}
use Rattle.reg_place.proofs.Order.{Step}

none : ℕ → Bool
none j = false

abbrev names : Step → ℕ → Bool
names p j = vals_name (vals_of p.1) j

or_false : (x : Bool) → x ≡ (x || false)
or_false true = refl
or_false false = refl

or_true : (x : Bool) → true ≡ (x || true)
or_true true = refl
or_true false = refl

or_assoc : (x y z : Bool) → (x || (y || z)) ≡ ((x || y) || z)
or_assoc true y z = refl
or_assoc false y z = refl

used_split : (ends : ℕ → Bool) (ps : List Step) (j : ℕ) → is_used ends ps j ≡ (is_used none ps j || ends j)
unfolding none
used_split ends [] j = refl
used_split ends (p ∷ ps) j = ap (λ x. names p j || x) (used_split ends ps j) ∙ or_assoc (names p j) (is_used none ps j) (ends j)

named_none : (ps : List Step) (n j last : ℕ) → is_used none ps j ≡ false → last_named n ps j last ≡ last
named_none [] n j last h = refl
named_none (p ∷ ps) n j last h =
    let q = or_parts (names p j) (is_used none ps j) h in
    named_none ps (suc n) j (if names p j then suc n else last) q.1 ∙ ap (λ b. if b then suc n else last) q.0

past_none : (m : ℕ) (j : ℕ) → is_used none (drop {A = Step} m []) j ≡ false
unfolding none
past_none zero j = refl
past_none (suc m) j = refl

named_later : (ps : List Step) (n m j last : ℕ) → last ≤ n → nat_lt (n + m) (last_named n ps j last) ≡ is_used none (drop m ps) j
named_later [] n m j last l = le-ltb (n + m) last (omega arith) ∙ sym (past_none m j)
named_later (p ∷ ps) n (suc m) j last l =
    let z : n + suc m ≡ suc n + m = omega arith in
    ap (λ k. nat_lt k (last_named n (p ∷ ps) j last)) z ∙ named_later ps (suc n) m j (if names p j then suc n else last) (bound (names p j))
  where
    bound : (b : Bool) → (if b then suc n else last) ≤ suc n
    bound true = omega arith
    bound false = omega arith
named_later (p ∷ ps) n zero j last l = go (names p j) (is_used none ps j) refl (λ q. named_later ps (suc n) zero j q) (λ q. named_none ps (suc n) j q)
  where
    go : (b u : Bool) → is_used none ps j ≡ u → ((q : ℕ) → q ≤ suc n → nat_lt (suc n + 0) (last_named (suc n) ps j q) ≡ is_used none ps j) → ((q : ℕ) → is_used none ps j ≡ false → last_named (suc n) ps j q ≡ q) →
        nat_lt (n + 0) (last_named (suc n) ps j (if b then suc n else last)) ≡ (b || u)
    go true true e h k = let m = ltb-true (suc n + 0) (last_named (suc n) ps j (suc n)) (h (suc n) (omega arith) ∙ e) in lt-ltb (n + 0) (last_named (suc n) ps j (suc n)) (omega (arith, m))
    go false true e h k = let m = ltb-true (suc n + 0) (last_named (suc n) ps j last) (h last (omega arith) ∙ e) in lt-ltb (n + 0) (last_named (suc n) ps j last) (omega (arith, m))
    go true false e h k = let m = k (suc n) e in lt-ltb (n + 0) (last_named (suc n) ps j (suc n)) (omega (arith, m))
    go false false e h k = let m = k last e in le-ltb (n + 0) (last_named (suc n) ps j last) (omega (arith, m))

-- a line is used by what is left, just where its last use is not past
pub use_later : (ends : ℕ → Bool) (steps : List Step) (m j : ℕ) → m ≤ length steps → nat_lt m (last_use ends steps j) ≡ is_used ends (drop m steps) j
use_later ends steps m j l = go (ends j) refl ∙ sym (used_split ends (drop m steps) j)
  where
    zero_more : m ≡ 0 + m
    zero_more = omega arith

    go : (b : Bool) → ends j ≡ b → nat_lt m (if b then suc (length steps) else last_named 0 steps j 0) ≡ (is_used none (drop m steps) j || ends j)
    go true e = lt-ltb m (suc (length steps)) (omega arith) ∙ or_true (is_used none (drop m steps) j) ∙ ap (λ x. is_used none (drop m steps) j || x) (sym e)
    go false e = ap (λ k. nat_lt k (last_named 0 steps j 0)) zero_more ∙ named_later steps 0 m j 0 (omega arith) ∙ or_false (is_used none (drop m steps) j) ∙ ap (λ x. is_used none (drop m steps) j || x) (sym e)
