-- What a step that did not fail gave, and what it took from the front.
use Rattle.std.proofs.Common.{◌≡◌, ℕ, zero, suc, ◌<◌, ◌^◌, Bool, true, false, cond, List, [], ◌∷◌, ◌++◌, get_or, Option, Some, None, refl, sym, ap, subst, arith, inl, inr, ◌⊎◌, lit<}
use Rattle.std.specs.Int.{w32, from_le_bytes}
use Rattle.std.proofs.lemmas.Nat.{le_bytes_4, from_le_bytes-to_le_bytes_4}
use Rattle.ia_inst.specs.Operands.{four}
use Rattle.ia_inst.specs.Reading.{◌>>=◌, byte_at, four_at}

abbrev pub IsBytes : List ℕ → Type 0
IsBytes bytes = (i : ℕ) → get_or bytes i 0 < 256

pub bind_some : {A B : Type 0} (r : Option A) (f : A → Option B) (y : B) → (r >>= f) ≡ Some y → (x : A) × (r ≡ Some x) × (f x ≡ Some y)
bind_some (Some x) f y e = (x, refl, e)
bind_some None f y e = absurd cc

abbrev pub some : {A : Type 0} → A → Option A
some x = Some x

pub some_is : {A : Type 0} (x y : A) → some x ≡ some y → x ≡ y
some_is x y e = cc

abbrev pub none : {A : Type 0} → Option A
none = None

pub none_is : {A : Type 0} (x : A) → none ≡ some x → ⊥
none_is x e = cc

pub chosen : {A : Type 0} (b : Bool) (x y : Option A) (z : A) → cond b x y ≡ Some z → ((b ≡ true) × (x ≡ Some z)) ⊎ ((b ≡ false) × (y ≡ Some z))
chosen true x y z e = inl (refl, e)
chosen false x y z e = inr (refl, e)

-- a reader took a front part that is P
pub record Takes (P : List ℕ → Type 0) (bytes rest : List ℕ) : Type 0 where
  pub front : List ℕ
  pub spelled : P front
  pub parts : bytes ≡ front ++ rest
  pub fits : IsBytes rest

pub byte_found : (bytes : List ℕ) (x : ℕ × List ℕ) → IsBytes bytes → byte_at bytes ≡ Some x → (bytes ≡ x.0 ∷ x.1) × (x.0 < 256) × IsBytes x.1
unfolding byte_at
byte_found [] x fits e = absurd (none_is x e)
byte_found (b ∷ rest) x fits e = subst (λ (y : ℕ × List ℕ). (b ∷ rest ≡ y.0 ∷ y.1) × (y.0 < 256) × IsBytes y.1) (some_is (b, rest) x e) (refl, fits 0, λ i. fits (suc i))

pub four_found : (bytes : List ℕ) (x : ℕ × List ℕ) → IsBytes bytes → four_at bytes ≡ Some x → (bytes ≡ four x.0 ++ x.1) × (x.0 < 2 ^ 32) × IsBytes x.1
unfolding four_at
four_found (a ∷ b ∷ c ∷ d ∷ rest) x fits e =
    let n = from_le_bytes w32 (a ∷ b ∷ c ∷ d ∷ []) in
    let front : IsBytes (a ∷ b ∷ c ∷ d ∷ []) = four_bytes a b c d (fits 0) (fits 1) (fits 2) (fits 3) in
    let back : four n ≡ a ∷ b ∷ c ∷ d ∷ [] = le_bytes_4 (a ∷ b ∷ c ∷ d ∷ []) n refl front refl in
    subst (λ (y : ℕ × List ℕ). (a ∷ b ∷ c ∷ d ∷ rest ≡ four y.0 ++ y.1) × (y.0 < 2 ^ 32) × IsBytes y.1) (some_is (n, rest) x e)
    (sym (ap (λ (w : List ℕ). w ++ rest) back), omega (arith, fits 0, fits 1, fits 2, fits 3), λ i. fits (suc (suc (suc (suc i)))))
  where
    four_bytes : (a b c d : ℕ) → a < 256 → b < 256 → c < 256 → d < 256 → IsBytes (a ∷ b ∷ c ∷ d ∷ [])
    four_bytes a b c d p q r s zero = p
    four_bytes a b c d p q r s (suc zero) = q
    four_bytes a b c d p q r s (suc (suc zero)) = r
    four_bytes a b c d p q r s (suc (suc (suc zero))) = s
    four_bytes a b c d p q r s (suc (suc (suc (suc i)))) = lit< tt
four_found [] x fits e = absurd (none_is x e)
four_found (a ∷ []) x fits e = absurd (none_is x e)
four_found (a ∷ b ∷ []) x fits e = absurd (none_is x e)
four_found (a ∷ b ∷ c ∷ []) x fits e = absurd (none_is x e)

pub four_again : (n : ℕ) (rest : List ℕ) → n < 2 ^ 32 → four_at (four n ++ rest) ≡ Some (n, rest)
unfolding four_at
four_again n rest lt = ap (λ (k : ℕ). some (k, rest)) (from_le_bytes-to_le_bytes_4 n lt)
