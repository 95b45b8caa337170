-- The first place that is free, and who took it.
use Rattle.std.proofs.Common.{◌≡◌, ℕ, zero, suc, ◌+◌, ◌-◌, ◌<◌, ◌≤◌, Bool, true, false, List, [], ◌∷◌, ◌++◌, length, get_or, set, map, refl, sym, ap, ◌∙◌, arith}
use Rattle.std.specs.Prelude.{nat_lt, if◌then◌else◌}
use Rattle.std.proofs.lemmas.Bool.{ltb-true, ltb-false}
use Rattle.std.proofs.lemmas.List.{length-set, length-map, length_push, get_or-set_same, get_or-set_other, get_or_append_left, get_or_push, map-set, map_push}
use Rattle.par_moves.specs.declared.locations.Place.{Place}
use Rattle.par_moves.specs.declared.locations.Place.TheVariants.{Reg, Slot}
use Rattle.reg_place.specs.Places.{place_of, first_free, put_at}

-- ---- the first that is free

pub first_within : (f : ℕ → Bool) (xs : List ℕ) → first_free f xs ≤ length xs
first_within f [] = omega arith
first_within f (x ∷ xs) = go (f x) (first_within f xs)
  where
    go : (b : Bool) → first_free f xs ≤ length xs → (if b then suc (first_free f xs) else 0) ≤ suc (length xs)
    go true h = omega arith
    go false h = omega arith

pub first_at : (f : ℕ → Bool) (xs : List ℕ) → first_free f xs < length xs → f (get_or xs (first_free f xs) 0) ≡ false
first_at f [] l = absurd (omega arith)
first_at f (x ∷ xs) l = go (f x) refl (first_at f xs) l
  where
    go : (b : Bool) → f x ≡ b → (first_free f xs < length xs → f (get_or xs (first_free f xs) 0) ≡ false) → (if b then suc (first_free f xs) else 0) < suc (length xs) → f (get_or (x ∷ xs) (if b then suc (first_free f xs) else 0) 0) ≡ false
    go true e h l = h (omega arith)
    go false e h l = e

pub first_before : (f : ℕ → Bool) (xs : List ℕ) (j : ℕ) → j < first_free f xs → (j < length xs) × (f (get_or xs j 0) ≡ true)
first_before f [] j l = absurd (omega arith)
first_before f (x ∷ xs) zero l = go (f x) refl l
  where
    go : (b : Bool) → f x ≡ b → 0 < (if b then suc (first_free f xs) else 0) → (0 < suc (length xs)) × (f x ≡ true)
    go true e l = (omega arith, e)
    go false e l = absurd (omega arith)
first_before f (x ∷ xs) (suc j) l = go (f x) (first_before f xs j) l
  where
    go : (b : Bool) → (j < first_free f xs → (j < length xs) × (f (get_or xs j 0) ≡ true)) → suc j < (if b then suc (first_free f xs) else 0) → (suc j < suc (length xs)) × (f (get_or xs j 0) ≡ true)
    go true h l = let q = h (omega arith) in (omega (arith, q.0), q.1)
    go false h l = absurd (omega arith)

-- it is the only one
pub first_is : (f : ℕ → Bool) (xs : List ℕ) (k : ℕ) → k ≤ length xs → ((j : ℕ) → j < k → f (get_or xs j 0) ≡ true) → (k < length xs → f (get_or xs k 0) ≡ false) → k ≡ first_free f xs
first_is f [] k l before at = omega arith
first_is f (x ∷ xs) zero l before at = go (f x) (at (omega arith))
  where
    go : (b : Bool) → b ≡ false → 0 ≡ (if b then suc (first_free f xs) else 0)
    go true e = cc
    go false e = refl
first_is f (x ∷ xs) (suc k) l before at = go (f x) (before 0 (omega arith)) (first_is f xs k (omega arith) (λ j m. before (suc j) (omega arith)) (λ m. at (omega arith)))
  where
    go : (b : Bool) → b ≡ true → k ≡ first_free f xs → suc k ≡ (if b then suc (first_free f xs) else 0)
    go true e h = ap suc h
    go false e h = cc

-- by what entries are mapped to
pub first_map : (f g : ℕ → Bool) (m : ℕ → ℕ) (xs : List ℕ) → ((j : ℕ) → f (m j) ≡ g j) → first_free f (map m xs) ≡ first_free g xs
first_map f g m [] h = refl
first_map f g m (x ∷ xs) h = ap (λ b. if b then suc (first_free f (map m xs)) else 0) (h x) ∙ ap (λ k. if g x then suc k else 0) (first_map f g m xs h)

-- ---- an entry that is put

module _ (xs : List ℕ) (k x : ℕ) (within : k ≤ length xs) where
  pub put_length : (length xs ≤ length (put_at xs k x)) × (k < length (put_at xs k x)) × (length (put_at xs k x) ≤ length xs + 1)
  put_length = go (nat_lt k (length xs)) refl
    where
      go : (b : Bool) → nat_lt k (length xs) ≡ b → (length xs ≤ length (if b then set xs k x else xs ++ x ∷ [])) × (k < length (if b then set xs k x else xs ++ x ∷ [])) × (length (if b then set xs k x else xs ++ x ∷ []) ≤ length xs + 1)
      go true e = let q = length-set xs k x in let l = ltb-true k (length xs) e in (omega (arith, q), omega (arith, q, l), omega (arith, q))
      go false e = let q = length_push xs x in (omega (arith, q), omega (arith, q), omega (arith, q))

  pub put_same : get_or (put_at xs k x) k 0 ≡ x
  put_same = go (nat_lt k (length xs)) refl
    where
      go : (b : Bool) → nat_lt k (length xs) ≡ b → get_or (if b then set xs k x else xs ++ x ∷ []) k 0 ≡ x
      go true e = get_or-set_same xs k x 0 (ltb-true k (length xs) e)
      go false e = let l = ltb-false k (length xs) e in get_or_push xs x 0 k (omega (arith, l))

  pub put_other : (j : ℕ) → (j ≡ k → ⊥) → j < length (put_at xs k x) → (j < length xs) × (get_or (put_at xs k x) j 0 ≡ get_or xs j 0)
  put_other j d = go (nat_lt k (length xs)) refl
    where
      go : (b : Bool) → nat_lt k (length xs) ≡ b → j < length (if b then set xs k x else xs ++ x ∷ []) → (j < length xs) × (get_or (if b then set xs k x else xs ++ x ∷ []) j 0 ≡ get_or xs j 0)
      go true e l = let q = length-set xs k x in (omega (arith, q, l), get_or-set_other xs k j x 0 d)
      go false e l =
          let q = length_push xs x in
          let m = ltb-false k (length xs) e in
          let n : (j ≡ length xs → ⊥) = λ z. d (omega (arith, z, m)) in
          let low : j < length xs = omega (arith, q, l, n) in
          (low, get_or_append_left xs (x ∷ []) 0 j low)

pub put_map : (m : ℕ → ℕ) (xs : List ℕ) (k x : ℕ) → map m (put_at xs k x) ≡ put_at (map m xs) k (m x)
put_map m xs k x = go (nat_lt k (length xs)) ∙ ap (λ n. if nat_lt k n then set (map m xs) k (m x) else map m xs ++ m x ∷ []) (sym (length-map xs m))
  where
    go : (b : Bool) → map m (if b then set xs k x else xs ++ x ∷ []) ≡ (if b then set (map m xs) k (m x) else map m xs ++ m x ∷ [])
    go true = map-set m xs k x
    go false = map_push m xs x

-- ---- numbers of places

abbrev number : Place → ℕ
number (Reg zero) = 1
number (Reg (suc zero)) = 1
number (Reg (suc (suc zero))) = 1
number (Reg (suc (suc (suc r)))) = 0
number (Slot n) = n - 15

number_of : (k : ℕ) → number (place_of k) ≡ k
number_of zero = refl
number_of (suc zero) = refl
number_of (suc (suc k)) = omega arith

pub places_same : (j k : ℕ) → place_of j ≡ place_of k → j ≡ k
places_same j k e = sym (number_of j) ∙ ap number e ∙ number_of k
