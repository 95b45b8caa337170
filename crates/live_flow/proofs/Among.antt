-- What is among the items of two lists.
use Rattle.std.proofs.Common.{◌≡◌, ℕ, ◌+◌, ◌<◌, ◌⊎◌, List, [], ◌∷◌, ◌++◌, inl, inr, refl, sym, subst, arith, ⊎_elim}
use Rattle.std.proofs.lemmas.Bool.{cases_eq}
use Rattle.live_flow.specs.Live.{IsAmong}

pub among_left : (xs ys : List ℕ) (j : ℕ) → IsAmong xs j → IsAmong (xs ++ ys) j
among_left [] ys j h = absurd h
among_left (x ∷ xs) ys j h = ⊎_elim (λ e. inl e) (λ t. inr (among_left xs ys j t)) h

pub among_last : (xs : List ℕ) (j : ℕ) → IsAmong (xs ++ j ∷ []) j
among_last [] j = inl refl
among_last (x ∷ xs) j = inr (among_last xs j)

pub among_split : (xs : List ℕ) (y j : ℕ) → IsAmong (xs ++ y ∷ []) j → IsAmong xs j ⊎ (y ≡ j)
among_split [] y j h = ⊎_elim (λ e. inr e) (λ t. absurd t) h
among_split (x ∷ xs) y j h = ⊎_elim (λ e. inl (inl e)) (λ t. ⊎_elim (λ a. inl (inr a)) (λ b. inr b) (among_split xs y j t)) h

-- the places below n, and n
pub within_more : (xs new : List ℕ) (n : ℕ) → new ≡ xs ++ n ∷ [] → ((k : ℕ) → IsAmong xs k → k < n) → (k : ℕ) → IsAmong new k → k < n + 1
within_more xs new n e h k m = ⊎_elim (λ a. let l = h k a in omega arith) (λ is. omega arith) (among_split xs n k (subst (λ t. IsAmong t k) e m))

pub all_more : (xs new : List ℕ) (n : ℕ) → new ≡ xs ++ n ∷ [] → ((k : ℕ) → k < n → IsAmong xs k) → (k : ℕ) → k < n + 1 → IsAmong new k
all_more xs new n e h k l = ⊎_elim
    (λ is. subst (λ t. IsAmong t k) (sym e) (subst (λ j. IsAmong (xs ++ n ∷ []) j) (sym is) (among_last xs n)))
    (λ ne. subst (λ t. IsAmong t k) (sym e) (among_left xs (n ∷ []) k (h k (omega arith))))
    (cases_eq k n)
