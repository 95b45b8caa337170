-- Members of ascending lists, by a binary search.
use Rattle.std.proofs.Common.{◌≡◌, ℕ, zero, suc, ◌<◌, ◌≤◌, ◌⊎◌, Bool, true, false, ◌||◌, List, [], ◌∷◌, length, get_or, Result, Ok, Err, refl, sym, ap, inl, inr, arith}
use Rattle.std.specs.Prelude.{◌==◌, is_ok}
use Rattle.std.specs.Ordering.{nat_cmp}
use Rattle.std.specs.List.Sorted.{IsStrictlyIncreasing, IsBinarySearchResult}
use Rattle.std.proofs.lemmas.Bool.{cases_lt}
use Rattle.std.proofs.lemmas.Bool.Decides.{nat_tests}
use Rattle.std.proofs.lemmas.Map.Keys.{sorted_from_strictly_increasing, below_from_sorted}
use Rattle.std.proofs.lemmas.List.Sorted.{searched}
use Rattle.block_cut.specs.Transfers.{is_among}

among_at : (xs : List ℕ) (x i : ℕ) → i < length xs → get_or xs i 0 ≡ x → is_among xs x ≡ true
among_at [] x i l e = absurd (omega arith)
among_at (y ∷ ys) x zero l e = go (x == y) refl
  where
    go : (b : Bool) → (x == y) ≡ b → (b || is_among ys x) ≡ true
    go true f = refl
    go false f = grind (arith, nat_tests)
among_at (y ∷ ys) x (suc i) l e = go (x == y) (among_at ys x i (omega arith) e)
  where
    go : (b : Bool) → is_among ys x ≡ true → (b || is_among ys x) ≡ true
    go true f = refl
    go false f = f

not_among : (xs : List ℕ) (x : ℕ) → ((i : ℕ) → i < length xs → (get_or xs i 0 < x) ⊎ (x < get_or xs i 0)) → is_among xs x ≡ false
not_among [] x h = refl
not_among (y ∷ ys) x h = go (x == y) refl (h 0 (omega arith)) (not_among ys x (λ i l. h (suc i) (omega (arith, l))))
  where
    go : (b : Bool) → (x == y) ≡ b → (y < x) ⊎ (x < y) → is_among ys x ≡ false → (b || is_among ys x) ≡ false
    go true f (inl l) rest = grind (arith, nat_tests)
    go true f (inr l) rest = grind (arith, nat_tests)
    go false f d rest = rest

in_order : (xs : List ℕ) → IsStrictlyIncreasing xs → (i j : ℕ) → i ≤ j → j < length xs → get_or xs i 0 ≤ get_or xs j 0
in_order xs h i j le l = elim (cases_lt i j) [
  | inl lt ↦ let b = below_from_sorted xs i j 0 (sorted_from_strictly_increasing xs h) lt l in omega (arith, b)
  | inr ge ↦ let s : i ≡ j = omega arith in let e = ap (λ k. get_or xs k 0) s in omega (arith, e)
]

pub member_is : (xs : List ℕ) (x : ℕ) (r : Result ℕ ℕ) → IsStrictlyIncreasing xs → IsBinarySearchResult (λ y. nat_cmp y x) xs r → is_ok r ≡ is_among xs x
member_is xs x (Ok i) h f = let s = searched xs x (Ok i) f (in_order xs h) in sym (among_at xs x i s.0 s.1)
member_is xs x (Err i) h f =
    let s = searched xs x (Err i) f (in_order xs h) in
    sym (not_among xs x (λ k l. elim (cases_lt k i) as (λ _. (get_or xs k 0 < x) ⊎ (x < get_or xs k 0)) [
      | inl lt ↦ inl (s.1 k lt)
      | inr ge ↦ inr (s.2 k ge l)
    ]))
