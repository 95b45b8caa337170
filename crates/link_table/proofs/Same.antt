-- Lists with the same elements, each as often, have the same sums.
use Rattle.std.proofs.Common.{◌≡◌, ℕ, ◌+◌, ◌<◌, cond, eqb, List, [], ◌∷◌, ◌++◌, get_or, refl, ap, sym, ◌∙◌, arith, inl, inr}
use Rattle.std.proofs.lemmas.Bool.{cases_Bool, eq-eqb, eqb-true}
use Rattle.link_table.specs.Circles.{times, times_in}
use Rattle.link_table.specs.Table.{entries, all_entries, valued, valued_in}
use Rattle.link_table.proofs.Counts.{times-append}

abbrev sum_of : (ℕ → ℕ) → List ℕ → ℕ
sum_of f [] = 0
sum_of f (x ∷ xs) = f x + sum_of f xs

-- the first x taken out
abbrev take_one : ℕ → List ℕ → List ℕ
take_one x [] = []
take_one x (y ∷ ys) = cond (eqb y x) ys (y ∷ take_one x ys)

times-take_one : (x z : ℕ) (ys : List ℕ) → 0 < times x ys → times z ys ≡ cond (eqb x z) 1 0 + times z (take_one x ys)
times-take_one x z [] h = absurd (omega (arith, h))
times-take_one x z (y ∷ ys) h = elim (cases_Bool (eqb y x)) [
  | inl t ↦ rw t (ap (λ (w : ℕ). cond (eqb w z) 1 0 + times z ys) (eqb-true y x t))
  | inr f ↦ rw f (let r : times z ys ≡ cond (eqb x z) 1 0 + times z (take_one x ys) = times-take_one x z ys (let k : 0 < 0 + times x ys = rw f at h in omega (arith, k)) in omega (arith, r))
]

sum-take_one : (f : ℕ → ℕ) (x : ℕ) (ys : List ℕ) → 0 < times x ys → sum_of f ys ≡ f x + sum_of f (take_one x ys)
sum-take_one f x [] h = absurd (omega (arith, h))
sum-take_one f x (y ∷ ys) h = elim (cases_Bool (eqb y x)) [
  | inl t ↦ rw t (ap (λ (w : ℕ). f w + sum_of f ys) (eqb-true y x t))
  | inr n ↦ rw n (let r : sum_of f ys ≡ f x + sum_of f (take_one x ys) = sum-take_one f x ys (let k : 0 < 0 + times x ys = rw n at h in omega (arith, k)) in omega (arith, r))
]

same_sums : (f : ℕ → ℕ) (xs ys : List ℕ) → ((z : ℕ) → times z xs ≡ times z ys) → sum_of f xs ≡ sum_of f ys
same_sums f [] [] h = refl
same_sums f [] (y ∷ ys) h = absurd (let t : 0 ≡ cond (eqb y y) 1 0 + times y ys = h y in let k : 0 ≡ 1 + times y ys = rw (eq-eqb y y refl) at t in omega (arith, k))
same_sums f (x ∷ xs) ys h =
    let there : 0 < times x ys = let t : cond (eqb x x) 1 0 + times x xs ≡ times x ys = h x in let k : 1 + times x xs ≡ times x ys = rw (eq-eqb x x refl) at t in omega (arith, k) in
    let rest : sum_of f xs ≡ sum_of f (take_one x ys) = same_sums f xs (take_one x ys) (λ z. (let t : cond (eqb x z) 1 0 + times z xs ≡ times z ys = h z in let o : times z ys ≡ cond (eqb x z) 1 0 + times z (take_one x ys) = times-take_one x z ys there in omega (arith, t, o))) in
    let o : sum_of f ys ≡ f x + sum_of f (take_one x ys) = sum-take_one f x ys there in
    omega (arith, rest, o)

-- all elements in one list
abbrev flat : List (List ℕ) → List ℕ
flat [] = []
flat (xs ∷ xss) = xs ++ flat xss

times-flat : (x : ℕ) (xss : List (List ℕ)) → times x (flat xss) ≡ times_in x xss
times-flat x [] = refl
times-flat x (xs ∷ xss) = times-append x xs (flat xss) ∙ ap (λ (n : ℕ). times x xs + n) (times-flat x xss)

sum-append : (f : ℕ → ℕ) (xs ys : List ℕ) → sum_of f (xs ++ ys) ≡ sum_of f xs + sum_of f ys
sum-append f [] ys = omega arith
sum-append f (x ∷ xs) ys = let r : sum_of f (xs ++ ys) ≡ sum_of f xs + sum_of f ys = sum-append f xs ys in omega (arith, r)

-- 1 where the node has the value v
abbrev weight : List ℕ → ℕ → ℕ → ℕ
weight values v x = cond (eqb (get_or values x 0) v) 1 0

valued-entries : (values : List ℕ) (v : ℕ) (xs : List ℕ) → valued v (entries values xs) ≡ sum_of (weight values v) xs
valued-entries values v [] = refl
valued-entries values v (x ∷ xs) = ap (λ (n : ℕ). weight values v x + n) (valued-entries values v xs)

valued-flat : (values : List ℕ) (v : ℕ) (xss : List (List ℕ)) → valued_in v (all_entries values xss) ≡ sum_of (weight values v) (flat xss)
valued-flat values v [] = refl
valued-flat values v (xs ∷ xss) =
    let r : valued_in v (all_entries values xss) ≡ sum_of (weight values v) (flat xss) = valued-flat values v xss in
    let a : sum_of (weight values v) (xs ++ flat xss) ≡ sum_of (weight values v) xs + sum_of (weight values v) (flat xss) = sum-append (weight values v) xs (flat xss) in
    let e : valued v (entries values xs) ≡ sum_of (weight values v) xs = valued-entries values v xs in
    omega (arith, r, a, e)

-- lists with the same nodes have a value equally often
pub same_valued : (values : List ℕ) (v : ℕ) (xss yss : List (List ℕ)) → ((z : ℕ) → times_in z xss ≡ times_in z yss) → valued_in v (all_entries values xss) ≡ valued_in v (all_entries values yss)
same_valued values v xss yss h =
    valued-flat values v xss ∙ same_sums (weight values v) (flat xss) (flat yss) (λ z. times-flat z xss ∙ h z ∙ sym (times-flat z yss)) ∙ sym (valued-flat values v yss)
