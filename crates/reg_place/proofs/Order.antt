-- The order of placing: which lines it has, and each of them once.
use Rattle.std.proofs.Common.{◌≡◌, ℕ, zero, suc, ◌+◌, ◌-◌, ◌<◌, ◌≤◌, ◌⊎◌, Bool, true, false, cond, List, [], ◌∷◌, ◌++◌, length, get_or, refl, inl, inr, sym, ap, ◌∙◌, arith, ⊎_elim}
use Rattle.std.specs.Prelude.{filter, ◌||◌}
use Rattle.std.proofs.lemmas.Bool.{both_ways, or_cases, or_left, or_right}
use Rattle.std.proofs.lemmas.List.{length-append}
use Rattle.ssa_form.specs.declared.form.Line.{Line}
use Rattle.ssa_form.specs.declared.form.Line.TheVariants.{Gone}
use Rattle.ssa_form.specs.declared.form.Block.{Block}
use Rattle.ssa_form.specs.declared.form.Split.{Split}
use Rattle.ssa_form.specs.Value.{numbered}
use Rattle.ssa_form.specs.Same.{rows}
use Rattle.par_moves.proofs.Membership.{In, in_filter, filter_in}
use Rattle.reg_place.specs.Places.{IsSplit, is_in, lines_in, order}

abbrev pub Step : Type 0
Step = ℕ × Line

-- ---- lists

in_append : (xs ys : List Step) (q : Step) → In (xs ++ ys) q → In xs q ⊎ In ys q
in_append [] ys q i = inr i
in_append (x ∷ xs) ys q (inl is) = inl (inl is)
in_append (x ∷ xs) ys q (inr i) = ⊎_elim (λ j. inl (inr j)) (λ j. inr j) (in_append xs ys q i)

in_left : (xs ys : List Step) (q : Step) → In xs q → In (xs ++ ys) q
in_left [] ys q i = absurd i
in_left (x ∷ xs) ys q (inl is) = inl is
in_left (x ∷ xs) ys q (inr i) = inr (in_left xs ys q i)

in_right : (xs ys : List Step) (q : Step) → In ys q → In (xs ++ ys) q
in_right [] ys q i = i
in_right (x ∷ xs) ys q i = inr (in_right xs ys q i)

pub in_parts : (xs : List Step) (q : Step) → In xs q → (front : List Step) × (behind : List Step) × (xs ≡ front ++ q ∷ behind)
in_parts [] q i = absurd i
in_parts (x ∷ xs) q (inl is) = ([], xs, ap (λ y. y ∷ xs) (sym is))
in_parts (x ∷ xs) q (inr i) = let h = in_parts xs q i in (x ∷ h.0, h.1, ap (λ ys. x ∷ ys) h.2)

-- no step has this number
abbrev pub Fresh : ℕ → List Step → Type 0
Fresh i ps = (q : Step) → In ps q → q.0 ≡ i → ⊥

abbrev pub Distinct : List Step → Type 0
Distinct [] = Unit {0}
Distinct (p ∷ ps) = Fresh p.0 ps × Distinct ps

distinct_append : (xs ys : List Step) → Distinct xs → Distinct ys → ((q : Step) → In xs q → Fresh q.0 ys) → Distinct (xs ++ ys)
distinct_append [] ys d e f = e
distinct_append (x ∷ xs) ys d e f =
    ((λ q i. ⊎_elim (λ (j : In xs q). d.0 q j) (λ (j : In ys q). f x (inl refl) q j) (in_append xs ys q i)), distinct_append xs ys d.1 e (λ q i. f q (inr i)))

-- ---- numbered lines

numbered_in : (n : ℕ) (ls : List Line) (q : Step) → In (numbered n ls) q → (n ≤ q.0) × (q.0 < n + length ls) × (q.1 ≡ get_or ls (q.0 - n) Gone)
numbered_in n [] q i = absurd i
numbered_in n (l ∷ ls) q (inl is) =
    let a = ap (λ (x : Step). x.0) is in
    let z : 0 ≡ q.0 - n = omega (arith, a) in
    (omega (arith, a), omega (arith, a), ap (λ (x : Step). x.1) is ∙ ap (λ k. get_or (l ∷ ls) k Gone) z)
numbered_in n (l ∷ ls) q (inr i) =
    let h = numbered_in (suc n) ls q i in
    let z : suc (q.0 - suc n) ≡ q.0 - n = omega (arith, h.0) in
    (omega (arith, h.0), omega (arith, h.1), h.2 ∙ ap (λ k. get_or (l ∷ ls) k Gone) z)

in_numbered : (n : ℕ) (ls : List Line) (j m : ℕ) → j < length ls → m ≡ n + j → In (numbered n ls) (m, get_or ls j Gone)
in_numbered n [] j m l e = absurd (omega arith)
in_numbered n (x ∷ ls) zero m l e = let z : m ≡ n = omega (arith, e) in inl (ap (λ k. (k, x)) z)
in_numbered n (x ∷ ls) (suc j) m l e = inr (in_numbered (suc n) ls j m (omega arith) (omega (arith, e)))

module _ (f : Step → Bool) where
  distinct_filter : (n : ℕ) (ls : List Line) → Distinct (filter f (numbered n ls))
  distinct_filter n [] = tt
  distinct_filter n (l ∷ ls) = go (f (n, l)) (distinct_filter (suc n) ls)
    where
      go : (b : Bool) → Distinct (filter f (numbered (suc n) ls)) → Distinct (cond b ((n, l) ∷ filter f (numbered (suc n) ls)) (filter f (numbered (suc n) ls)))
      go true d = ((λ q i e. let h = (numbered_in (suc n) ls q (filter_in f (numbered (suc n) ls) q i).0).0 in absurd (omega (arith, h, e))), d)
      go false d = d

  module _ (g : Step → Bool) (apart : (q : Step) → f q ≡ true → g q ≡ false) where
    few_in_both : (n : ℕ) (ls : List Line) → length (filter f (numbered n ls)) + length (filter g (numbered n ls)) ≤ length ls
    few_in_both n [] = omega arith
    few_in_both n (l ∷ ls) = go (f (n, l)) (g (n, l)) refl refl (few_in_both (suc n) ls)
      where
        go : (x y : Bool) → f (n, l) ≡ x → g (n, l) ≡ y → length (filter f (numbered (suc n) ls)) + length (filter g (numbered (suc n) ls)) ≤ length ls →
            length (cond x ((n, l) ∷ filter f (numbered (suc n) ls)) (filter f (numbered (suc n) ls))) + length (cond y ((n, l) ∷ filter g (numbered (suc n) ls)) (filter g (numbered (suc n) ls))) ≤ suc (length ls)
        go true true e d h = absurd (both_ways (g (n, l)) (apart (n, l) e) d)
        go true false e d h = omega arith
        go false true e d h = omega arith
        go false false e d h = omega arith

-- ---- the order

module _ (b : Block) (s : Split) (split : IsSplit b s) where
  abbrev of_body : Step → Bool
  of_body q = is_in s.body q.0

  abbrev of_sunk : Step → Bool
  of_sunk q = is_in s.sunk q.0

  -- a line of a set is the block's line of its number
  line_of : (set : List Bool) (q : Step) → In (lines_in set b) q → (q.0 < length b.lines) × (q.1 ≡ get_or b.lines q.0 Gone) × (is_in set q.0 ≡ true)
  line_of set q i =
      let f = filter_in (λ (p : Step). is_in set p.0) (rows b) q i in
      let h = numbered_in 0 b.lines q f.0 in
      let z : q.0 - 0 ≡ q.0 = omega arith in
      (omega (arith, h.1), h.2 ∙ ap (λ k. get_or b.lines k Gone) z, f.1)

  pub order_of : (q : Step) → In (order b s) q → (q.0 < length b.lines) × (q.1 ≡ get_or b.lines q.0 Gone) × ((is_in s.body q.0 || is_in s.sunk q.0) ≡ true)
  order_of q i = ⊎_elim
      (λ (j : In (lines_in s.body b) q). let h = line_of s.body q j in (h.0, h.1, or_left (is_in s.body q.0) (is_in s.sunk q.0) h.2))
      (λ (j : In (lines_in s.sunk b) q). let h = line_of s.sunk q j in (h.0, h.1, or_right (is_in s.body q.0) (is_in s.sunk q.0) h.2))
      (in_append (lines_in s.body b) (lines_in s.sunk b) q i)

  line_in : (set : List Bool) (i : ℕ) → i < length b.lines → is_in set i ≡ true → In (lines_in set b) (i, get_or b.lines i Gone)
  line_in set i l h = in_filter (λ (p : Step). is_in set p.0) (rows b) (i, get_or b.lines i Gone) h (in_numbered 0 b.lines i i l (omega arith))

  pub in_order : (i : ℕ) → i < length b.lines → (is_in s.body i || is_in s.sunk i) ≡ true → In (order b s) (i, get_or b.lines i Gone)
  in_order i l h = ⊎_elim
      (λ (e : is_in s.body i ≡ true). in_left (lines_in s.body b) (lines_in s.sunk b) (i, get_or b.lines i Gone) (line_in s.body i l e))
      (λ (e : is_in s.sunk i ≡ true). in_right (lines_in s.body b) (lines_in s.sunk b) (i, get_or b.lines i Gone) (line_in s.sunk i l e))
      (or_cases (is_in s.body i) (is_in s.sunk i) h)

  pub order_distinct : Distinct (order b s)
  order_distinct = distinct_append (lines_in s.body b) (lines_in s.sunk b) (distinct_filter of_body 0 b.lines) (distinct_filter of_sunk 0 b.lines)
      (λ p i q j e. both_ways (is_in s.sunk q.0) (split.apart q.0 (ap (is_in s.body) e ∙ (line_of s.body p i).2)) (line_of s.sunk q j).2)

  pub order_few : length (order b s) ≤ length b.lines
  order_few =
      let h = few_in_both of_body of_sunk (λ q e. split.apart q.0 e) 0 b.lines in
      omega (arith, h, length-append (lines_in s.body b) (lines_in s.sunk b))
