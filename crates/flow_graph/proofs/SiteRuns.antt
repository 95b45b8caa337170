-- Edges in order: those of one site stand together, and those that pass a test are in order.
use Rattle.std.proofs.Common.{◌≡◌, ℕ, suc, ◌+◌, ◌-◌, ◌<◌, ◌≤◌, Bool, true, false, cond, List, [], ◌∷◌, ◌++◌, length, get_or, take, drop, map, refl, inl, inr, sym, ap, ◌∙◌, arith}
use Rattle.std.specs.Prelude.{filter, ◌==◌}
use Rattle.std.specs.List.Sorted.{IsStrictlyIncreasing}
use Rattle.std.proofs.lemmas.Bool.{cases_lt, ne_eqb, eq-eqb}
use Rattle.std.proofs.lemmas.Bool.Decides.{nat_tests}
use Rattle.std.proofs.lemmas.List.{take-append-drop, get_or-drop, get_or-take, get_or-map, length-take-le, append-nil, length-drop, take-map, drop-map, length-map}
use Rattle.std.proofs.lemmas.List.Elements.{filter-append, filter_passes, All-get_or}
use Rattle.run_model.specs.Edges.{Edge}
use Rattle.trace_file.specs.Edges.{before, ascends, ascends_after}
use Rattle.trace_file.proofs.Sorted.{and_inv, and_both, ascends_earlier, ascends_later, in_order}
use Rattle.flow_graph.specs.Graph.{targets_from}

sites_rise : (a b : Edge) → before a b ≡ true → a.0 ≤ b.0
sites_rise a b h = grind (arith, nat_tests)

site_order : (edges : List Edge) (i j : ℕ) → ascends edges ≡ true → i ≤ j → j < length edges → (get_or edges i (0, 0)).0 ≤ (get_or edges j (0, 0)).0
site_order edges i j up le in' = elim (cases_lt i j) as (λ _. (get_or edges i (0, 0)).0 ≤ (get_or edges j (0, 0)).0) [
  | inl lt ↦ sites_rise (get_or edges i (0, 0)) (get_or edges j (0, 0)) (in_order edges i j (0, 0) up lt in')
  | inr ge ↦ let is : i ≡ j = omega arith in let e = ap (λ m. (get_or edges m (0, 0)).0) is in omega arith
]

-- the edges after one that is at the site or above it, and so on
pub after_middle : (edges : List Edge) (middle site : ℕ) → ascends edges ≡ true → middle < length edges → site ≤ (get_or edges middle (0, 0)).0 → (k : ℕ) → middle ≤ k → k < length edges → site ≤ (get_or edges k (0, 0)).0
after_middle edges middle site up in' at k from l = omega (arith, at, site_order edges middle k up from l)

pub before_middle : (edges : List Edge) (middle site : ℕ) → ascends edges ≡ true → middle < length edges → (get_or edges middle (0, 0)).0 < site → (k : ℕ) → k < middle + 1 → (get_or edges k (0, 0)).0 < site
before_middle edges middle site up in' at k l = omega (arith, at, site_order edges k middle up (omega arith) in')

-- ---- the edges of one site

filter_none : (p : Edge → Bool) (es : List Edge) → ((k : ℕ) → k < length es → p (get_or es k (0, 0)) ≡ false) → filter p es ≡ []
filter_none p [] h = refl
filter_none p (e ∷ es) h = ap (λ b. cond b (e ∷ filter p es) (filter p es)) (h 0 (omega arith)) ∙ filter_none p es (λ k l. h (suc k) (omega arith))

filter_each : (p : Edge → Bool) (es : List Edge) → ((k : ℕ) → k < length es → p (get_or es k (0, 0)) ≡ true) → filter p es ≡ es
filter_each p [] h = refl
filter_each p (e ∷ es) h = ap (λ b. cond b (e ∷ filter p es) (filter p es)) (h 0 (omega arith)) ∙ ap (λ xs. e ∷ xs) (filter_each p es (λ k l. h (suc k) (omega arith)))

pub filter_again : (p : Edge → Bool) (es : List Edge) → filter p es ≡ filter p (filter p es)
filter_again p es = sym (filter_each p (filter p es) (λ k l. filter_passes p es k (0, 0) l))

-- from the first that is not below the site, to the first that is above it
module _ (es : List Edge) (site from to : ℕ) (in' : from ≤ length es) (up : to ≤ length es) (below : (k : ℕ) → k < from → (get_or es k (0, 0)).0 < site) (at : (k : ℕ) → from ≤ k → k < length es → site ≤ (get_or es k (0, 0)).0) (still : (k : ℕ) → k < to → (get_or es k (0, 0)).0 < site + 1) (past : (k : ℕ) → to ≤ k → k < length es → site + 1 ≤ (get_or es k (0, 0)).0) where
  pub from_to : from ≤ to
  from_to = elim (cases_lt to from) as (λ _. from ≤ to) [
    | inl lt ↦ absurd (omega (arith, below to lt, past to (omega arith) (omega arith)))
    | inr ge ↦ ge
  ]

  abbrev is_here : Edge → Bool
  is_here e = e.0 == site

  abbrev rest : List Edge
  rest = drop from es

  rest_at : (k : ℕ) → get_or rest k (0, 0) ≡ get_or es (from + k) (0, 0)
  rest_at k = get_or-drop from es k (0, 0)

  site_of : (a b : Edge) → a ≡ b → a.0 ≡ b.0
  site_of a b e = ap (λ (e : Edge). e.0) e

  front_none : filter is_here (take from es) ≡ []
  front_none = filter_none is_here (take from es) (λ k l.
      let len = length-take-le from es in' in
      let same = site_of (get_or (take from es) k (0, 0)) (get_or es k (0, 0)) (get_or-take from es k (0, 0) (omega arith)) in
      ne_eqb (get_or (take from es) k (0, 0)).0 site (λ e. omega (arith, e, same, below k (omega arith))))

  middle_each : filter is_here (take (to - from) rest) ≡ take (to - from) rest
  middle_each = filter_each is_here (take (to - from) rest) (λ k l.
      let long = length-drop from es in
      let order = from_to in
      let len = length-take-le (to - from) rest (omega arith) in
      let same = site_of (get_or (take (to - from) rest) k (0, 0)) (get_or es (from + k) (0, 0)) (get_or-take (to - from) rest k (0, 0) (omega arith) ∙ rest_at k) in
      eq-eqb (get_or (take (to - from) rest) k (0, 0)).0 site (omega (arith, same, at (from + k) (omega arith) (omega arith), still (from + k) (omega arith))))

  behind_none : filter is_here (drop (to - from) rest) ≡ []
  behind_none = filter_none is_here (drop (to - from) rest) (λ k l.
      let long = length-drop from es in
      let order = from_to in
      let len = length-drop (to - from) rest in
      let same = site_of (get_or (drop (to - from) rest) k (0, 0)) (get_or es (from + (to - from + k)) (0, 0)) (get_or-drop (to - from) rest k (0, 0) ∙ rest_at (to - from + k)) in
      ne_eqb (get_or (drop (to - from) rest) k (0, 0)).0 site (λ e. omega (arith, e, same, past (from + (to - from + k)) (omega arith) (omega arith))))

  run_of : filter is_here es ≡ take (to - from) rest
  run_of =
      ap (filter is_here) (sym (take-append-drop from es))
      ∙ filter-append is_here (take from es) rest
      ∙ ap (λ xs. xs ++ filter is_here rest) front_none
      ∙ ap (filter is_here) (sym (take-append-drop (to - from) rest))
      ∙ filter-append is_here (take (to - from) rest) (drop (to - from) rest)
      ∙ ap (λ xs. filter is_here (take (to - from) rest) ++ xs) behind_none
      ∙ append-nil (filter is_here (take (to - from) rest))
      ∙ middle_each

  pub targets_run : take (to - from) (drop from (map (λ (e : Edge). e.1) es)) ≡ targets_from site es
  targets_run =
      ap (take (to - from)) (drop-map (λ (e : Edge). e.1) from es)
      ∙ take-map (λ (e : Edge). e.1) (to - from) rest
      ∙ ap (map (λ (e : Edge). e.1)) (sym run_of)

-- ---- those that pass a test

ascends_kept : (p : Edge → Bool) (a : Edge) (es : List Edge) → ascends_after a es ≡ true → ascends_after a (filter p es) ≡ true
ascends_kept p a [] h = refl
ascends_kept p a (e ∷ es) h =
    let parts = and_inv (before a e) (ascends_after e es) h in
    go (p e) (and_both (before a e) (ascends_after e (filter p es)) parts.0 (ascends_kept p e es parts.1)) (ascends_kept p a es (ascends_earlier a e es parts.0 parts.1))
  where
    go : (b : Bool) → ascends_after a (e ∷ filter p es) ≡ true → ascends_after a (filter p es) ≡ true → ascends_after a (cond b (e ∷ filter p es) (filter p es)) ≡ true
    go true with' without = with'
    go false with' without = without

pub filter_ascends : (p : Edge → Bool) (es : List Edge) → ascends es ≡ true → ascends (filter p es) ≡ true
filter_ascends p [] h = refl
filter_ascends p (e ∷ es) h = go (p e)
  where
    kept : ascends_after e (filter p es) ≡ true
    kept = ascends_kept p e es h

    go : (b : Bool) → ascends (cond b (e ∷ filter p es) (filter p es)) ≡ true
    go true = kept
    go false = ascends_later e (filter p es) kept

targets_rise : (site : ℕ) (a b : Edge) → before a b ≡ true → (a.0 == site) ≡ true → (b.0 == site) ≡ true → a.1 < b.1
targets_rise site a b h e f = grind (arith, nat_tests)

pub targets_ascend : (site : ℕ) (es : List Edge) → ascends es ≡ true → IsStrictlyIncreasing (targets_from site es)
targets_ascend site es up = λ k l.
    let here : Edge → Bool = λ e. e.0 == site in
    let fs = filter here es in
    let all = filter_passes here es in
    let long = length-map fs (λ (e : Edge). e.1) in
    let first : k < length fs = omega arith in
    let second : k + 1 < length fs = omega arith in
    let rise = targets_rise site (get_or fs k (0, 0)) (get_or fs (k + 1) (0, 0)) (in_order fs k (k + 1) (0, 0) (filter_ascends here es up) (omega arith) second) (All-get_or (λ e. here e ≡ true) fs k (0, 0) first all) (All-get_or (λ e. here e ≡ true) fs (k + 1) (0, 0) second all) in
    omega (arith, rise, get_or-map (λ (e : Edge). e.1) fs k (0, 0) 0 first, get_or-map (λ (e : Edge). e.1) fs (k + 1) (0, 0) 0 second)
