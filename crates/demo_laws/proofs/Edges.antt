-- The edges of the run of the demonstration, and the targets of each site in a set of them.
use Rattle.std.proofs.Common.{◌≡◌, ℕ, zero, suc, ◌+◌, ◌<◌, ◌≤◌, ◌==◌, Bool, true, false, ◌&&◌, ◌||◌, List, [], ◌∷◌, map, filter, Contains, ◌⊎◌, inl, inr, refl, ap, ◌∙◌, subst, arith}
use Rattle.std.specs.Prelude.{All, nat_lt, nat_eq, if◌then◌else◌}
use Rattle.std.proofs.lemmas.Bool.{and_parts, ne_eqb, eqb-true}
use Rattle.std.proofs.lemmas.Bool.Decides.{nat_tests}
use Rattle.std.proofs.lemmas.List.Elements.{All-head, All-tail, Contains-append_left, Contains-append_right, Contains-append_cases}
use Rattle.run_model.specs.Edges.{Edge}
use Rattle.trace_file.specs.Edges.{before, ascends_after, ascends}
use Rattle.trace_file.proofs.Union.{here, there, first_or_later}
use Rattle.trace_file.proofs.Unique.{none}
use Rattle.flow_graph.specs.Graph.{targets_from}
use Rattle.elf_flat.specs.Flat.{flat_entry}
use Rattle.demo_laws.specs.Sites.{call_site, function_site}
use Rattle.demo_laws.specs.Runs.{call_edges, edges_after, demo_edges}
use Rattle.demo_laws.specs.Graph.{second_of}

-- an edge of the run
pub data Made (count : ℕ) : ℕ → ℕ → Type 0 where
  began : Made count 0 flat_entry
  calls : (i : ℕ) → i < count → Made count (call_site i) (function_site count i)
  jumps : (i : ℕ) → i < count → Made count (function_site count i + 6) (second_of count i)
  returns : (i : ℕ) → i < count → Made count (function_site count i + 10) (call_site (suc i))

-- from each site there is one
pub same_target : (count s a u b : ℕ) → Made count s a → Made count u b → s ≡ u → a ≡ b
same_target count s a u b began began e = refl
same_target count s a u b began (calls j k) e = absurd (omega (arith, e))
same_target count s a u b began (jumps j k) e = absurd (omega (arith, e))
same_target count s a u b began (returns j k) e = absurd (omega (arith, e))
same_target count s a u b (calls i h) began e = absurd (omega (arith, e))
same_target count s a u b (calls i h) (calls j k) e = let s : i ≡ j = omega (arith, e) in ap (function_site count) s
same_target count s a u b (calls i h) (jumps j k) e = absurd (omega (arith, e, h))
same_target count s a u b (calls i h) (returns j k) e = absurd (omega (arith, e, h))
same_target count s a u b (jumps i h) began e = absurd (omega (arith, e))
same_target count s a u b (jumps i h) (calls j k) e = absurd (omega (arith, e, k))
same_target count s a u b (jumps i h) (jumps j k) e = let s : i ≡ j = omega (arith, e) in ap (second_of count) s
same_target count s a u b (jumps i h) (returns j k) e = absurd (omega (arith, e))
same_target count s a u b (returns i h) began e = absurd (omega (arith, e))
same_target count s a u b (returns i h) (calls j k) e = absurd (omega (arith, e, k))
same_target count s a u b (returns i h) (jumps j k) e = absurd (omega (arith, e))
same_target count s a u b (returns i h) (returns j k) e = let s : i ≡ j = omega (arith, e) in ap (λ i. call_site (suc i)) s

abbrev pub IsMade : ℕ → Edge → Type 0
IsMade count e = Made count e.0 e.1

-- ---- the list has just these

of_call : (count i : ℕ) (e : Edge) → i < count → Contains (call_edges count i) e → IsMade count e
of_call count i e h c =
    let a : Edge = (call_site i, function_site count i) in
    let b : Edge = (function_site count i + 6, second_of count i) in
    let d : Edge = (function_site count i + 10, call_site (suc i)) in
    elim (first_or_later a e (b ∷ d ∷ []) c) [
      | inl s ↦ subst (IsMade count) s (calls i h)
      | inr f ↦ elim (first_or_later b e (d ∷ []) f) [
        | inl s ↦ subst (IsMade count) s (jumps i h)
        | inr g ↦ elim (first_or_later d e [] g) [ inl s ↦ subst (IsMade count) s (returns i h) | inr n ↦ absurd (none e n) ]
      ]
    ]

of_calls : (count i : ℕ) (e : Edge) → i ≤ count → Contains (edges_after count i) e → IsMade count e
of_calls count zero e h c = absurd (none e c)
of_calls count (suc i) e h c = elim (Contains-append_cases (edges_after count i) (call_edges count i) e c) [
  | inl d ↦ of_calls count i e (omega (arith, h)) d
  | inr d ↦ of_call count i e (omega (arith, h)) d
]

pub made : (count : ℕ) (e : Edge) → Contains (demo_edges count) e → IsMade count e
made count e c = elim (first_or_later (0, flat_entry) e (edges_after count count) c) [
  | inl s ↦ subst (IsMade count) s began
  | inr d ↦ of_calls count count e (omega arith) d
]

in_calls : (count i j : ℕ) (e : Edge) → i < j → Contains (call_edges count i) e → Contains (edges_after count j) e
in_calls count i zero e h c = absurd (omega (arith, h))
in_calls count i (suc j) e h c = go (split i j) (λ l. in_calls count i j e l c)
  where
    split : (i j : ℕ) → (i < j) ⊎ (j ≤ i)
    split i j = grind arith

    go : (i < j) ⊎ (j ≤ i) → (i < j → Contains (edges_after count j) e) → Contains (edges_after count (suc j)) e
    go (inl l) f = Contains-append_left (edges_after count j) (call_edges count j) e (f l)
    go (inr l) f =
        let s : i ≡ j = omega (arith, h, l) in
        Contains-append_right (edges_after count j) (call_edges count j) e (subst (λ i. Contains (call_edges count i) e) s c)

pub member : (count s t : ℕ) → Made count s t → Contains (demo_edges count) (s, t)
member count s t began = here (0, flat_entry) (edges_after count count)
member count s t (calls i h) = there (0, flat_entry) (s, t) (edges_after count count) (in_calls count i count (s, t) h (0, omega arith, refl))
member count s t (jumps i h) = there (0, flat_entry) (s, t) (edges_after count count) (in_calls count i count (s, t) h (1, omega arith, refl))
member count s t (returns i h) = there (0, flat_entry) (s, t) (edges_after count count) (in_calls count i count (s, t) h (2, omega arith, refl))

-- ---- one target of a site, in an ascending list

module _ (site to : ℕ) where
  abbrev Single : Edge → Type 0
  Single e = e.0 ≡ site → e.1 ≡ to

  in_turn : (a b c d : ℕ) → (nat_lt a c || (nat_eq a c && nat_lt b d)) ≡ true → (a < c) ⊎ ((a ≡ c) × (b < d))
  in_turn a b c d h = grind (arith, nat_tests)

  further : (a b : Edge) → site ≤ a.0 → Single a → Single b → before a b ≡ true → site < b.0
  further a b l s t h = elim (in_turn a.0 a.1 b.0 b.1 h) [
    | inl f ↦ omega (arith, l, f)
    | inr f ↦ go (split site a.0) f.0 f.1
  ]
    where
      split : (i j : ℕ) → (i < j) ⊎ (j ≤ i)
      split i j = grind arith

      go : (site < a.0) ⊎ (a.0 ≤ site) → a.0 ≡ b.0 → a.1 < b.1 → site < b.0
      go (inl g) e m = omega (arith, g, e)
      go (inr g) e m =
          let x : a.0 ≡ site = omega (arith, l, g) in
          let y : b.0 ≡ site = omega (arith, x, e) in
          absurd (omega (arith, s x, t y, m))

  -- no edge behind it
  no_more : (a : Edge) (es : List Edge) → site ≤ a.0 → Single a → ascends_after a es ≡ true → All Single es → targets_from site es ≡ []
  no_more a [] l s h k = refl
  no_more a (b ∷ es) l s h k =
      let p = and_parts (before a b) (ascends_after b es) h in
      let sb = All-head Single b es k in
      let far = further a b l s sb p.0 in
      ap (λ t. map (λ (e : Edge). e.1) (if t then b ∷ filter (λ (e : Edge). e.0 == site) es else filter (λ (e : Edge). e.0 == site) es)) (ne_eqb b.0 site (omega (arith, far)))
      ∙ no_more b es (omega (arith, far)) sb p.1 (All-tail Single b es k)

  rest_ascends : (a : Edge) (es : List Edge) → ascends_after a es ≡ true → ascends es ≡ true
  rest_ascends a [] h = refl
  rest_ascends a (b ∷ es) h = (and_parts (before a b) (ascends_after b es) h).1

  pub single : (es : List Edge) → ascends es ≡ true → All Single es → Contains es (site, to) → targets_from site es ≡ to ∷ []
  single [] h k c = absurd (none (site, to) c)
  single (a ∷ es) h k c = go (a.0 == site) refl (single es (rest_ascends a es h) (All-tail Single a es k))
    where
      differs : a.0 ≡ site → (a.0 == site) ≡ false → ⊥
      differs s e = grind (arith, nat_tests)

      go : (t : Bool) → (a.0 == site) ≡ t → (Contains es (site, to) → targets_from site es ≡ to ∷ []) → targets_from site (a ∷ es) ≡ to ∷ []
      go true e f =
          let at : a.0 ≡ site = eqb-true a.0 site e in
          let is : a.1 ≡ to = All-head Single a es k at in
          ap (λ t. map (λ (e : Edge). e.1) (if t then a ∷ filter (λ (e : Edge). e.0 == site) es else filter (λ (e : Edge). e.0 == site) es)) e
          ∙ ap (λ x. x ∷ targets_from site es) is
          ∙ ap (λ xs. to ∷ xs) (no_more a es (omega (arith, at)) (All-head Single a es k) h (All-tail Single a es k))
      go false e f =
          ap (λ t. map (λ (e : Edge). e.1) (if t then a ∷ filter (λ (e : Edge). e.0 == site) es else filter (λ (e : Edge). e.0 == site) es)) e
          ∙ f (elim (first_or_later a (site, to) es c) [ inl s ↦ absurd (differs (ap (λ (e : Edge). e.0) s) e) | inr d ↦ d ])
