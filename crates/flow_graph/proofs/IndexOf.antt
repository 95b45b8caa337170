-- Rows whose starts ascend: where a start stands.
use Rattle.std.proofs.Common.{◌≡◌, ℕ, ◌+◌, ◌<◌, ◌≤◌, List, [], length, get_or, Option, Some, None, inl, inr, sym, subst, ap, ◌∙◌, arith}
use Rattle.std.specs.Prelude.{◌↔◌}
use Rattle.std.specs.List.Sorted.{IsStrictlyIncreasing}
use Rattle.std.proofs.lemmas.Bool.{cases_lt}
use Rattle.std.proofs.lemmas.Map.Keys.{sorted_from_strictly_increasing, below_from_sorted}
use Rattle.std.proofs.lemmas.List.{get_or-map, length-map}
use Rattle.block_cut.specs.declared.ends.End.TheVariants.{Unreadable}
use Rattle.flow_graph.specs.declared.block_rows.BlockRow.{BlockRow}
use Rattle.run_model.specs.Edges.{Edge}
use Rattle.flow_graph.specs.Graph.{Node, GraphView, node_at, StartsAt}
use Rattle.flow_graph.specs.BlockRows.{node_of, nodes_of, row_starts, view_of}

rise : (xs : List ℕ) (i j : ℕ) → IsStrictlyIncreasing xs → i ≤ j → j < length xs → get_or xs i 0 ≤ get_or xs j 0
rise xs i j up le in' = elim (cases_lt i j) as (λ _. get_or xs i 0 ≤ get_or xs j 0) [
  | inl lt ↦ omega (arith, below_from_sorted xs i j 0 (sorted_from_strictly_increasing xs up) lt in')
  | inr ge ↦ let is : i ≡ j = omega arith in let e = ap (λ m. get_or xs m 0) is in omega arith
]

module _ (rows : List BlockRow) (up : IsStrictlyIncreasing (row_starts rows)) where
  abbrev at : ℕ → ℕ
  at k = get_or (row_starts rows) k 0

  long : length (row_starts rows) ≡ length rows
  long = length-map rows (λ (r : BlockRow). r.start)

  -- the start of a row that is read
  pub start_at : (k : ℕ) (d : BlockRow) → k < length rows → at k ≡ (get_or rows k d).start
  start_at k d l = get_or-map (λ (r : BlockRow). r.start) rows k d 0 l

  pub after_middle : (middle start : ℕ) (d : BlockRow) → middle < length rows → start ≤ (get_or rows middle d).start → (k : ℕ) → middle ≤ k → k < length rows → start ≤ at k
  after_middle middle start d in' from k le l = let n = long in omega (arith, from, start_at middle d in', rise (row_starts rows) middle k up le (omega arith))

  pub before_middle : (middle start : ℕ) (d : BlockRow) → middle < length rows → (get_or rows middle d).start < start → (k : ℕ) → k < middle + 1 → at k < start
  before_middle middle start d in' below k l = let n = long in omega (arith, below, start_at middle d in', rise (row_starts rows) k middle up (omega arith) (omega arith))

  abbrev IsIndex : ℕ → ℕ → Type 0
  IsIndex start i = (i < length rows) × (at i ≡ start)

  -- the first row whose start is not below: its start, or none
  pub index_is : (start first : ℕ) → ((k : ℕ) → k < first → at k < start) → first < length rows → at first ≡ start → (i : ℕ) → (Some first ≡ Some i) ↔ IsIndex start i
  index_is start first below in' is i = (there, back)
    where
      there : Some first ≡ Some i → IsIndex start i
      there e = let same : first ≡ i = cc in (omega (arith, same, in'), ap at (sym same) ∙ is)

      back : IsIndex start i → Some first ≡ Some i
      back h = elim (cases_lt i first) as (λ _. Some first ≡ Some i) [
        | inl lt ↦ absurd (omega (arith, below i lt, h.1))
        | inr ge ↦ elim (cases_lt first i) as (λ _. Some first ≡ Some i) [
          | inl lt ↦ let n = long in absurd (omega (arith, h.1, is, below_from_sorted (row_starts rows) first i 0 (sorted_from_strictly_increasing (row_starts rows) up) lt (omega (arith, h.0))))
          | inr le ↦ let same : first ≡ i = omega arith in ap (λ n. Some n) same
        ]
      ]

  pub no_index : (start first : ℕ) → ((k : ℕ) → k < first → at k < start) → ((k : ℕ) → first ≤ k → k < length rows → start ≤ at k) → (first < length rows → at first ≡ start → ⊥) → (i : ℕ) → (None ≡ Some i) ↔ IsIndex start i
  no_index start first below from absent i = ((λ e. cc), λ h. absurd (none h))
    where
      none : IsIndex start i → ⊥
      none h = elim (cases_lt i first) as (λ _. ⊥) [
        | inl lt ↦ omega (arith, below i lt, h.1)
        | inr ge ↦ elim (cases_lt first i) as (λ _. ⊥) [
          | inl lt ↦ let n = long in omega (arith, h.1, from first (omega arith) (omega (arith, h.0)), below_from_sorted (row_starts rows) first i 0 (sorted_from_strictly_increasing (row_starts rows) up) lt (omega (arith, h.0)))
          | inr le ↦ let same : i ≡ first = omega arith in absent (omega (arith, same, h.0)) (ap at (sym same) ∙ h.1)
        ]
      ]

-- ---- as a graph is seen

module _ (edges : List Edge) (targets : List ℕ) (rows : List BlockRow) where
  many : length (nodes_of targets rows) ≡ length rows
  many = length-map rows (node_of targets)

  -- a row's start is that of the block that it shows
  same_start : (i : ℕ) → i < length rows → get_or (row_starts rows) i 0 ≡ (node_at (nodes_of targets rows) i).start
  same_start i l =
      let d : BlockRow = record { start = 0; cut = record { count = 0; len = 0; end = Unreadable; last = 0 }; from = 0; to = 0 } in
      get_or-map (λ (r : BlockRow). r.start) rows i d 0 l
      ∙ sym (ap (λ (n : Node). n.start) (get_or-map (node_of targets) rows i d (record { start = 0; known = [] }) l))

  pub index_seen : (again : List BlockRow) (g : GraphView) (start : ℕ) (o : Option ℕ) → again ≡ rows → g ≡ view_of edges targets rows → ((i : ℕ) → (o ≡ Some i) ↔ ((i < length again) × (get_or (row_starts again) i 0 ≡ start))) → (i : ℕ) → (o ≡ Some i) ↔ StartsAt g.nodes i start
  index_seen again g start o same is h i =
      let P : List BlockRow → Type 0 = λ rs. (o ≡ Some i) ↔ ((i < length rs) × (get_or (row_starts rs) i 0 ≡ start)) in
      let Q : GraphView → Type 0 = λ g. (o ≡ Some i) ↔ StartsAt g.nodes i start in
      let k : P rows = subst P same (h i) in
      let seen : Q (view_of edges targets rows) = (
        (λ e. let at = k.0 e in (omega (arith, at.0, many), sym (same_start i at.0) ∙ at.1)),
        (λ at. let l : i < length rows = omega (arith, at.0, many) in k.1 (l, same_start i l ∙ at.1)),
      ) in
      subst Q (sym is) seen
