-- A search in a list of edges by halves.
use Rattle.std.proofs.Common.{◌≡◌, ℕ, ◌+◌, ◌<◌, ◌≤◌, Bool, true, false, List, length, get_or, inl, inr, refl, sym, ap, subst, ◌∙◌, arith}
use Rattle.std.specs.Prelude.{Contains, IsTrue, not, nat_lt}
use Rattle.std.proofs.lemmas.Bool.{cases_Bool, cases_lt, ltb-true}
use Rattle.std.proofs.lemmas.List.{get_or_default}
use Rattle.trace_file.specs.Edges.{Edge, IsEdges, before}
use Rattle.trace_file.proofs.Sorted.{tied, not_before_itself, before_after, in_order}

-- the edges below one place are before an edge, those from another on are not
pub record IsBetween (es : List Edge) (e : Edge) (low high : ℕ) : Type 0 where
  pub below : (k : ℕ) (d : Edge) → k < low → before (get_or es k d) e ≡ true
  pub above : (k : ℕ) (d : Edge) → high ≤ k → k < length es → before (get_or es k d) e ≡ false
  pub order : low ≤ high
  pub inside : high ≤ length es

pub lower_half : (es : List Edge) (e : Edge) (low high middle : ℕ) (d : Edge) → IsEdges es → IsBetween es e low high → low ≤ middle → middle < high → before (get_or es middle d) e ≡ true → IsBetween es e (middle + 1) high
lower_half es e low high middle d s b l m h =
    let i = b.inside in
    record { below = go; above = b.above; order = omega arith; inside = b.inside }
  where
    i : high ≤ length es
    i = b.inside

    go : (k : ℕ) (d2 : Edge) → k < middle + 1 → before (get_or es k d2) e ≡ true
    go k d2 n = elim (cases_lt k middle) [
      | inl lt ↦ before_after (get_or es k d2) (get_or es middle d2) e (in_order es k middle d2 s.order lt (omega arith)) (ap (λ x. before x e) (get_or_default es middle d2 d (omega arith)) ∙ h)
      | inr ge ↦ let same : k ≡ middle = omega arith in ap (λ k. before (get_or es k d2) e) same ∙ ap (λ x. before x e) (get_or_default es middle d2 d (omega arith)) ∙ h
    ]

pub upper_half : (es : List Edge) (e : Edge) (low high middle : ℕ) (d : Edge) → IsEdges es → IsBetween es e low high → low ≤ middle → middle < high → before (get_or es middle d) e ≡ false → IsBetween es e low middle
upper_half es e low high middle d s b l m h =
    record { below = b.below; above = go; order = l; inside = omega arith }
  where
    i : high ≤ length es
    i = b.inside

    here : (d2 : Edge) → before (get_or es middle d2) e ≡ false
    here d2 = ap (λ x. before x e) (get_or_default es middle d2 d (omega arith)) ∙ h

    go : (k : ℕ) (d2 : Edge) → middle ≤ k → k < length es → before (get_or es k d2) e ≡ false
    go k d2 n u = elim (cases_lt middle k) [
      | inl lt ↦ elim (cases_Bool (before (get_or es k d2) e)) [
        | inl t ↦ let x = before_after (get_or es middle d2) (get_or es k d2) e (in_order es middle k d2 s.order lt u) t in let y = here d2 in cc
        | inr f ↦ f
      ]
      | inr ge ↦ let same : k ≡ middle = omega arith in ap (λ k. before (get_or es k d2) e) same ∙ here d2
    ]

-- an edge of the list stands where the search ends
pub found_there : (es : List Edge) (e : Edge) (low high : ℕ) (d : Edge) → IsEdges es → IsBetween es e low high → high ≤ low → Contains es e → (low < length es) × (before e (get_or es low d) ≡ false)
found_there es e low high d s b h (k, l, is) = elim (cases_lt k low) [
  | inl lt ↦ let x = b.below k e lt in let y = ap (λ x. before x e) is ∙ not_before_itself e in cc
  | inr ge ↦ (
    omega arith,
    elim (cases_lt low k) [
      | inl lt ↦
          let x : before (get_or es low e) e ≡ true = subst (λ x. before (get_or es low e) x ≡ true) is (in_order es low k e s.order lt l) in
          let y = b.above low e h (omega arith) in
          cc
      | inr le ↦
          let same : low ≡ k = omega arith in
          ap (λ x. before e x) (get_or_default es low d e (omega arith) ∙ ap (λ k. get_or es k e) same ∙ is) ∙ not_before_itself e
    ],
  )
]

pub there_found : (es : List Edge) (e : Edge) (low high : ℕ) (d : Edge) → IsBetween es e low high → high ≤ low → low < length es → before e (get_or es low d) ≡ false → Contains es e
there_found es e low high d b h l f =
    let y = b.above low d h l in
    let same = tied (get_or es low d) e y f in
    (low, l, get_or_default es low e d l ∙ same)

not_inv : (b : Bool) → not b ≡ true → b ≡ false
not_inv true e = cc
not_inv false e = refl

abbrev Decided : Bool → Type 0 → Type 0
Decided b p = (IsTrue b → p) × (p → IsTrue b)

-- what the search answers, where it ends at an edge and where it ends past the last
pub answer_there : (es now : List Edge) (e : Edge) (low high : ℕ) (d : Edge) (b : Bool) → IsEdges es → IsBetween es e low high → high ≤ low → low < length es → es ≡ now → d ≡ get_or es low d → b ≡ before e d → Decided (not b) (Contains now e)
answer_there es now e low high d b s i h l same is y = (
  λ t. subst (λ xs. Contains xs e) same (there_found es e low high d i h l (ap (before e) (sym is) ∙ sym y ∙ not_inv b t)),
  λ c. ap not (y ∙ ap (before e) is ∙ (found_there es e low high d s i h (subst (λ xs. Contains xs e) (sym same) c)).1),
)

pub answer_none : (es now : List Edge) (e : Edge) (low high count : ℕ) → IsEdges es → IsBetween es e low high → high ≤ low → count ≡ length es → count ≤ low → es ≡ now → Decided (nat_lt low count) (Contains now e)
answer_none es now e low high count s i h n l same = (
  λ t. absurd (let m = ltb-true low count t in omega arith),
  λ c. absurd (let f = (found_there es e low high e s i h (subst (λ xs. Contains xs e) (sym same) c)).0 in omega arith),
)
