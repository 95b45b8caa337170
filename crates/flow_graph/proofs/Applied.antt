-- The edges that count of a changed set come from those of the set.
use Rattle.std.proofs.Common.{◌≡◌, zero, suc, Bool, true, false, not, List, [], ◌∷◌, ◌⊎◌, inl, inr, refl, ap, sym, subst, ◌∙◌, arith}
use Rattle.std.specs.Prelude.{Contains, All, filter}
use Rattle.std.proofs.lemmas.Bool.{cases_Bool}
use Rattle.elf_read.specs.declared.exe.Exe.{Exe}
use Rattle.trace_file.specs.Edges.{Edge, ascends, has, merge, without, IsInOrder, IsSetOf, IsInSome, SetsHold}
use Rattle.trace_file.proofs.Union.{from_merge, to_merge, ascends_merge}
use Rattle.trace_file.proofs.Unique.{unique}
use Rattle.trace_file.proofs.Without.{from_without, ascends_without}
use Rattle.block_cut.specs.CountedEdges.{counts, counting}
use Rattle.flow_graph.specs.Graph.{applied, Applies}
use Rattle.flow_graph.proofs.SiteRuns.{filter_ascends}

-- ---- elements

head_of : {X : Type 0} (x : X) (xs : List X) → Contains (x ∷ xs) x
head_of x xs = (0, omega arith, refl)

behind : {X : Type 0} (a x : X) (xs : List X) → Contains xs x → Contains (a ∷ xs) x
behind a x xs (k, l, h) = (suc k, omega (arith, l), h)

either : {X : Type 0} (a x : X) (xs : List X) → Contains (a ∷ xs) x → (a ≡ x) ⊎ Contains xs x
either a x xs (zero, l, h) = inl h
either a x xs (suc k, l, h) = inr (k, omega (arith, l), h)

nothing : {X : Type 0} (x : X) → Contains [] x → ⊥
nothing x (k, l, h) = omega (arith, l)

from_filter : (p : Edge → Bool) (es : List Edge) (e : Edge) → Contains (filter p es) e → Contains es e × (p e ≡ true)
from_filter p [] e c = absurd (nothing e c)
from_filter p (a ∷ es) e c = elim (cases_Bool (p a)) [
  | inl t ↦ let k : Contains (a ∷ filter p es) e = rw t at c in elim (either a e (filter p es) k) [
    | inl s ↦ (subst (λ (x : Edge). Contains (x ∷ es) e) (sym s) (head_of e es), ap p (sym s) ∙ t)
    | inr r ↦ let q = from_filter p es e r in (behind a e es q.0, q.1)
  ]
  | inr f ↦ let k : Contains (filter p es) e = rw f at c in let q = from_filter p es e k in (behind a e es q.0, q.1)
]

to_filter : (p : Edge → Bool) (es : List Edge) (e : Edge) → Contains es e → p e ≡ true → Contains (filter p es) e
to_filter p [] e c h = absurd (nothing e c)
to_filter p (a ∷ es) e c h = elim (cases_Bool (p a)) [
  | inl t ↦ rw t (elim (either a e es c) [
    | inl s ↦ subst (λ (x : Edge). Contains (x ∷ filter p es) e) (sym s) (head_of e (filter p es))
    | inr r ↦ behind a e (filter p es) (to_filter p es e r h)
  ])
  | inr f ↦ rw f (elim (either a e es c) [
    | inl s ↦ absurd (let n : true ≡ false = sym h ∙ ap p (sym s) ∙ f in cc)
    | inr r ↦ to_filter p es e r h
  ])
]

-- ---- the changed set of edges that count

-- only those that are added are tried
pub added_counted : (p : Edge → Bool) (added gone es : List Edge) → IsInOrder added → IsInOrder es → es ≡ filter p es → merge (filter p added) (without gone es) ≡ filter p (merge added (without gone es))
added_counted p added gone es oa oe c =
    unique (merge (filter p added) (without gone es)) (filter p (merge added (without gone es)))
    (ascends_merge (filter p added) (without gone es) (filter_ascends p added oa) (ascends_without gone es oe))
    (filter_ascends p (merge added (without gone es)) (ascends_merge added (without gone es) oa (ascends_without gone es oe)))
    there back
  where
    there : (e : Edge) → Contains (merge (filter p added) (without gone es)) e → Contains (filter p (merge added (without gone es))) e
    there e m = elim (from_merge e (filter p added) (without gone es) m) [
      | inl a ↦ let f = from_filter p added e a in to_filter p (merge added (without gone es)) e (to_merge e added (without gone es) (inl f.0)) f.1
      | inr w ↦ let passes = from_filter p es e (subst (λ (t : List Edge). Contains t e) c (from_without gone es e w).0) in
          to_filter p (merge added (without gone es)) e (to_merge e added (without gone es) (inr w)) passes.1
    ]

    back : (e : Edge) → Contains (filter p (merge added (without gone es))) e → Contains (merge (filter p added) (without gone es)) e
    back e m = let f = from_filter p (merge added (without gone es)) e m in elim (from_merge e added (without gone es) f.0) [
      | inl a ↦ to_merge e (filter p added) (without gone es) (inl (to_filter p added e a f.1))
      | inr w ↦ to_merge e (filter p added) (without gone es) (inr w)
    ]

-- ---- the changed set

abbrev stays : List Edge → Edge → Bool
stays gone e = not (has e gone)

without_filter : (gone es : List Edge) → without gone es ≡ filter (stays gone) es
without_filter gone [] = refl
without_filter gone (e ∷ es) = elim (cases_Bool (has e gone)) [
  | inl t ↦ rw t (without_filter gone es)
  | inr f ↦ rw f (ap (λ (t : List Edge). e ∷ t) (without_filter gone es))
]

without_order : (gone es : List Edge) → IsInOrder es → IsInOrder (without gone es)
without_order gone es h = subst (λ (t : List Edge). ascends t ≡ true) (sym (without_filter gone es)) (filter_ascends (stays gone) es h)

merge_none : (xs : List Edge) → merge xs [] ≡ xs
merge_none [] = refl
merge_none (x ∷ xs) = ap (λ (t : List Edge). x ∷ t) (merge_none xs)

two : (xs ys : List Edge) → IsInOrder xs → IsInOrder ys → All IsInOrder (xs ∷ ys ∷ [])
two xs ys p q zero d l = p
two xs ys p q (suc zero) d l = q
two xs ys p q (suc (suc k)) d l = absurd (omega (arith, l))

module _ (holds : SetsHold) where
  joined : (xs ys : List Edge) → IsInOrder xs → IsInOrder ys → IsSetOf (IsInSome (xs ∷ ys ∷ [])) (merge xs ys)
  joined xs ys p q = subst (λ (t : List Edge). IsSetOf (IsInSome (xs ∷ ys ∷ [])) t) (ap (merge xs) (merge_none ys)) (holds.united (xs ∷ ys ∷ []) (two xs ys p q))

  from_joined : (xs ys : List Edge) → IsInOrder xs → IsInOrder ys → (e : Edge) → Contains (merge xs ys) e → Contains xs e ⊎ Contains ys e
  from_joined xs ys p q e c =
      let s : IsInSome (xs ∷ ys ∷ []) e = ((joined xs ys p q).members e).0 c in elim (either xs s.0 (ys ∷ []) s.1) [
        | inl h ↦ inl (subst (λ (t : List Edge). Contains t e) (sym h) s.2)
        | inr r ↦ elim (either ys s.0 [] r) [
          | inl h ↦ inr (subst (λ (t : List Edge). Contains t e) (sym h) s.2)
          | inr n ↦ absurd (nothing s.0 n)
        ]
      ]

  to_joined : (xs ys : List Edge) → IsInOrder xs → IsInOrder ys → (e : Edge) → Contains xs e ⊎ Contains ys e → Contains (merge xs ys) e
  to_joined xs ys p q e (inl c) = ((joined xs ys p q).members e).1 (xs, head_of xs (ys ∷ []), c)
  to_joined xs ys p q e (inr c) = ((joined xs ys p q).members e).1 (ys, behind xs ys (ys ∷ []) (head_of ys []), c)

  -- one direction: what is in the list made of fewer edges is in the other
  narrow : (p : Edge → Bool) (added gone es : List Edge) → IsInOrder added → IsInOrder es → (e : Edge) → Contains (filter p (merge added (without gone (filter p es)))) e → Contains (filter p (merge added (without gone es))) e
  narrow p added gone es oa oe e c =
      let f = from_filter p (merge added (without gone (filter p es))) e c in
      to_filter p (merge added (without gone es)) e (to_joined added (without gone es) oa (without_order gone es oe) e (elim (from_joined added (without gone (filter p es)) oa (without_order gone (filter p es) (filter_ascends p es oe)) e f.0) [
        | inl a ↦ inl a
        | inr r ↦ let w = from_filter (stays gone) (filter p es) e (subst (λ (t : List Edge). Contains t e) (without_filter gone (filter p es)) r) in
            inr (subst (λ (t : List Edge). Contains t e) (sym (without_filter gone es)) (to_filter (stays gone) es e (from_filter p es e w.0).0 w.1))
      ])) f.1

  wide : (p : Edge → Bool) (added gone es : List Edge) → IsInOrder added → IsInOrder es → (e : Edge) → Contains (filter p (merge added (without gone es))) e → Contains (filter p (merge added (without gone (filter p es)))) e
  wide p added gone es oa oe e c =
      let f = from_filter p (merge added (without gone es)) e c in
      to_filter p (merge added (without gone (filter p es))) e (to_joined added (without gone (filter p es)) oa (without_order gone (filter p es) (filter_ascends p es oe)) e (elim (from_joined added (without gone es) oa (without_order gone es oe) e f.0) [
        | inl a ↦ inl a
        | inr r ↦ let w = from_filter (stays gone) es e (subst (λ (t : List Edge). Contains t e) (without_filter gone es) r) in
            inr (subst (λ (t : List Edge). Contains t e) (sym (without_filter gone (filter p es))) (to_filter (stays gone) (filter p es) e (to_filter p es e w.0 f.1) w.1))
      ])) f.1

  pub same_counting : (p : Edge → Bool) (added gone es : List Edge) → IsInOrder added → IsInOrder es → filter p (merge added (without gone (filter p es))) ≡ filter p (merge added (without gone es))
  same_counting p added gone es oa oe =
      let o : IsInOrder (filter p (merge added (without gone (filter p es)))) = filter_ascends p (merge added (without gone (filter p es))) (joined added (without gone (filter p es)) oa (without_order gone (filter p es) (filter_ascends p es oe))).order in
      let u : IsInOrder (filter p (merge added (without gone es))) = filter_ascends p (merge added (without gone es)) (joined added (without gone es) oa (without_order gone es oe)).order in
      holds.unique (filter p (merge added (without gone es))) (filter p (merge added (without gone (filter p es)))) u
      (record { order = o; members = λ e. (narrow p added gone es oa oe e, wide p added gone es oa oe e) })

  pub applies : (exe : Exe) (old added gone new : List Edge) → IsInOrder added → new ≡ counting exe (applied added gone old) → Applies exe old added gone new
  applies exe old added gone new oa h = λ es oe q. h ∙ ap (λ (t : List Edge). counting exe (applied added gone t)) q ∙ same_counting (counts exe) added gone es oa oe
