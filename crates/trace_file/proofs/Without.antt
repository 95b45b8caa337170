-- What one list has and another has not.
use Rattle.std.proofs.Common.{◌≡◌, ℕ, zero, suc, ◌+◌, ◌<◌, ◌≤◌, Bool, true, false, cond, eqb, not, ◌&&◌, ◌||◌, List, [], ◌∷◌, ◌++◌, length, get_or, drop, inl, inr, refl, ap, sym, subst, ◌∙◌, arith}
use Rattle.std.specs.Prelude.{Contains}
use Rattle.std.proofs.lemmas.Bool.{cases_Bool, eqb-true, eq-eqb}
use Rattle.std.proofs.lemmas.Bool.Decides.{nat_tests}
use Rattle.std.proofs.lemmas.List.{drop_more, get_or_default}
use Rattle.trace_file.specs.Edges.{Edge, IsEdges, before, ascends_after, ascends, same, has, without}
use Rattle.trace_file.proofs.Sorted.{edge, same_edge, and_inv, and_both, tied, ascends_earlier, ascends_later}
use Rattle.trace_file.proofs.Union.{here, there, first_or_later}
use Rattle.trace_file.proofs.Unique.{none}

before_same : (a b : Edge) → before a b ≡ true → same a b ≡ false
before_same a b h = grind (arith, nat_tests)

after_same : (a b : Edge) → before a b ≡ true → same b a ≡ false
after_same a b h = grind (arith, nat_tests)

itself : (a : Edge) → same a a ≡ true
itself a = and_both (eqb a.0 a.0) (eqb a.1 a.1) (eq-eqb a.0 a.0 refl) (eq-eqb a.1 a.1 refl)

is_same : (a b : Edge) → same a b ≡ true → a ≡ b
is_same a b h = let p = and_inv (eqb a.0 b.0) (eqb a.1 b.1) h in same_edge b a (eqb-true a.0 b.0 p.0, eqb-true a.1 b.1 p.1)

-- an edge before a list is not in it
has_none : (e : Edge) (gs : List Edge) → ascends_after e gs ≡ true → has e gs ≡ false
has_none e [] h = refl
has_none e (g ∷ gs) h =
    let p = and_inv (before e g) (ascends_after g gs) h in
    rw (after_same e g p.0) (has_none e gs (ascends_earlier e g gs p.0 p.1))

-- an edge before a list takes nothing from it
skip : (g : Edge) (gs es : List Edge) → ascends_after g es ≡ true → without (g ∷ gs) es ≡ without gs es
skip g gs [] h = refl
skip g gs (e ∷ es) h =
    let p = and_inv (before g e) (ascends_after e es) h in
    rw (before_same g e p.0, skip g gs es (ascends_earlier g e es p.0 p.1)) refl

pub ascends_drop : (es : List Edge) (i : ℕ) → ascends es ≡ true → ascends (drop i es) ≡ true
ascends_drop [] zero h = refl
ascends_drop [] (suc i) h = refl
ascends_drop (e ∷ es) zero h = h
ascends_drop (e ∷ es) (suc i) h = ascends_drop es i (ascends_later e es h)

drop_all : (es : List Edge) → drop (length es) es ≡ []
drop_all [] = refl
drop_all (a ∷ es) = drop_all es

pub none_left : (e : Edge) (gone : List Edge) (at : ℕ) → at ≡ length gone → has e (drop at gone) ≡ false
none_left e gone at h = ap (λ (n : ℕ). has e (drop n gone)) h ∙ ap (has e) (drop_all gone)

-- what is left at a place
left_at : (es : List Edge) (i : ℕ) (a b : Edge) → i < length es → a ≡ get_or es i b → drop i es ≡ a ∷ drop (i + 1) es
left_at es i a b l h = drop_more es i b l ∙ ap (λ (x : Edge). x ∷ drop (i + 1) es) (sym h)

-- an edge that is before this one takes nothing
pub skip_at : (gone : List Edge) (at : ℕ) (g d e : Edge) (es : List Edge) → at < length gone → g ≡ get_or gone at d → before g e ≡ true → ascends (e ∷ es) ≡ true → without (drop (at + 1) gone) (e ∷ es) ≡ without (drop at gone) (e ∷ es)
skip_at gone at g d e es l h b a =
    sym (ap (λ (t : List Edge). without t (e ∷ es)) (left_at gone at g d l h) ∙ skip g (drop (at + 1) gone) (e ∷ es) (and_both (before g e) (ascends_after e es) b a))

-- where an edge that is not before this one stands
pub stands : (gone : List Edge) (at : ℕ) (g d e : Edge) → ascends gone ≡ true → at < length gone → g ≡ get_or gone at d → before g e ≡ false → has e (drop at gone) ≡ not (before e g)
stands gone at g d e a l h b =
    let asc : ascends_after g (drop (at + 1) gone) ≡ true = subst (λ (t : List Edge). ascends t ≡ true) (left_at gone at g d l h) (ascends_drop gone at a) in
    ap (has e) (left_at gone at g d l h) ∙ elim (cases_Bool (before e g)) [
      | inl t ↦ has_none e (g ∷ drop (at + 1) gone) (and_both (before e g) (ascends_after g (drop (at + 1) gone)) t asc) ∙ ap not (sym t)
      | inr f ↦ ap (λ (t : Bool). t || has e (drop (at + 1) gone)) (ap (same g) (sym (tied g e b f)) ∙ itself g) ∙ ap not (sym f)
    ]

-- the same, from the reads
pub skipped_one : (gone : List Edge) (at : ℕ) (d e : Edge) (r : Bool) → r ≡ before (get_or gone at d) e → r ≡ true → at < length gone → (es : List Edge) → ascends (e ∷ es) ≡ true → without (drop (at + 1) gone) (e ∷ es) ≡ without (drop at gone) (e ∷ es)
skipped_one gone at d e r q t l es a = skip_at gone at (get_or gone at d) d e es l refl (sym q ∙ t) a

pub stands_here : (gone : List Edge) (at : ℕ) (d e : Edge) (r : Bool) → r ≡ before e (get_or gone at d) → at < length gone → (at < length gone → before (get_or gone at e) e ≡ false) → ascends gone ≡ true → not r ≡ has e (drop at gone)
stands_here gone at d e r q l h a =
    let s : get_or gone at d ≡ get_or gone at e = get_or_default gone at d e l in
    ap not q ∙ sym (stands gone at (get_or gone at d) d e a l refl (ap (λ (g : Edge). before g e) s ∙ h l))

append_more : (xs : List Edge) (e : Edge) (ys : List Edge) → (xs ++ e ∷ []) ++ ys ≡ xs ++ e ∷ ys
append_more [] e ys = refl
append_more (x ∷ xs) e ys = ap (λ (t : List Edge). x ∷ t) (append_more xs e ys)

-- one turn of the pass
pub turn : (gone list : List Edge) (old next i : ℕ) (d : Edge) (b : Bool) (rest more whole : List Edge) → b ≡ has (get_or list i d) (drop next gone) → more ≡ cond b rest (rest ++ get_or list i d ∷ []) → ascends list ≡ true → i < length list → ((es : List Edge) → ascends (get_or list i d ∷ es) ≡ true → without (drop next gone) (get_or list i d ∷ es) ≡ without (drop old gone) (get_or list i d ∷ es)) → rest ++ without (drop old gone) (drop i list) ≡ whole → more ++ without (drop next gone) (drop (i + 1) list) ≡ whole
turn gone list old next i d b rest more whole q m a l s w =
    let e : drop i list ≡ get_or list i d ∷ drop (i + 1) list = drop_more list i d l in
    let asc : ascends (get_or list i d ∷ drop (i + 1) list) ≡ true = subst (λ (t : List Edge). ascends t ≡ true) e (ascends_drop list i a) in
    let r : rest ++ without (drop next gone) (get_or list i d ∷ drop (i + 1) list) ≡ whole = ap (λ (t : List Edge). rest ++ t) (s (drop (i + 1) list) asc ∙ ap (without (drop old gone)) (sym e)) ∙ w in
    elim (cases_Bool b) [
      | inl t ↦ let h : has (get_or list i d) (drop next gone) ≡ true = sym q ∙ t in
          let n : more ≡ rest = m ∙ ap (λ (c : Bool). cond c rest (rest ++ get_or list i d ∷ [])) t in
          let f : without (drop next gone) (get_or list i d ∷ drop (i + 1) list) ≡ without (drop next gone) (drop (i + 1) list) = rw h refl in
          ap (λ (x : List Edge). x ++ without (drop next gone) (drop (i + 1) list)) n ∙ ap (λ (x : List Edge). rest ++ x) (sym f) ∙ r
      | inr t ↦ let h : has (get_or list i d) (drop next gone) ≡ false = sym q ∙ t in
          let n : more ≡ rest ++ get_or list i d ∷ [] = m ∙ ap (λ (c : Bool). cond c rest (rest ++ get_or list i d ∷ [])) t in
          let f : without (drop next gone) (get_or list i d ∷ drop (i + 1) list) ≡ get_or list i d ∷ without (drop next gone) (drop (i + 1) list) = rw h refl in
          ap (λ (x : List Edge). x ++ without (drop next gone) (drop (i + 1) list)) n ∙ append_more rest (get_or list i d) (without (drop next gone) (drop (i + 1) list)) ∙ ap (λ (x : List Edge). rest ++ x) (sym f) ∙ r
    ]

-- ---- which edges

pub has_from : (e : Edge) (es : List Edge) → Contains es e → has e es ≡ true
has_from e [] c = absurd (none e c)
has_from e (a ∷ es) c = elim (first_or_later a e es c) [
  | inl s ↦ rw (ap (λ (x : Edge). same x e) s ∙ itself e) refl
  | inr r ↦ elim (cases_Bool (same a e)) [ inl t ↦ rw t refl | inr f ↦ rw f (has_from e es r) ]
]

pub has_to : (e : Edge) (es : List Edge) → has e es ≡ true → Contains es e
has_to e [] h = absurd (cc)
has_to e (a ∷ es) h = elim (cases_Bool (same a e)) [
  | inl t ↦ subst (λ (x : Edge). Contains (x ∷ es) e) (sym (is_same a e t)) (here e es)
  | inr f ↦ there a e es (has_to e es (let k : has e es ≡ true = rw f at h in k))
]

pub from_without : (gone es : List Edge) (e : Edge) → Contains (without gone es) e → Contains es e × (Contains gone e → ⊥)
from_without gone [] e c = absurd (none e c)
from_without gone (a ∷ es) e c = elim (cases_Bool (has a gone)) [
  | inl t ↦ let r = from_without gone es e (let k : Contains (without gone es) e = rw t at c in k) in (there a e es r.0, r.1)
  | inr f ↦ let k : Contains (a ∷ without gone es) e = rw f at c in elim (first_or_later a e (without gone es) k) [
    | inl s ↦ (subst (λ (x : Edge). Contains (x ∷ es) e) (sym s) (here e es), λ g. (let n : false ≡ true = sym f ∙ ap (λ (x : Edge). has x gone) s ∙ has_from e gone g in cc))
    | inr r ↦ let q = from_without gone es e r in (there a e es q.0, q.1)
  ]
]

pub to_without : (gone es : List Edge) (e : Edge) → Contains es e → (Contains gone e → ⊥) → Contains (without gone es) e
to_without gone [] e c n = absurd (none e c)
to_without gone (a ∷ es) e c n = elim (cases_Bool (has a gone)) [
  | inl t ↦ rw t (elim (first_or_later a e es c) [
    | inl s ↦ absurd (n (has_to e gone (ap (λ (x : Edge). has x gone) (sym s) ∙ t)))
    | inr r ↦ to_without gone es e r n
  ])
  | inr f ↦ rw f (elim (first_or_later a e es c) [
    | inl s ↦ subst (λ (x : Edge). Contains (x ∷ without gone es) e) (sym s) (here e (without gone es))
    | inr r ↦ there a e (without gone es) (to_without gone es e r n)
  ])
]

-- ---- order

after_without : (gone : List Edge) (a : Edge) (es : List Edge) → ascends_after a es ≡ true → ascends_after a (without gone es) ≡ true
after_without gone a [] h = refl
after_without gone a (e ∷ es) h =
    let p = and_inv (before a e) (ascends_after e es) h in elim (cases_Bool (has e gone)) [
      | inl t ↦ rw t (after_without gone a es (ascends_earlier a e es p.0 p.1))
      | inr f ↦ rw f (and_both (before a e) (ascends_after e (without gone es)) p.0 (after_without gone e es p.1))
    ]

pub ascends_without : (gone es : List Edge) → ascends es ≡ true → ascends (without gone es) ≡ true
ascends_without gone [] h = refl
ascends_without gone (e ∷ es) h = elim (cases_Bool (has e gone)) [
  | inl t ↦ rw t (ascends_without gone es (ascends_later e es h))
  | inr f ↦ rw f (after_without gone e es h)
]

pub length_without : (gone es : List Edge) → length (without gone es) ≤ length es
length_without gone [] = omega arith
length_without gone (e ∷ es) = let l : length (without gone es) ≤ length es = length_without gone es in elim (cases_Bool (has e gone)) [
  | inl t ↦ rw t (omega (arith, l))
  | inr f ↦ rw f (omega (arith, l))
]

pub without_edges : (gone es : List Edge) → IsEdges es → IsEdges (without gone es)
without_edges gone es h = record { order = ascends_without gone es h.order; count = (let l : length (without gone es) ≤ length es = length_without gone es in let c = h.count in omega (arith, l, c)) }
