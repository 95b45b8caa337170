-- How often rows have an edge, and which edges they have.
use Rattle.std.proofs.Common.{◌≡◌, ℕ, ◌+◌, ◌<◌, ◌≤◌, Bool, true, false, cond, eqb, ltb, ◌&&◌, ◌||◌, List, [], ◌∷◌, ◌++◌, length, Option, None, Some, inl, inr, refl, ap, sym, ◌∙◌, subst, arith}
use Rattle.std.specs.Prelude.{Contains, IsSome}
use Rattle.std.proofs.lemmas.Bool.{cases_Bool, eqb-true, eqb-false, eq-eqb}
use Rattle.std.proofs.lemmas.Option.{none-some}
use Rattle.std.proofs.lemmas.Cmp.{nat_cmp_total, then_total, on_total}
use Rattle.std.proofs.lemmas.List.Sums.{sum_by-cons}
use Rattle.std.proofs.lemmas.Map.Keys.{Less-from_sorted, sorted_tail}
use Rattle.std.proofs.lemmas.Map.Lookups.{exact_unsigned, exact_pairs}
use Rattle.std.proofs.lemmas.Map.Views.{btree_map_contains_key_iff}
use Rattle.std.specs.Cmp.{IsTotalOrder}
use Rattle.std.specs.declared.cmp.Ordering.TheVariants.{Less, Equal, Greater}
use Rattle.std.specs.Ordering.{nat_cmp, ordering_then}
use Rattle.std.specs.List.Sorted.{IsStrictlySortedBy}
use Rattle.std.specs.BTreeMap.{BTreeMap, IsOrdered, keys}
use Rattle.link_table.specs.Table.{Table, valued, valued_in}
use Rattle.trace_file.specs.Edges.{Edge, same, before, ascends, ascends_after, pairs, IsSetOf}
use Rattle.trace_file.proofs.Sorted.{and_both, not_before_itself, after_at, ascends_later}
use Rattle.trace_file.proofs.Union.{here, there}
use Rattle.trace_set.specs.Rows.{edge_at, edges_in, rows_in, uses_of, uses_in, edge_cmp, column_of, IsLaid}
use Rattle.trace_set.proofs.Tables.{Entry}
use Rattle.trace_set.proofs.Names.{some_is}

-- ---- the same edge

pub same_itself : (a : Edge) → same a a ≡ true
same_itself a = rw (eq-eqb a.0 a.0 refl, eq-eqb a.1 a.1 refl) refl

pub same_is : (a e : Edge) → same a e ≡ true → a ≡ e
same_is a e h = elim (cases_Bool (eqb a.0 e.0)) [
  | inl p ↦ elim (cases_Bool (eqb a.1 e.1)) [
    | inl q ↦ let x : a.0 ≡ e.0 = eqb-true a.0 e.0 p in let y : a.1 ≡ e.1 = eqb-true a.1 e.1 q in λ i. (x i, y i)
    | inr q ↦ absurd (let k : (eqb a.0 e.0 && false) ≡ true = rw q at h in elim (cases_Bool (eqb a.0 e.0)) [ inl t ↦ (let m : false ≡ true = rw t at k in cc) | inr f ↦ (let m : false ≡ true = rw f at k in cc) ])
  ]
  | inr p ↦ absurd (let k : false ≡ true = rw p at h in cc)
]

pub same_from : (a e : Edge) → a ≡ e → same a e ≡ true
same_from a e h = ap (λ (x : Edge). same a x) (sym h) ∙ same_itself a

-- ---- rows of nodes

module _ (E : List Edge) (names : BTreeMap Edge ℕ) (e : Edge) where
  abbrev AreKeyed : List Entry → Type 0
  AreKeyed es = (v : ℕ) → 0 < valued v es → column_of names (edge_at E v) ≡ Some v

  abbrev AllKeyed : List (List Entry) → Type 0
  AllKeyed rows = (v : ℕ) → 0 < valued_in v rows → column_of names (edge_at E v) ≡ Some v

  first_key : (x : Entry) (es : List Entry) → AreKeyed (x ∷ es) → same (edge_at E x.1) e ≡ true → column_of names e ≡ Some x.1
  first_key x es k t = ap (column_of names) (sym (same_is (edge_at E x.1) e t)) ∙ k x.1 (rw (eq-eqb x.1 x.1 refl) (omega arith))

  none_in : (es : List Entry) → AreKeyed es → column_of names e ≡ None → uses_of e (edges_in E es) ≡ 0
  none_in [] k h = refl
  none_in (x ∷ es) k h = elim (cases_Bool (same (edge_at E x.1) e)) [
    | inl t ↦ absurd (none-some x.1 (sym h ∙ first_key x es k t))
    | inr f ↦ rw f (let z : uses_of e (edges_in E es) ≡ 0 = none_in es (λ v p. k v (omega (arith, p))) h in omega (arith, z))
  ]

  pub none_in_rows : (rows : List (List Entry)) → AllKeyed rows → column_of names e ≡ None → uses_in e (rows_in E rows) ≡ 0
  none_in_rows [] k h = refl
  none_in_rows (es ∷ rows) k h =
      let a : uses_of e (edges_in E es) ≡ 0 = none_in es (λ v p. k v (omega (arith, p))) h in
      let r : uses_in e (rows_in E rows) ≡ 0 = none_in_rows rows (λ v p. k v (omega (arith, p))) h in
      omega (arith, a, r)

  module _ (c : ℕ) (h : column_of names e ≡ Some c) (is : edge_at E c ≡ e) where
    some_in : (es : List Entry) → AreKeyed es → uses_of e (edges_in E es) ≡ valued c es
    some_in [] k = refl
    some_in (x ∷ es) k =
        let r : uses_of e (edges_in E es) ≡ valued c es = some_in es (λ v p. k v (omega (arith, p))) in
        elim (cases_Bool (eqb x.1 c)) [
          | inl t ↦ rw (t, same_from (edge_at E x.1) e (ap (edge_at E) (eqb-true x.1 c t) ∙ is)) (omega (arith, r))
          | inr f ↦ elim (cases_Bool (same (edge_at E x.1) e)) [
            | inl t ↦ absurd (eqb-false x.1 c f (some_is x.1 c (sym (first_key x es k t) ∙ h)))
            | inr g ↦ rw (f, g) (omega (arith, r))
          ]
        ]

    pub some_in_rows : (rows : List (List Entry)) → AllKeyed rows → uses_in e (rows_in E rows) ≡ valued_in c rows
    some_in_rows [] k = refl
    some_in_rows (es ∷ rows) k =
        let a : uses_of e (edges_in E es) ≡ valued c es = some_in es (λ v p. k v (omega (arith, p))) in
        let r : uses_in e (rows_in E rows) ≡ valued_in c rows = some_in_rows rows (λ v p. k v (omega (arith, p))) in
        omega (arith, a, r)

-- ---- the keys ascend

before_of : (a b : Edge) → edge_cmp a b ≡ Less → before a b ≡ true
before_of a b h = go (ltb a.0 b.0) (eqb a.0 b.0) (ltb a.1 b.1) (eqb a.1 b.1) h
  where
    go : (p q s u : Bool) → ordering_then (cond p Less (cond q Equal Greater)) (cond s Less (cond u Equal Greater)) ≡ Less → (p || (q && s)) ≡ true
    go true q s u h = refl
    go false true true u h = refl
    go false true false true h = absurd (cc)
    go false true false false h = absurd (cc)
    go false false s u h = absurd (cc)

ascends_keys : (a : Edge) (ks : List Edge) → IsStrictlySortedBy edge_cmp (a ∷ ks) → ascends_after a ks ≡ true
ascends_keys a [] s = refl
ascends_keys a (b ∷ ks) s =
    and_both (before a b) (ascends_after b ks)
    (before_of a b (Less-from_sorted edge_cmp (a ∷ b ∷ ks) 0 1 a s (omega arith) (omega arith)))
    (ascends_keys b ks (sorted_tail edge_cmp a (b ∷ ks) s))

pub keys_ascend : (ks : List Edge) → IsStrictlySortedBy edge_cmp ks → ascends ks ≡ true
keys_ascend [] s = refl
keys_ascend (a ∷ ks) s = ascends_keys a ks s

-- ---- edges that differ are no more than what has each of them

abbrev without_edge : Edge → List Edge → List Edge
without_edge e [] = []
without_edge e (a ∷ es) = cond (same a e) (without_edge e es) (a ∷ without_edge e es)

shorter : (e : Edge) (es : List Edge) → length (without_edge e es) + uses_of e es ≡ length es
shorter e [] = refl
shorter e (a ∷ es) =
    let r : length (without_edge e es) + uses_of e es ≡ length es = shorter e es in
    elim (cases_Bool (same a e)) [ inl t ↦ rw t (omega (arith, r)) | inr f ↦ rw f (omega (arith, r)) ]

uses-without : (e x : Edge) → (e ≡ x → ⊥) → (es : List Edge) → uses_of x (without_edge e es) ≡ uses_of x es
uses-without e x n [] = refl
uses-without e x n (a ∷ es) =
    let r : uses_of x (without_edge e es) ≡ uses_of x es = uses-without e x n es in
    elim (cases_Bool (same a e)) [
      | inl t ↦ elim (cases_Bool (same a x)) [
        | inl u ↦ absurd (n (sym (same_is a e t) ∙ same_is a x u))
        | inr g ↦ rw (t, g) (omega (arith, r))
      ]
      | inr f ↦ rw f (omega (arith, r))
    ]

apart : (a x : Edge) (ks : List Edge) → ascends_after a ks ≡ true → Contains ks x → a ≡ x → ⊥
apart a x ks h (k, l, is) e =
    let b : before a x ≡ true = subst (λ y. before a y ≡ true) is (after_at a ks k x h l) in
    let c : before a a ≡ true = ap (before a) e ∙ b in
    let d : before a a ≡ false = not_before_itself a in
    let z : true ≡ false = sym c ∙ d in
    cc

pub no_more : (ks es : List Edge) → ascends ks ≡ true → ((e : Edge) → Contains ks e → 0 < uses_of e es) → length ks ≤ length es
no_more [] es s h = omega arith
no_more (a ∷ ks) es s h =
    let r : length ks ≤ length (without_edge a es) = no_more ks (without_edge a es) (ascends_later a ks s) (λ e c. (let u : uses_of e (without_edge a es) ≡ uses_of e es = uses-without a e (apart a e ks s c) es in let p : 0 < uses_of e es = h e (there a e ks c) in omega (arith, u, p))) in
    let u : 0 < uses_of a es = h a (here a ks) in
    let l : length (without_edge a es) + uses_of a es ≡ length es = shorter a es in
    omega (arith, r, u, l)

-- all edges of the rows
abbrev joined : List (List Edge) → List Edge
joined [] = []
joined (es ∷ rows) = es ++ joined rows

uses-append : (e : Edge) (xs ys : List Edge) → uses_of e (xs ++ ys) ≡ uses_of e xs + uses_of e ys
uses-append e [] ys = omega arith
uses-append e (x ∷ xs) ys = let r : uses_of e (xs ++ ys) ≡ uses_of e xs + uses_of e ys = uses-append e xs ys in omega (arith, r)

uses-joined : (e : Edge) (rows : List (List Edge)) → uses_of e (joined rows) ≡ uses_in e rows
uses-joined e [] = refl
uses-joined e (es ∷ rows) = uses-append e es (joined rows) ∙ ap (λ (n : ℕ). uses_of e es + n) (uses-joined e rows)

length-both : (xs ys : List Edge) → length (xs ++ ys) ≡ length xs + length ys
length-both [] ys = omega arith
length-both (x ∷ xs) ys = let r : length (xs ++ ys) ≡ length xs + length ys = length-both xs ys in omega (arith, r)

length-joined : (rows : List (List Edge)) → length (joined rows) ≡ pairs rows
length-joined [] = refl
length-joined (es ∷ rows) =
    let a : length (es ++ joined rows) ≡ length es + length (joined rows) = length-both es (joined rows) in
    let b : pairs (es ∷ rows) ≡ length es + pairs rows = sum_by-cons length es rows in
    let r : length (joined rows) ≡ pairs rows = length-joined rows in
    omega (arith, a, b, r)

-- ---- the edges that rows have are the keys

edge_order : IsTotalOrder edge_cmp
edge_order = then_total (on_total (λ (x : Edge). x.0) nat_cmp_total) (on_total (λ (x : Edge). x.1) nat_cmp_total)

module _ (t : Table) (E : List Edge) (names : BTreeMap Edge ℕ) (spare : List ℕ) (room : ℕ) (k : IsLaid t E names spare room) where
  pub uses_none : (e : Edge) → column_of names e ≡ None → uses_in e (rows_in E t.rows) ≡ 0
  uses_none e h = none_in_rows E names e t.rows k.keyed h

  pub uses_some : (e : Edge) (c : ℕ) → column_of names e ≡ Some c → uses_in e (rows_in E t.rows) ≡ valued_in c t.rows
  uses_some e c h = some_in_rows E names e c h (k.found e c h).0 t.rows k.keyed

  used : (e : Edge) (o : Option ℕ) → column_of names e ≡ o → IsSome o → 0 < uses_in e (rows_in E t.rows)
  used e None h s = absurd (let z : false ≡ true = s in cc)
  used e (Some c) h s = let u : uses_in e (rows_in E t.rows) ≡ valued_in c t.rows = uses_some e c h in let f : 0 < valued_in c t.rows = (k.found e c h).1 in omega (arith, u, f)

  named : (e : Edge) (o : Option ℕ) → column_of names e ≡ o → 0 < uses_in e (rows_in E t.rows) → IsSome o
  named e None h p = absurd (let u : uses_in e (rows_in E t.rows) ≡ 0 = uses_none e h in omega (arith, u, p))
  named e (Some c) h p = refl

  pub key_used : (e : Edge) → Contains (keys names) e → 0 < uses_in e (rows_in E t.rows)
  key_used e c = used e (column_of names e) refl ((btree_map_contains_key_iff edge_order (exact_pairs nat_cmp nat_cmp exact_unsigned exact_unsigned) names e).1 c)

  pub used_key : (e : Edge) → 0 < uses_in e (rows_in E t.rows) → Contains (keys names) e
  used_key e p = (btree_map_contains_key_iff edge_order (exact_pairs nat_cmp nat_cmp exact_unsigned exact_unsigned) names e).0 (named e (column_of names e) refl p)

  pub keys_are : IsOrdered edge_cmp names → IsSetOf (λ e. 0 < uses_in e (rows_in E t.rows)) (keys names)
  keys_are o = record { order = keys_ascend (keys names) o; members = λ e. (key_used e, used_key e) }

  pub few_keys : IsOrdered edge_cmp names → length (keys names) ≤ pairs (rows_in E t.rows)
  few_keys o =
      let n : length (keys names) ≤ length (joined (rows_in E t.rows)) = no_more (keys names) (joined (rows_in E t.rows)) (keys_ascend (keys names) o)
      (λ e c. (let u : uses_of e (joined (rows_in E t.rows)) ≡ uses_in e (rows_in E t.rows) = uses-joined e (rows_in E t.rows) in let p : 0 < uses_in e (rows_in E t.rows) = key_used e c in omega (arith, u, p))) in
      let l : length (joined (rows_in E t.rows)) ≡ pairs (rows_in E t.rows) = length-joined (rows_in E t.rows) in
      omega (arith, n, l)
