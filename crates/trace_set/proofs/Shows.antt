-- The edges that rows of nodes show.
use Rattle.std.proofs.Common.{◌≡◌, ℕ, zero, suc, ◌+◌, true, false, eqb, List, [], ◌∷◌, ◌++◌, length, get_or, set, drop, inl, inr, refl, ap, sym, ◌∙◌, arith, get_or-set_other}
use Rattle.std.proofs.lemmas.Bool.{cases_Bool, eq-eqb}
use Rattle.std.proofs.lemmas.List.Sums.{sum_by-cons}
use Rattle.trace_file.specs.Edges.{Edge, pairs}
use Rattle.link_table.specs.Table.{put_entry, valued, valued_in, count_in}
use Rattle.trace_set.specs.Rows.{edge_at, edges_in, rows_in, put_edge, behead}
use Rattle.trace_set.proofs.Tables.{Entry}

pub length-rows_in : (E : List Edge) (rows : List (List Entry)) → length (rows_in E rows) ≡ length rows
length-rows_in E [] = refl
length-rows_in E (es ∷ rows) = ap suc (length-rows_in E rows)

length-edges_in : (E : List Edge) (es : List Entry) → length (edges_in E es) ≡ length es
length-edges_in E [] = refl
length-edges_in E (e ∷ es) = ap suc (length-edges_in E es)

pub pairs-rows_in : (E : List Edge) (rows : List (List Entry)) → pairs (rows_in E rows) ≡ count_in rows
pairs-rows_in E [] = refl
pairs-rows_in E (es ∷ rows) =
    let a : pairs (edges_in E es ∷ rows_in E rows) ≡ length (edges_in E es) + pairs (rows_in E rows) = sum_by-cons length (edges_in E es) (rows_in E rows) in
    let b : length (edges_in E es) ≡ length es = length-edges_in E es in
    let r : pairs (rows_in E rows) ≡ count_in rows = pairs-rows_in E rows in
    omega (arith, a, b, r)

pub get-rows_in : (E : List Edge) (rows : List (List Entry)) (r : ℕ) → get_or (rows_in E rows) r [] ≡ edges_in E (get_or rows r [])
get-rows_in E [] r = refl
get-rows_in E (es ∷ rows) zero = refl
get-rows_in E (es ∷ rows) (suc r) = get-rows_in E rows r

pub rows_in-append : (E : List Edge) (rows : List (List Entry)) → rows_in E (rows ++ [] ∷ []) ≡ rows_in E rows ++ [] ∷ []
rows_in-append E [] = refl
rows_in-append E (es ∷ rows) = ap (λ (q : List (List Edge)). edges_in E es ∷ q) (rows_in-append E rows)

edges_in-append : (E : List Edge) (es : List Entry) (n c : ℕ) → edges_in E (es ++ (n, c) ∷ []) ≡ edges_in E es ++ edge_at E c ∷ []
edges_in-append E [] n c = refl
edges_in-append E (e ∷ es) n c = ap (λ (q : List Edge). edge_at E e.1 ∷ q) (edges_in-append E es n c)

pub rows_in-put : (E : List Edge) (rows : List (List Entry)) (r n c : ℕ) → rows_in E (put_entry rows r (n, c)) ≡ put_edge (rows_in E rows) r (edge_at E c)
rows_in-put E [] r n c = refl
rows_in-put E (es ∷ rows) zero n c = ap (λ (q : List Edge). q ∷ rows_in E rows) (edges_in-append E es n c)
rows_in-put E (es ∷ rows) (suc r) n c = ap (λ (q : List (List Edge)). edges_in E es ∷ q) (rows_in-put E rows r n c)

edges_in-rest : (E : List Edge) (es : List Entry) → edges_in E (drop 1 es) ≡ drop 1 (edges_in E es)
edges_in-rest E [] = refl
edges_in-rest E (e ∷ es) = refl

pub rows_in-behead : (E : List Edge) (rows : List (List Entry)) (r : ℕ) → rows_in E (behead rows r) ≡ behead (rows_in E rows) r
rows_in-behead E [] r = refl
rows_in-behead E (es ∷ rows) zero = ap (λ (q : List Edge). q ∷ rows_in E rows) (edges_in-rest E es)
rows_in-behead E (es ∷ rows) (suc r) = ap (λ (q : List (List Edge)). edges_in E es ∷ q) (rows_in-behead E rows r)

-- ---- a column that no node has

pub edge_at-other : (E : List Edge) (c d : ℕ) (e : Edge) → (d ≡ c → ⊥) → edge_at (set E c e) d ≡ edge_at E d
edge_at-other E c d e n = get_or-set_other E c d e (0, 0) n

edges_in-set : (E : List Edge) (c : ℕ) (e : Edge) (es : List Entry) → valued c es ≡ 0 → edges_in (set E c e) es ≡ edges_in E es
edges_in-set E c e [] h = refl
edges_in-set E c e (x ∷ es) h = elim (cases_Bool (eqb x.1 c)) [
  | inl t ↦ absurd (let k : 1 + valued c es ≡ 0 = rw t at h in omega (arith, k))
  | inr f ↦
      let a : edge_at (set E c e) x.1 ≡ edge_at E x.1 = edge_at-other E c x.1 e (λ q. (let k : true ≡ false = sym (eq-eqb x.1 c q) ∙ f in cc)) in
      let r : edges_in (set E c e) es ≡ edges_in E es = edges_in-set E c e es (omega (arith, h)) in
      ap (λ (q : Edge). q ∷ edges_in (set E c e) es) a ∙ ap (λ (q : List Edge). edge_at E x.1 ∷ q) r
]

pub rows_in-set : (E : List Edge) (c : ℕ) (e : Edge) (rows : List (List Entry)) → valued_in c rows ≡ 0 → rows_in (set E c e) rows ≡ rows_in E rows
rows_in-set E c e [] h = refl
rows_in-set E c e (es ∷ rows) h =
    ap (λ (q : List Edge). q ∷ rows_in (set E c e) rows) (edges_in-set E c e es (omega (arith, h)))
    ∙ ap (λ (q : List (List Edge)). edges_in E es ∷ q) (rows_in-set E c e rows (omega (arith, h)))

pub edge_at-more : (E : List Edge) (c : ℕ) → edge_at (E ++ (0, 0) ∷ []) c ≡ edge_at E c
edge_at-more [] zero = refl
edge_at-more [] (suc c) = refl
edge_at-more (e ∷ E) zero = refl
edge_at-more (e ∷ E) (suc c) = edge_at-more E c

edges_in-more : (E : List Edge) (es : List Entry) → edges_in (E ++ (0, 0) ∷ []) es ≡ edges_in E es
edges_in-more E [] = refl
edges_in-more E (x ∷ es) =
    ap (λ (q : Edge). q ∷ edges_in (E ++ (0, 0) ∷ []) es) (edge_at-more E x.1)
    ∙ ap (λ (q : List Edge). edge_at E x.1 ∷ q) (edges_in-more E es)

pub rows_in-more : (E : List Edge) (rows : List (List Entry)) → rows_in (E ++ (0, 0) ∷ []) rows ≡ rows_in E rows
rows_in-more E [] = refl
rows_in-more E (es ∷ rows) =
    ap (λ (q : List Edge). q ∷ rows_in (E ++ (0, 0) ∷ []) rows) (edges_in-more E es)
    ∙ ap (λ (q : List (List Edge)). edges_in E es ∷ q) (rows_in-more E rows)
