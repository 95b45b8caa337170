-- What is kept of rows of edges, as the calls on them leave it.
use Rattle.std.proofs.Common.{◌≡◌, ℕ, zero, suc, ◌+◌, ◌-◌, ◌<◌, ◌≤◌, true, false, cond, List, [], ◌∷◌, ◌++◌, length, get_or, set, take, drop, Option, None, Some, inl, inr, refl, ap, sym, ◌∙◌, subst, arith}
use Rattle.std.specs.Prelude.{vec_capacity, is_some}
use Rattle.std.specs.Iterator.{YieldsFirst}
use Rattle.std.proofs.lemmas.Bool.{cases_Bool, eq-eqb}
use Rattle.std.proofs.lemmas.List.{length-map, get_or-set_same, get_or_default}
use Rattle.std.specs.Ordering.{is_eq}
use Rattle.std.specs.BTreeMap.{BTreeMap, Updates, IsOrdered, IsUnchanged, btree_map_len, keys, is_at}
use Rattle.std.specs.Map.{lookup}
use Rattle.link_table.specs.Circles.{times}
use Rattle.link_table.specs.Table.{Table, all_others, valued, valued_in, count_in, IsCrossed}
use Rattle.link_table.specs.declared.links.LinkError.{LinkError}
use Rattle.link_table.specs.declared.links.LinkError.TheVariants as refusals
use Rattle.trace_file.specs.Edges.{Edge, IsEdges, pairs}
use Rattle.trace_set.specs.declared.rows.EdgeRows.{EdgeRows}
use Rattle.trace_set.specs.Rows.{edge_at, edges_in, rows_in, edge_cmp, column_of, put_edge, behead, uses_in, IsLaid, IsKept, shown_rows}
use Rattle.trace_set.proofs.Tables.{Entry, column_length, length-put, first_out, length-behead, own-others}
use Rattle.trace_set.proofs.Names.{one_key}
use Rattle.trace_set.proofs.Shows.{length-rows_in, pairs-rows_in, get-rows_in, rows_in-append, rows_in-put, rows_in-behead, rows_in-set, rows_in-more}
use Rattle.trace_set.proofs.Laid.{putted, taken, laid_row, laid_column, laid_again, laid_first, laid_back, laid_fewer, laid_gone, out_here, in_columns}
use Rattle.trace_set.proofs.Uses.{few_keys, keys_are, uses_none, uses_some}

-- the links of one set of rows for those of another, with all else
abbrev pub Stays : EdgeRows → Table → List Edge → BTreeMap Edge ℕ → List ℕ → ℕ → Type 0
Stays s u E names spare room = IsLaid u E names spare room × (s.count ≡ length u.rows)

-- ---- the links are never full

memory_of : (error : LinkError) → (error ≡ refusals.Full → ⊥) → error ≡ refusals.Memory
memory_of refusals.Full n = absurd (n refl)
memory_of refusals.Memory n = refl

pub few_nodes : (s : EdgeRows) (error : LinkError) → pairs (shown_rows s) < 16777216 → (error ≡ refusals.Full → count_in s.links.rows ≡ 16777216) → error ≡ refusals.Memory
few_nodes s error l full = memory_of error (λ f. (let q : count_in s.links.rows ≡ 16777216 = full f in let p : pairs (shown_rows s) ≡ count_in s.links.rows = pairs-rows_in s.columns.items s.links.rows in omega (arith, q, p, l)))

pub few_columns : (s : EdgeRows) (error : LinkError) → IsKept s → IsOrdered edge_cmp s.names → length s.spare.items ≤ 0 → pairs (shown_rows s) < 16777216 → (error ≡ refusals.Full → length s.links.columns ≡ 16777216) → error ≡ refusals.Memory
few_columns s error k o z l full = memory_of error (λ f. (
    let q : length s.links.columns ≡ 16777216 = full f in
    let n : length s.columns.items ≡ length s.links.columns = k.0.named in
    let a : btree_map_len s.names + length s.spare.items ≡ length s.columns.items = k.0.sized in
    let b : length (keys s.names) ≡ btree_map_len s.names = length-map s.names.entries (λ e. e.0) in
    let e : length (keys s.names) ≤ pairs (shown_rows s) = few_keys s.links s.columns.items s.names s.spare.items (vec_capacity s.spare) k.0 o in
    omega (arith, q, n, a, b, e, z, l)))

-- ---- a new row

pub kept_row : (s : EdgeRows) (u : Table) → IsKept s → IsCrossed s.links → u ≡ record s.links { alive = s.links.alive ++ true ∷ []; rows = s.links.rows ++ [] ∷ [] } → IsLaid u s.columns.items s.names s.spare.items (vec_capacity s.spare) × (s.count + 1 ≡ length u.rows)
kept_row s u k x q =
    subst (λ (w : Table). IsLaid w s.columns.items s.names s.spare.items (vec_capacity s.spare) × (s.count + 1 ≡ length w.rows)) (sym q)
    (laid_row s.links s.columns.items s.names s.spare.items (vec_capacity s.spare) k.0 x.named, longer s.links.rows s.count k.1)
  where
    longer : (rows : List (List Entry)) (n : ℕ) → n ≡ length rows → n + 1 ≡ length (rows ++ [] ∷ [])
    longer [] n h = ap (λ (m : ℕ). m + 1) h
    longer (es ∷ rows) zero h = absurd (omega (arith, h))
    longer (es ∷ rows) (suc n) h = let r : n + 1 ≡ length (rows ++ [] ∷ []) = longer rows n (omega (arith, h)) in omega (arith, r)

pub shown_row : (s : EdgeRows) (u : Table) → u ≡ record s.links { alive = s.links.alive ++ true ∷ []; rows = s.links.rows ++ [] ∷ [] } → rows_in s.columns.items u.rows ≡ shown_rows s ++ [] ∷ []
shown_row s u q = ap (λ (w : Table). rows_in s.columns.items w.rows) q ∙ rows_in-append s.columns.items s.links.rows

pub row_there : (s : EdgeRows) (r : ℕ) → r < length (shown_rows s) → r < length s.links.rows
row_there s r h = let l : length (shown_rows s) ≡ length s.links.rows = length-rows_in s.columns.items s.links.rows in omega (arith, h, l)

pub row_shown : (s : EdgeRows) (r : ℕ) → IsKept s → r < s.count → r < length (shown_rows s)
row_shown s r k h = let l : length (shown_rows s) ≡ length s.links.rows = length-rows_in s.columns.items s.links.rows in let n : s.count ≡ length s.links.rows = k.1 in omega (arith, h, l, n)

pub next_row : (s : EdgeRows) (r : ℕ) → IsKept s → s.count ≤ r → r ≤ length (shown_rows s) → length (shown_rows s) ≡ r
next_row s r k h m = let l : length (shown_rows s) ≡ length s.links.rows = length-rows_in s.columns.items s.links.rows in let n : s.count ≡ length s.links.rows = k.1 in omega (arith, h, l, n, m)

pub longer_rows : (rows : List (List Edge)) (r : ℕ) → length rows ≡ r → r < length (rows ++ [] ∷ [])
longer_rows [] r h = omega (arith, h)
longer_rows (es ∷ rows) zero h = omega arith
longer_rows (es ∷ rows) (suc r) h = let a : r < length (rows ++ [] ∷ []) = longer_rows rows r (omega (arith, h)) in omega (arith, a)

-- ---- a new column

pub kept_room : (s : EdgeRows) (E : List Edge) (spare : List ℕ) (room : ℕ) → IsKept s → E ≡ s.columns.items → spare ≡ s.spare.items → vec_capacity s.spare ≤ room → Stays s s.links E s.names spare room
kept_room s E spare room k e q l =
    let w : IsLaid s.links s.columns.items s.names s.spare.items room = record {
      own = k.0.own;
      alive = k.0.alive;
      named = k.0.named;
      keyed = k.0.keyed;
      found = k.0.found;
      empty = k.0.empty;
      once = k.0.once;
      sized = k.0.sized;
      fits = (let f : length s.columns.items ≤ vec_capacity s.spare = k.0.fits in omega (arith, f, l));
    } in
    (subst (λ (d : List Edge). IsLaid s.links d s.names spare room) (sym e) (subst (λ (d : List ℕ). IsLaid s.links s.columns.items s.names d room) (sym q) w), k.1)

none_left : (spare : List ℕ) → length spare ≤ 0 → spare ≡ []
none_left [] h = refl
none_left (c ∷ spare) h = absurd (omega (arith, h))

pub kept_column : (s : EdgeRows) (u : Table) (E : List Edge) (spare : List ℕ) (room c : ℕ) → IsKept s → IsCrossed s.links → length s.spare.items ≤ 0 → u ≡ record s.links { columns = s.links.columns ++ [] ∷ [] } → E ≡ s.columns.items ++ (0, 0) ∷ [] → c ≡ length s.links.columns → spare ≡ s.spare.items ++ c ∷ [] → length s.columns.items + 1 ≤ room → Stays s u E s.names spare room
kept_column s u E spare room c k x z q e w p l =
    let n : length s.columns.items ≡ length s.links.columns = k.0.named in
    let a : IsLaid (record s.links { columns = s.links.columns ++ [] ∷ [] }) (s.columns.items ++ (0, 0) ∷ []) s.names (s.spare.items ++ c ∷ []) room =
    laid_column s.links s.columns.items s.names s.spare.items (vec_capacity s.spare) k.0 c room x (none_left s.spare.items z) (w ∙ sym n) l in
    let b : IsLaid (record s.links { columns = s.links.columns ++ [] ∷ [] }) E s.names spare room =
    subst (λ (d : List Edge). IsLaid (record s.links { columns = s.links.columns ++ [] ∷ [] }) d s.names spare room) (sym e)
    (subst (λ (d : List ℕ). IsLaid (record s.links { columns = s.links.columns ++ [] ∷ [] }) (s.columns.items ++ (0, 0) ∷ []) s.names d room) (sym p) a) in
    subst (λ (d : Table). Stays s d E s.names spare room) (sym q) (b, k.1)

pub shown_column : (s : EdgeRows) (u : Table) (E : List Edge) → u ≡ record s.links { columns = s.links.columns ++ [] ∷ [] } → E ≡ s.columns.items ++ (0, 0) ∷ [] → rows_in E u.rows ≡ shown_rows s
shown_column s u E q e = ap (λ (d : Table). rows_in E d.rows) q ∙ ap (λ (d : List Edge). rows_in d s.links.rows) e ∙ rows_in-more s.columns.items s.links.rows

take_back : (E : List Edge) (e : Edge) → take (length E) (E ++ e ∷ []) ≡ E
take_back [] e = refl
take_back (x ∷ E) e = ap (λ (d : List Edge). x ∷ d) (take_back E e)

length_more : (E : List Edge) (e : Edge) → length (E ++ e ∷ []) ≡ length E + 1
length_more [] e = refl
length_more (x ∷ E) e = let r : length (E ++ e ∷ []) ≡ length E + 1 = length_more E e in omega (arith, r)

pub popped : (E more rest : List Edge) (e : Edge) (n : ℕ) → more ≡ E ++ e ∷ [] → n ≡ length more → rest ≡ take (n - 1) more → rest ≡ E
popped E more rest e n m l r =
    let q : n - 1 ≡ length E = (let a : length more ≡ length E + 1 = ap length m ∙ length_more E e in omega (arith, l, a)) in
    r ∙ ap (λ (k : ℕ). take k more) q ∙ ap (take (length E)) m ∙ take_back E e

-- ---- an edge put in again

pub column_there : (s : EdgeRows) (e : Edge) (c : ℕ) → IsKept s → IsCrossed s.links → column_of s.names e ≡ Some c → c < length s.links.columns
column_there s e c k x h = in_columns s.links s.columns.items s.names s.spare.items (vec_capacity s.spare) k.0 c x (k.0.found e c h).1

pub kept_again : (s : EdgeRows) (u : Table) (r c n : ℕ) → IsKept s → r < length s.links.rows → column_of s.names (edge_at s.columns.items c) ≡ Some c → u ≡ putted s.links r c n → Stays s u s.columns.items s.names s.spare.items (vec_capacity s.spare)
kept_again s u r c n k l h q =
    subst (λ (d : Table). Stays s d s.columns.items s.names s.spare.items (vec_capacity s.spare)) (sym q)
    (laid_again s.links s.columns.items s.names s.spare.items (vec_capacity s.spare) k.0 r c n l h, k.1 ∙ sym (length-put s.links.rows r (n, c)))

pub shown_put : (E : List Edge) (t u : Table) (r c n : ℕ) → u ≡ putted t r c n → rows_in E u.rows ≡ put_edge (rows_in E t.rows) r (edge_at E c)
shown_put E t u r c n q = ap (λ (d : Table). rows_in E d.rows) q ∙ rows_in-put E t.rows r n c

-- ---- an edge put in first

last_there : (xs : List ℕ) (i c : ℕ) → i < length xs → c ≡ get_or xs i c → 0 < times c xs
last_there [] i c l h = absurd (omega (arith, l))
last_there (x ∷ xs) zero c l h = rw (eq-eqb x c (sym h)) (omega arith)
last_there (x ∷ xs) (suc i) c l h = let r : 0 < times c xs = last_there xs i c (omega (arith, l)) h in omega (arith, r)

pub spare_free : (s : EdgeRows) (c n : ℕ) → IsKept s → n ≡ length s.spare.items → 0 < length s.spare.items → c ≡ get_or s.spare.items (n - 1) c → (c < length s.columns.items) × (valued_in c s.links.rows ≡ 0)
spare_free s c n k h p q = k.0.empty c (last_there s.spare.items (n - 1) c (omega (arith, h, p)) q)

pub spare_column : (s : EdgeRows) (c : ℕ) → IsKept s → c < length s.columns.items → c < length s.links.columns
spare_column s c k h = let n : length s.columns.items ≡ length s.links.columns = k.0.named in omega (arith, h, n)

pub kept_first : (s : EdgeRows) (u : Table) (r c n : ℕ) (e : Edge) (names : BTreeMap Edge ℕ) (spare : List ℕ) (room : ℕ) → IsKept s → r < length s.links.rows → column_of s.names e ≡ None → s.spare.items ≡ spare ++ c ∷ [] → Updates edge_cmp s.names names e (Some c) → btree_map_len names ≡ btree_map_len s.names + 1 → room ≡ vec_capacity s.spare → u ≡ putted s.links r c n → Stays s u (set s.columns.items c e) names spare room
kept_first s u r c n e names spare room k l absent split up more same q =
    let a : IsLaid (putted s.links r c n) (set s.columns.items c e) names spare (vec_capacity s.spare) =
    laid_first s.links s.columns.items s.names s.spare.items (vec_capacity s.spare) k.0 r c n l e names spare absent split up more in
    subst (λ (d : Table). Stays s d (set s.columns.items c e) names spare room) (sym q)
    (subst (λ (d : ℕ). IsLaid (putted s.links r c n) (set s.columns.items c e) names spare d) (sym same) a, k.1 ∙ sym (length-put s.links.rows r (n, c)))

pub shown_first : (s : EdgeRows) (u : Table) (r c n : ℕ) (e : Edge) → (c < length s.columns.items) × (valued_in c s.links.rows ≡ 0) → u ≡ putted s.links r c n → rows_in (set s.columns.items c e) u.rows ≡ put_edge (shown_rows s) r e
shown_first s u r c n e free q =
    shown_put (set s.columns.items c e) s.links u r c n q
    ∙ ap (λ (d : List (List Edge)). put_edge d r (edge_at (set s.columns.items c e) c)) (rows_in-set s.columns.items c e s.links.rows free.1)
    ∙ ap (put_edge (shown_rows s) r) (get_or-set_same s.columns.items c e (0, 0) free.0)

pub kept_back : (s : EdgeRows) (u : Table) (c : ℕ) (e : Edge) (names : BTreeMap Edge ℕ) → IsKept s → valued_in c s.links.rows ≡ 0 → ((q : Edge) → column_of names q ≡ column_of s.names q) → btree_map_len names ≡ btree_map_len s.names → u ≡ s.links → Stays s u (set s.columns.items c e) names s.spare.items (vec_capacity s.spare)
kept_back s u c e names k free back len q =
    subst (λ (d : Table). Stays s d (set s.columns.items c e) names s.spare.items (vec_capacity s.spare)) (sym q)
    (laid_back s.links s.columns.items s.names s.spare.items (vec_capacity s.spare) k.0 c e names free back len, k.1)

pub shown_back : (s : EdgeRows) (u : Table) (c : ℕ) (e : Edge) → valued_in c s.links.rows ≡ 0 → u ≡ s.links → rows_in (set s.columns.items c e) u.rows ≡ shown_rows s
shown_back s u c e free q = ap (λ (d : Table). rows_in (set s.columns.items c e) d.rows) q ∙ rows_in-set s.columns.items c e s.links.rows free

pub same_names : (m n : BTreeMap Edge ℕ) → IsUnchanged m n → (q : Edge) → column_of n q ≡ column_of m q
same_names m n h q = ap (lookup (is_at (edge_cmp q))) h

pub back_names : (l m n : BTreeMap Edge ℕ) (e : Edge) (c : ℕ) → column_of l e ≡ None → Updates edge_cmp l m e (Some c) → Updates edge_cmp m n e None → (q : Edge) → column_of n q ≡ column_of l q
back_names l m n e c absent up down q = elim (cases_Bool (is_eq (edge_cmp e q))) [
  | inl t ↦ ap (column_of n) (sym (one_key e q t)) ∙ down.1 ∙ sym absent ∙ ap (column_of l) (one_key e q t)
  | inr f ↦ down.2 q f ∙ up.2 q f
]

pub one_added : (m n : BTreeMap Edge ℕ) (e : Edge) (old : Option ℕ) → column_of m e ≡ None → old ≡ column_of m e → btree_map_len n ≡ btree_map_len m + cond (is_some old) 0 1 → btree_map_len n ≡ btree_map_len m + 1
one_added m n e old absent is h = h ∙ ap (λ (o : Option ℕ). btree_map_len m + cond (is_some o) 0 1) (is ∙ absent)

pub one_less : (m n : BTreeMap Edge ℕ) (e : Edge) (old : Option ℕ) (c : ℕ) → column_of m e ≡ Some c → old ≡ column_of m e → btree_map_len n + cond (is_some old) 1 0 ≡ btree_map_len m → btree_map_len n + 1 ≡ btree_map_len m
one_less m n e old c there is h = ap (λ (o : Option ℕ). btree_map_len n + cond (is_some o) 1 0) (sym (is ∙ there)) ∙ h

-- ---- the first edge of a row taken out

pub first_has : (s : EdgeRows) (r n c : ℕ) (es : List Entry) → IsKept s → get_or s.links.rows r [] ≡ (n, c) ∷ es → 0 < valued_in c s.links.rows
first_has s r n c es k first = let o : valued_in c (behead s.links.rows r) + 1 ≡ valued_in c s.links.rows = out_here s.links s.columns.items s.names s.spare.items (vec_capacity s.spare) k.0 r n c es first in omega (arith, o)

-- the table without a node
abbrev pub unlinked : Table → ℕ → Table
unlinked t n = record t { rows = all_others n t.rows; columns = all_others n t.columns }

taken_is : (s : EdgeRows) (u : Table) (r n c : ℕ) (es : List Entry) → IsCrossed s.links → get_or s.links.rows r [] ≡ (n, c) ∷ es → u ≡ unlinked s.links n → u ≡ taken s.links r n
taken_is s u r n c es x first q = q ∙ ap (λ (d : List (List Entry)). record s.links { rows = d; columns = all_others n s.links.columns }) (first_out s.links.rows r n c es first (x.once n))

pub kept_fewer : (s : EdgeRows) (u : Table) (r n c : ℕ) (es : List Entry) → IsKept s → IsCrossed s.links → IsCrossed u → get_or s.links.rows r [] ≡ (n, c) ∷ es → u ≡ unlinked s.links n → 0 < length (get_or u.columns c []) → Stays s u s.columns.items s.names s.spare.items (vec_capacity s.spare)
kept_fewer s u r n c es k x y first q left =
    let w : u ≡ taken s.links r n = taken_is s u r n c es x first q in
    let o : (d v : ℕ) → 0 < valued v (get_or u.columns d []) → v ≡ d = subst (λ (d : Table). (a v : ℕ) → 0 < valued v (get_or d.columns a []) → v ≡ a) (sym q) (own-others n s.links.columns k.0.own) in
    let l : length (get_or u.columns c []) ≡ valued_in c u.rows = column_length u c o y in
    let z : valued_in c u.rows ≡ valued_in c (behead s.links.rows r) = ap (λ (d : Table). valued_in c d.rows) w in
    subst (λ (d : Table). Stays s d s.columns.items s.names s.spare.items (vec_capacity s.spare)) (sym w)
    (laid_fewer s.links s.columns.items s.names s.spare.items (vec_capacity s.spare) k.0 r n c es first (omega (arith, l, z, left)), k.1 ∙ sym (length-behead s.links.rows r))

pub kept_gone : (s : EdgeRows) (u : Table) (r n c : ℕ) (es : List Entry) (names : BTreeMap Edge ℕ) (spare : List ℕ) (room : ℕ) → IsKept s → IsCrossed s.links → IsCrossed u → get_or s.links.rows r [] ≡ (n, c) ∷ es → u ≡ unlinked s.links n → get_or u.columns c [] ≡ [] → Updates edge_cmp s.names names (edge_at s.columns.items c) None → btree_map_len names + 1 ≡ btree_map_len s.names → spare ≡ s.spare.items ++ c ∷ [] → room ≡ vec_capacity s.spare → Stays s u s.columns.items names spare room
kept_gone s u r n c es names spare room k x y first q left up fewer p same =
    let w : u ≡ taken s.links r n = taken_is s u r n c es x first q in
    let o : (d v : ℕ) → 0 < valued v (get_or u.columns d []) → v ≡ d = subst (λ (d : Table). (a v : ℕ) → 0 < valued v (get_or d.columns a []) → v ≡ a) (sym q) (own-others n s.links.columns k.0.own) in
    let l : length (get_or u.columns c []) ≡ valued_in c u.rows = column_length u c o y in
    let z : valued_in c u.rows ≡ valued_in c (behead s.links.rows r) = ap (λ (d : Table). valued_in c d.rows) w in
    let a : IsLaid (taken s.links r n) s.columns.items names (s.spare.items ++ c ∷ []) (vec_capacity s.spare) =
    laid_gone s.links s.columns.items s.names s.spare.items (vec_capacity s.spare) k.0 r n c es first names x (sym z ∙ sym l ∙ ap length left) up fewer in
    let b : IsLaid (taken s.links r n) s.columns.items names spare room =
    subst (λ (d : ℕ). IsLaid (taken s.links r n) s.columns.items names spare d) (sym same) (subst (λ (d : List ℕ). IsLaid (taken s.links r n) s.columns.items names d (vec_capacity s.spare)) (sym p) a) in
    subst (λ (d : Table). Stays s d s.columns.items names spare room) (sym w) (b, k.1 ∙ sym (length-behead s.links.rows r))

pub shown_out : (s : EdgeRows) (u : Table) (r n c : ℕ) (es : List Entry) → IsCrossed s.links → get_or s.links.rows r [] ≡ (n, c) ∷ es → u ≡ unlinked s.links n → rows_in s.columns.items u.rows ≡ behead (shown_rows s) r
shown_out s u r n c es x first q = ap (λ (d : Table). rows_in s.columns.items d.rows) (taken_is s u r n c es x first q) ∙ rows_in-behead s.columns.items s.links.rows r

pub shown_some : (s : EdgeRows) (r n c : ℕ) (es : List Entry) → get_or s.links.rows r [] ≡ (n, c) ∷ es → 0 < length (get_or (shown_rows s) r [])
shown_some s r n c es first =
    let a : get_or (shown_rows s) r [] ≡ _ = get-rows_in s.columns.items s.links.rows r ∙ ap (edges_in s.columns.items) first in
    let l : length (get_or (shown_rows s) r []) ≡ suc (length (edges_in s.columns.items es)) = ap length a in
    omega (arith, l)

pub shown_none : (s : EdgeRows) (r : ℕ) → get_or s.links.rows r [] ≡ [] → get_or (shown_rows s) r [] ≡ []
shown_none s r first = get-rows_in s.columns.items s.links.rows r ∙ ap (edges_in s.columns.items) first

pub behead_none : (rows : List (List Edge)) (r : ℕ) → get_or rows r [] ≡ [] → rows ≡ behead rows r
behead_none [] r h = refl
behead_none (es ∷ rows) zero h = ap (λ (d : List Edge). d ∷ rows) (h ∙ sym (ap (λ (d : List Edge). drop 1 d) h))
behead_none (es ∷ rows) (suc r) h = ap (λ (d : List (List Edge)). es ∷ d) (behead_none rows r h)

-- ---- what a walk gives first

pub has_first : (s t : List Entry) (o : Option Entry) → YieldsFirst (λ w. w) s o t → is_some o ≡ true → 0 < length s
has_first s t None h e = absurd (cc)
has_first s t (Some x) h e = let l : length s ≡ suc (length t) = ap length h in omega (arith, l)

pub has_none : (s t : List Entry) (o : Option Entry) → YieldsFirst (λ w. w) s o t → is_some o ≡ false → s ≡ []
has_none s t None h e = h.0
has_none s t (Some x) h e = absurd (cc)

-- ---- how often an edge is there

pub count_some : (s : EdgeRows) (e : Edge) (c : ℕ) → IsKept s → IsCrossed s.links → column_of s.names e ≡ Some c → length (get_or s.links.columns c []) ≡ uses_in e (shown_rows s)
count_some s e c k x h =
    column_length s.links c k.0.own x
    ∙ sym (uses_some s.links s.columns.items s.names s.spare.items (vec_capacity s.spare) k.0 e c h)

pub count_none : (s : EdgeRows) (e : Edge) → IsKept s → column_of s.names e ≡ None → 0 ≡ uses_in e (shown_rows s)
count_none s e k h = sym (uses_none s.links s.columns.items s.names s.spare.items (vec_capacity s.spare) k.0 e h)

column_size : (cols : List (List Entry)) (c : ℕ) → length (get_or cols c []) ≤ count_in cols
column_size [] c = omega arith
column_size (es ∷ cols) zero = omega arith
column_size (es ∷ cols) (suc c) = let r : length (get_or cols c []) ≤ count_in cols = column_size cols c in omega (arith, r)

pub column_small : (t : Table) (c : ℕ) → IsCrossed t → length (get_or t.columns c []) ≤ 16777216
column_small t c x =
    let a : length (get_or t.columns c []) ≤ count_in t.columns = column_size t.columns c in
    let b : count_in t.columns ≡ count_in t.rows = x.sized in
    let d : count_in t.rows ≤ 16777216 = x.few_nodes in
    omega (arith, a, b, d)

pub value_small : (s : EdgeRows) (r n c : ℕ) (es : List Entry) → IsKept s → IsCrossed s.links → get_or s.links.rows r [] ≡ (n, c) ∷ es → c < length s.links.columns
value_small s r n c es k x first = in_columns s.links s.columns.items s.names s.spare.items (vec_capacity s.spare) k.0 c x (first_has s r n c es k first)

pub value_in : (s : EdgeRows) (c : ℕ) → IsKept s → c < length s.links.columns → c < length s.columns.items
value_in s c k h = let n : length s.columns.items ≡ length s.links.columns = k.0.named in omega (arith, h, n)

-- an edge that was read from its column
pub edge_is : (s : EdgeRows) (c : ℕ) (e : Edge) → c < length s.columns.items → e ≡ get_or s.columns.items c e → e ≡ edge_at s.columns.items c
edge_is s c e l h = h ∙ get_or_default s.columns.items c e (0, 0) l

pub edges_are : (s : EdgeRows) → IsKept s → IsCrossed s.links → IsOrdered edge_cmp s.names → IsEdges (keys s.names)
edges_are s k x o = record {
  order = (keys_are s.links s.columns.items s.names s.spare.items (vec_capacity s.spare) k.0 o).order;
  count = (
      let e : length (keys s.names) ≤ pairs (shown_rows s) = few_keys s.links s.columns.items s.names s.spare.items (vec_capacity s.spare) k.0 o in
      let p : pairs (shown_rows s) ≡ count_in s.links.rows = pairs-rows_in s.columns.items s.links.rows in
      let d : count_in s.links.rows ≤ 16777216 = x.few_nodes in
      omega (arith, e, p, d));
}
