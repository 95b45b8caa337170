-- A further list, for the free nodes or under a further name.
use Rattle.std.proofs.Common.{◌≡◌, ℕ, zero, suc, ◌+◌, ◌<◌, ◌≤◌, ◌^◌, Bool, true, false, List, [], ◌∷◌, ◌++◌, length, get_or, drop, refl, ap, sym, ◌∙◌, subst, arith, inl, inr}
use Rattle.std.proofs.lemmas.Bool.{cases_eq}
use Rattle.std.proofs.lemmas.List.{length_push}
use Rattle.link_table.specs.Circles.{times, times_in, size, Family, IsTidy}
use Rattle.link_table.specs.Table.{Table, row_lists, IsLinked, IsCrossed, all_entries, entries, entries_in, count_in}
use Rattle.link_table.proofs.Counts.{times_self, times_else, times-append}
use Rattle.link_table.proofs.Kept.{times_in-push_nil, size-push_nil}
use Rattle.link_table.proofs.Shown.{times_in-drop, size-drop, entries_in-all_entries, count_in-all_entries, length-all_entries}
use Rattle.link_table.proofs.Same.{same_valued}
use Rattle.link_table.proofs.Walked.{times-get}
use Rattle.link_table.proofs.Dropped.{row_back}
use Rattle.link_table.proofs.Linked.{alive_row, table, same_table, linked_at, not_given, roomier}

times_in-drop_push : (i : ℕ) (xss : List (List ℕ)) → times_in i (drop 1 (xss ++ [] ∷ [])) ≡ times_in i (drop 1 xss)
times_in-drop_push i [] = refl
times_in-drop_push i (xs ∷ xss) = times_in-push_nil i xss

size-drop_push : (xss : List (List ℕ)) → size (drop 1 (xss ++ [] ∷ [])) ≡ size (drop 1 xss)
size-drop_push [] = refl
size-drop_push (xs ∷ xss) = size-push_nil xss

all_entries-push : (values : List ℕ) (xss : List (List ℕ)) → all_entries values (xss ++ [] ∷ []) ≡ all_entries values xss ++ [] ∷ []
all_entries-push values [] = refl
all_entries-push values (xs ∷ xss) = ap (λ (t : List (List (ℕ × ℕ))). entries values xs ∷ t) (all_entries-push values xss)

module _ (rows columns : Family) (alive : List Bool) (values : List ℕ) (used live : ℕ) (l : IsLinked rows columns alive values used live) where
  -- the next slot becomes the head of a list of rows
  pub row_headed : (alive' : List Bool) → used < rows.slots → used < columns.slots → used < length values → length rows.heads ≤ 2 ^ 24 → length alive' ≡ length (drop 1 (rows.lists ++ [] ∷ [])) → IsLinked (record rows { heads = rows.heads ++ used ∷ []; lists = rows.lists ++ [] ∷ [] }) columns alive' values (used + 1) live
  row_headed alive' ra rb rv few n =
      let ng : (times used rows.heads + times_in used rows.lists ≡ 0) × (times used columns.heads + times_in used columns.lists ≡ 0) = not_given rows columns alive values used live l in
      let c : (i : ℕ) → times i (rows.heads ++ used ∷ []) ≡ times i rows.heads + times i (used ∷ []) = λ i. times-append i rows.heads (used ∷ []) in
      let d : (i : ℕ) → times_in i (rows.lists ++ [] ∷ []) ≡ times_in i rows.lists = λ i. times_in-push_nil i rows.lists in
      let le : length (rows.heads ++ used ∷ []) ≡ length rows.heads + 1 = length_push rows.heads used in
      let se : size (rows.lists ++ [] ∷ []) ≡ size rows.lists = size-push_nil rows.lists in
      record {
        row_slots = omega (arith, ra);
        column_slots = omega (arith, rb);
        value_slots = omega (arith, rv);
        given = λ i p. elim (cases_eq i used) [
          | inl e ↦ omega (arith, e)
          | inr m ↦ let a = c i in let b = d i in let o : times i (used ∷ []) ≡ 0 = times_else i used m in
              let g : i < used = l.given i (omega (arith, p, a, b, o)) in omega (arith, g)
        ];
        apart = λ i. elim (cases_eq i used) [
          | inl e ↦ subst (λ (w : ℕ). times w (rows.heads ++ used ∷ []) + times_in w (rows.lists ++ [] ∷ []) + times w columns.heads ≤ 1) (sym e) (let a = c used in let b = d used in omega (arith, a, b, times_self used, ng.0, ng.1))
          | inr m ↦ let a = c i in let b = d i in let o : times i (used ∷ []) ≡ 0 = times_else i used m in
              let w : times i rows.heads + times_in i rows.lists + times i columns.heads ≤ 1 = l.apart i in omega (arith, a, b, o, w)
        ];
        paired = λ i. l.paired i ∙ sym (times_in-drop_push i rows.lists);
        sizes = (let s : used ≡ length rows.heads + length columns.heads + size rows.lists = l.sizes in omega (arith, s, le, se));
        row_size = size-drop_push rows.lists ∙ l.row_size;
        column_size = l.column_size;
        named = n;
        few_rows = omega (arith, le, few);
        few_columns = l.few_columns;
        few_nodes = (let q : size rows.lists ≤ 2 ^ 24 = l.few_nodes in omega (arith, q, se));
      }

  -- the next slot becomes the head of a column
  pub column_headed : used < rows.slots → used < columns.slots → used < length values → length columns.heads < 2 ^ 24 → IsLinked rows (record columns { heads = columns.heads ++ used ∷ []; lists = columns.lists ++ [] ∷ [] }) alive values (used + 1) live
  column_headed ra rb rv few =
      let ng : (times used rows.heads + times_in used rows.lists ≡ 0) × (times used columns.heads + times_in used columns.lists ≡ 0) = not_given rows columns alive values used live l in
      let c : (i : ℕ) → times i (columns.heads ++ used ∷ []) ≡ times i columns.heads + times i (used ∷ []) = λ i. times-append i columns.heads (used ∷ []) in
      let le : length (columns.heads ++ used ∷ []) ≡ length columns.heads + 1 = length_push columns.heads used in
      record {
        row_slots = omega (arith, ra);
        column_slots = omega (arith, rb);
        value_slots = omega (arith, rv);
        given = λ i p. elim (cases_eq i used) [
          | inl e ↦ omega (arith, e)
          | inr m ↦ let a = c i in let o : times i (used ∷ []) ≡ 0 = times_else i used m in
              let g : i < used = l.given i (omega (arith, p, a, o)) in omega (arith, g)
        ];
        apart = λ i. elim (cases_eq i used) [
          | inl e ↦ subst (λ (w : ℕ). times w rows.heads + times_in w rows.lists + times w (columns.heads ++ used ∷ []) ≤ 1) (sym e) (let a = c used in omega (arith, a, times_self used, ng.0, ng.1))
          | inr m ↦ let a = c i in let o : times i (used ∷ []) ≡ 0 = times_else i used m in
              let w : times i rows.heads + times_in i rows.lists + times i columns.heads ≤ 1 = l.apart i in omega (arith, a, o, w)
        ];
        paired = λ i. times_in-push_nil i columns.lists ∙ l.paired i;
        sizes = (let s : used ≡ length rows.heads + length columns.heads + size rows.lists = l.sizes in omega (arith, s, le));
        row_size = l.row_size;
        column_size = size-push_nil columns.lists ∙ l.column_size;
        named = l.named;
        few_rows = l.few_rows;
        few_columns = omega (arith, le, few);
        few_nodes = l.few_nodes;
      }

length-drop : {A : Type 0} (xss : List A) → length (drop 1 xss) ≤ length xss
length-drop [] = omega arith
length-drop (xs ∷ xss) = omega arith

length-drop_push : (xss : List (List ℕ)) → 0 < length xss → length (drop 1 (xss ++ [] ∷ [])) ≡ length (drop 1 xss) + 1
length-drop_push [] h = absurd (omega (arith, h))
length-drop_push (xs ∷ xss) h = length_push xss []

length-behind : (xss : List (List ℕ)) (n : ℕ) → length xss ≤ n + 1 → length (drop 1 xss) ≤ n
length-behind [] n h = omega arith
length-behind (xs ∷ xss) n h = omega (arith, h)

length-there : (xss : List (List ℕ)) → 0 < length xss → length xss ≡ length (drop 1 xss) + 1
length-there [] h = absurd (omega (arith, h))
length-there (xs ∷ xss) h = omega arith

-- a further row after room was made
pub row_named : (rows columns : Family) (alive : List Bool) (values : List ℕ) (used live : ℕ) (mid rows' columns' : Family) (values' : List ℕ) (alive' : List Bool) → IsLinked rows columns alive values used live → IsTidy mid → 0 < length rows.lists → length alive < 2 ^ 24 → mid ≡ record rows { slots = mid.slots } → columns' ≡ record columns { slots = columns'.slots } → used < mid.slots → used < columns'.slots → used < length values' → rows' ≡ record mid { heads = mid.heads ++ used ∷ []; lists = mid.lists ++ [] ∷ [] } → alive' ≡ alive ++ true ∷ [] → IsLinked rows' columns' alive' values' (used + 1) live
row_named rows columns alive values used live mid rows' columns' values' alive' l td there few e ec ra rb rv f fa =
    let k : IsLinked (record rows { slots = mid.slots }) (record columns { slots = columns'.slots }) alive values' used live = roomier rows columns alive values used live l mid.slots columns'.slots values' (omega (arith, ra)) (omega (arith, rb)) (omega (arith, rv)) in
    let h : length mid.lists ≡ length mid.heads = td.headed in
    let hl : length mid.lists ≡ length rows.lists = ap (λ (m : Family). length m.lists) e in
    let hh : length mid.heads ≡ length rows.heads = ap (λ (m : Family). length m.heads) e in
    let lt : length rows.lists ≡ length (row_lists rows) + 1 = length-there rows.lists there in
    let nm : length alive ≡ length (row_lists rows) = l.named in
    let la : length alive' ≡ length alive + 1 = ap (λ (t : List Bool). length t) fa ∙ length_push alive true in
    let ld : length (drop 1 (rows.lists ++ [] ∷ [])) ≡ length (row_lists rows) + 1 = length-drop_push rows.lists there in
    linked_at (f ∙ ap (λ (m : Family). let g : Family = record m { heads = m.heads ++ used ∷ []; lists = m.lists ++ [] ∷ [] } in g) e) ec
    (row_headed (record rows { slots = mid.slots }) (record columns { slots = columns'.slots }) alive values' used live k alive' ra rb rv (omega (arith, h, hl, hh, lt, nm, few)) (omega (arith, la, ld, nm)))

-- a further column after room was made
pub column_named : (rows columns : Family) (alive : List Bool) (values : List ℕ) (used live : ℕ) (rows' mid columns' : Family) (values' : List ℕ) → IsLinked rows columns alive values used live → IsTidy mid → length columns.lists < 2 ^ 24 → rows' ≡ record rows { slots = rows'.slots } → mid ≡ record columns { slots = mid.slots } → used < rows'.slots → used < mid.slots → used < length values' → columns' ≡ record mid { heads = mid.heads ++ used ∷ []; lists = mid.lists ++ [] ∷ [] } → IsLinked rows' columns' alive values' (used + 1) live
column_named rows columns alive values used live rows' mid columns' values' l td few er e ra rb rv f =
    let k : IsLinked (record rows { slots = rows'.slots }) (record columns { slots = mid.slots }) alive values' used live = roomier rows columns alive values used live l rows'.slots mid.slots values' (omega (arith, ra)) (omega (arith, rb)) (omega (arith, rv)) in
    let h : length mid.lists ≡ length mid.heads = td.headed in
    let hl : length mid.lists ≡ length columns.lists = ap (λ (m : Family). length m.lists) e in
    let hh : length mid.heads ≡ length columns.heads = ap (λ (m : Family). length m.heads) e in
    linked_at er (f ∙ ap (λ (m : Family). let g : Family = record m { heads = m.heads ++ used ∷ []; lists = m.lists ++ [] ∷ [] } in g) e)
    (column_headed (record rows { slots = rows'.slots }) (record columns { slots = mid.slots }) alive values' used live k ra rb rv (omega (arith, h, hl, hh, few)))

-- how many names the table shows
pub rows_shown : (rows columns : Family) (alive : List Bool) (values : List ℕ) (used live : ℕ) (t : Table) → table rows columns alive values ≡ t → IsLinked rows columns alive values used live → length t.rows ≡ length alive
rows_shown rows columns alive values used live t e l = ap (λ (u : Table). length u.rows) (sym e) ∙ length-all_entries values (row_lists rows) ∙ sym l.named

pub columns_shown : (rows columns : Family) (alive : List Bool) (values : List ℕ) (t : Table) → table rows columns alive values ≡ t → length t.columns ≡ length columns.lists
columns_shown rows columns alive values t e = ap (λ (u : Table). length u.columns) (sym e) ∙ length-all_entries values columns.lists

-- the names leave room where they are not at the limit
pub room_for_row : (rows columns : Family) (alive : List Bool) (values : List ℕ) (used live : ℕ) → IsLinked rows columns alive values used live → IsTidy rows → (length alive ≡ 2 ^ 24 → ⊥) → length alive < 2 ^ 24
room_for_row rows columns alive values used live l td hit =
    let h : length rows.lists ≡ length rows.heads = td.headed in
    let f : length rows.heads ≤ 2 ^ 24 + 1 = l.few_rows in
    let b : length (row_lists rows) ≤ 2 ^ 24 = length-behind rows.lists (2 ^ 24) (omega (arith, h, f)) in
    let n : length alive ≡ length (row_lists rows) = l.named in
    omega (arith, b, n, hit)

pub room_for_column : (rows columns : Family) (alive : List Bool) (values : List ℕ) (used live : ℕ) → IsLinked rows columns alive values used live → length columns.lists ≡ length columns.heads → (length columns.lists ≡ 2 ^ 24 → ⊥) → length columns.lists < 2 ^ 24
room_for_column rows columns alive values used live l h hit =
    let f : length columns.heads ≤ 2 ^ 24 = l.few_columns in omega (arith, h, f, hit)

-- what the fields show after a further row, and after a further column
pub row_shows : (rows columns rows' columns' : Family) (alive alive' : List Bool) (values' : List ℕ) (t : Table) → table rows columns alive values' ≡ t → row_lists rows' ≡ row_lists rows ++ [] ∷ [] → columns'.lists ≡ columns.lists → alive' ≡ alive ++ true ∷ [] → table rows' columns' alive' values' ≡ record t { alive = t.alive ++ true ∷ []; rows = t.rows ++ [] ∷ [] }
row_shows rows columns rows' columns' alive alive' values' t e r c a =
    same_table a (ap (all_entries values') r ∙ all_entries-push values' (row_lists rows)) (ap (all_entries values') c)
    ∙ ap (λ (u : Table). let w : Table = record u { alive = u.alive ++ true ∷ []; rows = u.rows ++ [] ∷ [] } in w) e

pub column_shows : (rows columns rows' columns' : Family) (alive : List Bool) (values' : List ℕ) (t : Table) → table rows columns alive values' ≡ t → row_lists rows' ≡ row_lists rows → columns'.lists ≡ columns.lists ++ [] ∷ [] → table rows' columns' alive values' ≡ record t { columns = t.columns ++ [] ∷ [] }
column_shows rows columns rows' columns' alive values' t e r c =
    same_table refl (ap (all_entries values') r) (ap (all_entries values') c ∙ all_entries-push values' columns.lists)
    ∙ ap (λ (u : Table). let w : Table = record u { columns = u.columns ++ [] ∷ [] } in w) e

-- what holds of rows and columns together
pub crossed : (rows columns : Family) (alive : List Bool) (values : List ℕ) (used live : ℕ) (t : Table) → table rows columns alive values ≡ t → IsLinked rows columns alive values used live → IsTidy rows → IsTidy columns → IsCrossed t
crossed rows columns alive values used live t e l tr tc = subst (λ (u : Table). IsCrossed u) e (record {
  once = λ n. (let s : entries_in n (all_entries values (row_lists rows)) ≡ times_in n (row_lists rows) = entries_in-all_entries values n (row_lists rows) in
      let d : times_in n (row_lists rows) ≤ times_in n rows.lists = times_in-drop rows.lists n in
      let a : times n rows.heads + times_in n rows.lists + times n columns.heads ≤ 1 = l.apart n in omega (arith, s, d, a));
  paired = λ n. entries_in-all_entries values n columns.lists ∙ l.paired n ∙ sym (entries_in-all_entries values n (row_lists rows));
  counted = λ v. same_valued values v columns.lists (row_lists rows) l.paired;
  sized = count_in-all_entries values columns.lists ∙ l.column_size ∙ sym l.row_size ∙ sym (count_in-all_entries values (row_lists rows));
  named = l.named ∙ sym (length-all_entries values (row_lists rows));
  few_rows = (let h : length rows.lists ≡ length rows.heads = tr.headed in let f : length rows.heads ≤ 2 ^ 24 + 1 = l.few_rows in
      let b : length (row_lists rows) ≤ 2 ^ 24 = length-behind rows.lists (2 ^ 24) (omega (arith, h, f)) in
      let s : length (all_entries values (row_lists rows)) ≡ length (row_lists rows) = length-all_entries values (row_lists rows) in omega (arith, b, s));
  few_columns = (let h : length columns.lists ≡ length columns.heads = tc.headed in let f : length columns.heads ≤ 2 ^ 24 = l.few_columns in
      let s : length (all_entries values columns.lists) ≡ length columns.lists = length-all_entries values columns.lists in omega (arith, h, f, s));
  few_nodes = (let s : count_in (all_entries values (row_lists rows)) ≡ size (row_lists rows) = count_in-all_entries values (row_lists rows) in
      let d : size (row_lists rows) ≤ size rows.lists = size-drop rows.lists in let f : size rows.lists ≤ 2 ^ 24 = l.few_nodes in omega (arith, s, d, f));
})

get-all_entries : (values : List ℕ) (xss : List (List ℕ)) (k : ℕ) → get_or (all_entries values xss) k [] ≡ entries values (get_or xss k [])
get-all_entries values [] k = refl
get-all_entries values (xs ∷ xss) zero = refl
get-all_entries values (xs ∷ xss) (suc k) = get-all_entries values xss k

-- where the entries of a row, and of a column, are read
pub row_read : (rows columns : Family) (alive : List Bool) (values : List ℕ) (used live : ℕ) (t : Table) (k : ℕ) → table rows columns alive values ≡ t → IsLinked rows columns alive values used live → get_or t.alive k false ≡ true → (k + 1 < length rows.lists) × (entries values (get_or rows.lists (k + 1) []) ≡ get_or t.rows k []) × ((i : ℕ) → 0 < times i (get_or rows.lists (k + 1) []) → i < length values)
row_read rows columns alive values used live t k e l a =
    let r : k < length alive = alive_row alive k (ap (λ (u : Table). get_or u.alive k false) e ∙ a) in
    let n : length alive ≡ length (row_lists rows) = l.named in
    let b : (k + 1 < length rows.lists) × (get_or rows.lists (k + 1) [] ≡ get_or (row_lists rows) k []) = row_back rows.lists k (omega (arith, r, n)) in (
      b.0,
      ap (entries values) b.1 ∙ sym (get-all_entries values (row_lists rows) k) ∙ ap (λ (u : Table). get_or u.rows k []) e,
      (λ i p. (let t : times i (get_or rows.lists (k + 1) []) ≤ times_in i rows.lists = times-get i rows.lists (k + 1) in let g : i < used = l.given i (omega (arith, p, t)) in let v : used ≤ length values = l.value_slots in omega (arith, g, v))),
    )

pub column_read : (rows columns : Family) (alive : List Bool) (values : List ℕ) (used live : ℕ) (t : Table) (k : ℕ) → table rows columns alive values ≡ t → IsLinked rows columns alive values used live → k < length t.columns → (k < length columns.lists) × (entries values (get_or columns.lists k []) ≡ get_or t.columns k []) × ((i : ℕ) → 0 < times i (get_or columns.lists k []) → i < length values)
column_read rows columns alive values used live t k e l a = (
  subst (λ (n : ℕ). k < n) (columns_shown rows columns alive values t e) a,
  sym (get-all_entries values columns.lists k) ∙ ap (λ (u : Table). get_or u.columns k []) e,
  (λ i p. (let t : times i (get_or columns.lists k []) ≤ times_in i columns.lists = times-get i columns.lists k in let q : times_in i columns.lists ≡ times_in i (row_lists rows) = l.paired i in let d : times_in i (row_lists rows) ≤ times_in i rows.lists = times_in-drop rows.lists i in let g : i < used = l.given i (omega (arith, p, t, q, d)) in let v : used ≤ length values = l.value_slots in omega (arith, g, v))),
)
