-- A row that is dropped node by node.
use Rattle.std.proofs.Common.{◌≡◌, ℕ, zero, suc, ◌+◌, ◌<◌, ◌≤◌, Bool, true, eqb, List, [], ◌∷◌, length, get_or, Option, None, Some, refl, ap, sym, ◌∙◌, subst, arith, inl, inr, drop, add-one}
use Rattle.std.proofs.lemmas.Bool.{cases_Bool, eq-eqb}
use Rattle.std.specs.Option.{IfSome}
use Rattle.link_table.specs.Circles.{first_of, Family, times, times_in}
use Rattle.link_table.specs.Table.{others, all_others, entries_of, entries_in, entries, all_entries, all_but, first_node, Table, IsLinked, row_lists}
use Rattle.link_table.proofs.Shown.{length-all_entries, entries_in-all_entries, times_in-drop}
use Rattle.link_table.proofs.Linked.{table}

others_none : (x : ℕ) (es : List (ℕ × ℕ)) → entries_of x es ≡ 0 → others x es ≡ es
others_none x [] h = refl
others_none x (e ∷ es) h = elim (cases_Bool (eqb e.0 x)) [
  | inl t ↦ absurd (let k : 1 + entries_of x es ≡ 0 = rw t at h in omega (arith, k))
  | inr f ↦ rw f (ap (λ (q : List (ℕ × ℕ)). e ∷ q) (others_none x es (let k : 0 + entries_of x es ≡ 0 = rw f at h in omega (arith, k))))
]

get-all_others : (x : ℕ) (t : List (List (ℕ × ℕ))) (k : ℕ) → get_or (all_others x t) k [] ≡ others x (get_or t k [])
get-all_others x [] k = refl
get-all_others x (es ∷ t) zero = refl
get-all_others x (es ∷ t) (suc k) = get-all_others x t k

entries_of-get : (x : ℕ) (t : List (List (ℕ × ℕ))) (k : ℕ) → entries_of x (get_or t k []) ≤ entries_in x t
entries_of-get x [] k = omega arith
entries_of-get x (es ∷ t) zero = omega arith
entries_of-get x (es ∷ t) (suc k) = let r : entries_of x (get_or t k []) ≤ entries_in x t = entries_of-get x t k in omega (arith, r)

tail_of : (x : ℕ) (es : List (ℕ × ℕ)) → first_node es ≡ Some x → entries_of x es ≤ 1 → (u : List (List (ℕ × ℕ))) → (all_but (others x es) (all_others x u) ≡ all_but es u) × (length (others x es) + 1 ≡ length es) × (0 < entries_of x es)
tail_of x [] h o u = absurd (cc)
tail_of x (e ∷ es) h o u =
    let q : e.0 ≡ x = cc in
    let t : eqb e.0 x ≡ true = eq-eqb e.0 x q in
    let n : entries_of x es ≡ 0 = let k : 1 + entries_of x es ≤ 1 = rw t at o in omega (arith, k) in
    let s : others x (e ∷ es) ≡ es = rw t (others_none x es n) in (
      (ap (λ (p : List (ℕ × ℕ)). all_but p (all_others x u)) s ∙ ap (λ (w : ℕ). all_but es (all_others w u)) (sym q)),
      (let l : length (others x (e ∷ es)) ≡ length es = ap (λ (p : List (ℕ × ℕ)). length p) s in omega (arith, l)),
      (rw t (omega arith)),
    )

-- one step: the first node x of row k of t is taken out
pub dropped_one : (t : List (List (ℕ × ℕ))) (k x : ℕ) → first_node (get_or t k []) ≡ Some x → entries_in x t ≡ 1 → (u : List (List (ℕ × ℕ))) → (all_but (get_or (all_others x t) k []) (all_others x u) ≡ all_but (get_or t k []) u) × (length (get_or (all_others x t) k []) + 1 ≡ length (get_or t k []))
dropped_one t k x h o u =
    let b : entries_of x (get_or t k []) ≤ 1 = let r : entries_of x (get_or t k []) ≤ entries_in x t = entries_of-get x t k in omega (arith, r, o) in
    let g : get_or (all_others x t) k [] ≡ others x (get_or t k []) = get-all_others x t k in
    let r : (all_but (others x (get_or t k [])) (all_others x u) ≡ all_but (get_or t k []) u) × (length (others x (get_or t k [])) + 1 ≡ length (get_or t k [])) × (0 < entries_of x (get_or t k [])) = tail_of x (get_or t k []) h b u in
    (ap (λ (p : List (ℕ × ℕ)). all_but p (all_others x u)) g ∙ r.0, (let l : length (get_or (all_others x t) k []) ≡ length (others x (get_or t k [])) = ap (λ (p : List (ℕ × ℕ)). length p) g in omega (arith, l, r.1)))

pub nothing_left : (es : List (ℕ × ℕ)) → first_node es ≡ None → es ≡ []
nothing_left [] h = refl
nothing_left (e ∷ es) h = absurd (cc)

-- the first node, as the fields have it
first_entry : (values xs : List ℕ) → first_node (entries values xs) ≡ first_of xs
first_entry values [] = refl
first_entry values (x ∷ xs) = refl

pub first_shown : (values : List ℕ) (xss : List (List ℕ)) (k : ℕ) → first_node (get_or (all_entries values xss) k []) ≡ first_of (get_or xss k [])
first_shown values [] k = refl
first_shown values (xs ∷ xss) zero = first_entry values xs
first_shown values (xs ∷ xss) (suc k) = first_shown values xss k

pub there_in : (t : List (List (ℕ × ℕ))) (k x : ℕ) → first_node (get_or t k []) ≡ Some x → 0 < entries_in x t
there_in [] k x h = absurd (cc)
there_in ([] ∷ t) zero x h = absurd (cc)
there_in ((e ∷ es) ∷ t) zero x h = let q : e.0 ≡ x = cc in rw (eq-eqb e.0 x q) (omega arith)
there_in (es ∷ t) (suc k) x h = let r : 0 < entries_in x t = there_in t k x h in omega (arith, r)

pub row_back : (xss : List (List ℕ)) (k : ℕ) → k < length (drop 1 xss) → (k + 1 < length xss) × (get_or xss (k + 1) [] ≡ get_or (drop 1 xss) k [])
row_back [] k h = absurd (omega arith)
row_back (xs ∷ xss) k h = (omega (arith, h), ap (λ (n : ℕ). get_or (xs ∷ xss) n []) (add-one k))

pub row_placed : (rows columns : Family) (alive : List Bool) (values : List ℕ) (t : Table) (k : ℕ) → table rows columns alive values ≡ t → k < length t.rows → (k + 1 < length rows.lists) × (first_of (get_or rows.lists (k + 1) []) ≡ first_node (get_or t.rows k []))
row_placed rows columns alive values t k e l =
    let w : k < length (all_entries values (row_lists rows)) = subst (λ (u : Table). k < length u.rows) (sym e) l in
    let r : (k + 1 < length rows.lists) × (get_or rows.lists (k + 1) [] ≡ get_or (row_lists rows) k []) = row_back rows.lists k (subst (λ (n : ℕ). k < n) (length-all_entries values (row_lists rows)) w) in
    (r.0, ap first_of r.1 ∙ sym (first_shown values (row_lists rows) k) ∙ ap (λ (u : Table). first_node (get_or u.rows k [])) e)

pub once_of : (rows columns : Family) (alive : List Bool) (values : List ℕ) (used live : ℕ) (t : Table) (k : ℕ) → table rows columns alive values ≡ t → IsLinked rows columns alive values used live → (o : Option ℕ) → o ≡ first_node (get_or t.rows k []) → IfSome o (λ x. entries_in x t.rows ≡ 1)
once_of rows columns alive values used live t k e l None h = tt
once_of rows columns alive values used live t k e l (Some x) h =
    let s : entries_in x t.rows ≡ times_in x (row_lists rows) = ap (λ (u : Table). entries_in x u.rows) (sym e) ∙ entries_in-all_entries values x (row_lists rows) in
    let d : times_in x (row_lists rows) ≤ times_in x rows.lists = times_in-drop rows.lists x in
    let a : times x rows.heads + times_in x rows.lists + times x columns.heads ≤ 1 = l.apart x in
    let p : 0 < entries_in x t.rows = there_in t.rows k x (sym h) in
    omega (arith, s, d, a, p)

pub length-all_others : (x : ℕ) (t : List (List (ℕ × ℕ))) → length (all_others x t) ≡ length t
length-all_others x [] = refl
length-all_others x (es ∷ t) = ap suc (length-all_others x t)
