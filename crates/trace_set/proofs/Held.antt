-- What rows and flags show as traces.
use Rattle.std.proofs.Common.{◌≡◌, ℕ, zero, suc, ◌+◌, ◌-◌, ◌<◌, ◌≤◌, ◌⊎◌, Bool, true, false, cond, List, [], ◌∷◌, ◌++◌, length, get_or, set, drop, take, Some, None, inl, inr, refl, ap, sym, ◌∙◌, subst, arith}
use Rattle.std.specs.Prelude.{Contains, All, Result, Ok, Err, IfOk, OnOk, OnErr, is_err}
use Rattle.std.proofs.lemmas.Bool.{cases_Bool, eq-eqb, ne_eqb, le-leb, lt-leb, lt-ltb, le-ltb}
use Rattle.std.proofs.lemmas.List.{set-set, length-set, take_more}
use Rattle.std.proofs.lemmas.List.Sums.{sum_by-cons, sum_by-set, sum_by-append}
use Rattle.trace_file.specs.Edges.{Edge, IsEdges, same, before, ascends, ascends_after, has, pairs, union_of, IsInOrder, IsSetOf, IsInSome}
use Rattle.std.proofs.lemmas.List.Elements.{All-nil, All-cons}
use Rattle.trace_file.proofs.Sorted.{and_inv, not_before_itself, ascends_earlier, ascends_later}
use Rattle.trace_file.proofs.Union.{here, there, first_or_later}
use Rattle.trace_file.proofs.Unique.{none, unique}
use Rattle.trace_file.proofs.Sets.{sets_hold}
use Rattle.trace_set.specs.declared.error.SetError.TheVariants as refusals
use Rattle.trace_set.specs.Rows.{uses_of, uses_in, put_edge, behead}
use Rattle.trace_set.specs.Traces.{Traces, sets_of, count_of, is_live, edges_of, without_number, with_trace, refusal, live_from, traces_in, flag_of, IsHeld}
use Rattle.trace_set.proofs.Uses.{same_is, same_from}

abbrev pub Rows : Type 0
Rows = List (List Edge)

-- ---- rows that are changed

pub put-set : (rows : Rows) (r : ℕ) (es : List Edge) (e : Edge) → r < length rows → put_edge (set rows r es) r e ≡ set rows r (es ++ e ∷ [])
put-set [] r es e l = absurd (omega (arith, l))
put-set (xs ∷ rows) zero es e l = refl
put-set (xs ∷ rows) (suc r) es e l = ap (λ (q : Rows). xs ∷ q) (put-set rows r es e (omega (arith, l)))

pub set_same : (rows : Rows) (r : ℕ) (es : List Edge) → get_or rows r [] ≡ es → r < length rows → set rows r es ≡ rows
set_same [] r es h l = absurd (omega (arith, l))
set_same (xs ∷ rows) zero es h l = ap (λ (q : List Edge). q ∷ rows) (sym h)
set_same (xs ∷ rows) (suc r) es h l = ap (λ (q : Rows). xs ∷ q) (set_same rows r es h (omega (arith, l)))

pub set-behead : (rows : Rows) (r : ℕ) → set (behead rows r) r [] ≡ set rows r []
set-behead [] r = refl
set-behead (xs ∷ rows) zero = refl
set-behead (xs ∷ rows) (suc r) = ap (λ (q : Rows). xs ∷ q) (set-behead rows r)

get-behead : (rows : Rows) (r : ℕ) → get_or (behead rows r) r [] ≡ drop 1 (get_or rows r [])
get-behead [] r = refl
get-behead (xs ∷ rows) zero = refl
get-behead (xs ∷ rows) (suc r) = get-behead rows r

rest_length : (es : List Edge) → 0 < length es → length (drop 1 es) + 1 ≡ length es
rest_length [] h = absurd (omega (arith, h))
rest_length (e ∷ es) h = omega arith

pub shorter : (rows : Rows) (r : ℕ) → 0 < length (get_or rows r []) → length (get_or (behead rows r) r []) + 1 ≡ length (get_or rows r [])
shorter rows r h = ap (λ (q : List Edge). length q + 1) (get-behead rows r) ∙ rest_length (get_or rows r []) h

pub pairs-set : (rows : Rows) (r : ℕ) (es : List Edge) → r < length rows → pairs (set rows r es) + length (get_or rows r []) ≡ pairs rows + length es
pairs-set rows r es l = sum_by-set length rows r es [] l

pub row_fits : (rows : Rows) (r : ℕ) → length (get_or rows r []) ≤ pairs rows
row_fits [] r = omega arith
row_fits (es ∷ rows) zero = let a : pairs (es ∷ rows) ≡ length es + pairs rows = sum_by-cons length es rows in omega (arith, a)
row_fits (es ∷ rows) (suc r) =
    let a : pairs (es ∷ rows) ≡ length es + pairs rows = sum_by-cons length es rows in
    let b : length (get_or rows r []) ≤ pairs rows = row_fits rows r in
    omega (arith, a, b)

-- ---- a row that is filled

pub fill_start : (rows : Rows) (r : ℕ) (es : List Edge) → get_or rows r [] ≡ [] → r < length rows → rows ≡ set rows r (take 0 es)
fill_start rows r es h l = sym (set_same rows r [] h l)

pub fill_more : (rows now more : Rows) (r i : ℕ) (es : List Edge) (e d : Edge) → r < length rows → i < length es → now ≡ set rows r (take i es) → e ≡ get_or es i d → more ≡ put_edge now r e → more ≡ set rows r (take (i + 1) es)
fill_more rows now more r i es e d l m h q p =
    p ∙ ap (λ (x : Rows). put_edge x r e) h ∙ put-set rows r (take i es) e l
    ∙ ap (λ (x : Edge). set rows r (take i es ++ x ∷ [])) q
    ∙ ap (set rows r) (sym (take_more es i d m))

pub fill_room : (rows now : Rows) (r i : ℕ) (es : List Edge) → r < length rows → get_or rows r [] ≡ [] → i < length es → pairs rows + length es ≤ 16777216 → now ≡ set rows r (take i es) → pairs now < 16777216
fill_room rows now r i es l z m room h =
    let a : pairs (set rows r (take i es)) + length (get_or rows r []) ≡ pairs rows + length (take i es) = pairs-set rows r (take i es) l in
    let b : length (get_or rows r []) ≡ 0 = ap length z in
    let t : length (take i es) ≤ i = take_length i es in
    let q : pairs now ≡ pairs (set rows r (take i es)) = ap (λ (x : Rows). pairs x) h in
    omega (arith, a, b, t, q, m, room)
  where
    take_length : (i : ℕ) (es : List Edge) → length (take i es) ≤ i
    take_length zero es = omega arith
    take_length (suc i) [] = omega arith
    take_length (suc i) (e ∷ es) = let r : length (take i es) ≤ i = take_length i es in omega (arith, r)

pub fill_row : (rows now : Rows) (r : ℕ) (xs : List Edge) → r < length rows → now ≡ set rows r xs → r < length now
fill_row rows now r xs l h = let a : length now ≡ length rows = ap length h ∙ length-set rows r xs in omega (arith, a, l)

pub fill_undone : (rows now back : Rows) (r : ℕ) (xs : List Edge) → r < length rows → get_or rows r [] ≡ [] → now ≡ set rows r xs → back ≡ set now r [] → back ≡ rows
fill_undone rows now back r xs l z h b = b ∙ ap (λ (x : Rows). set x r []) h ∙ set-set rows r xs [] ∙ set_same rows r [] z l

-- ---- the empty row behind the last

get-new : (rows : Rows) (i : ℕ) → get_or (rows ++ [] ∷ []) i [] ≡ get_or rows i []
get-new [] zero = refl
get-new [] (suc i) = refl
get-new (es ∷ rows) zero = refl
get-new (es ∷ rows) (suc i) = get-new rows i

live-new : (i : ℕ) (flags : List Bool) (rows : Rows) → length flags ≤ length rows → live_from i flags (rows ++ [] ∷ []) ≡ live_from i flags rows
live-new i [] rows l = refl
live-new i (b ∷ flags) [] l = absurd (omega (arith, l))
live-new i (true ∷ flags) (es ∷ rows) l = ap (λ (q : List (ℕ × List Edge)). (i + 1, es) ∷ q) (live-new (i + 1) flags rows (omega (arith, l)))
live-new i (false ∷ flags) (es ∷ rows) l = live-new (i + 1) flags rows (omega (arith, l))

pub length-new : (rows : Rows) → length (rows ++ [] ∷ []) ≡ length rows + 1
length-new [] = refl
length-new (es ∷ rows) = let r : length (rows ++ [] ∷ []) ≡ length rows + 1 = length-new rows in omega (arith, r)

pub same_traces : {t t' : List (ℕ × List Edge)} {n n' : ℕ} → t ≡ t' → n ≡ n' → ◌≡◌ {A = Traces} (record { traces = t; next = n }) (record { traces = t'; next = n' })
same_traces p q = λ i. record { traces = p i; next = q i }

pub held_new : (flags : List Bool) (rows : Rows) (live count : ℕ) → IsHeld flags rows live count → length rows ≡ length flags → IsHeld flags (rows ++ [] ∷ []) live count
held_new flags rows live count h l = record {
  enough = (let n : length (rows ++ [] ∷ []) ≡ length rows + 1 = length-new rows in let e : length flags ≤ length rows = h.enough in omega (arith, n, e));
  few_rows = (let n : length (rows ++ [] ∷ []) ≡ length rows + 1 = length-new rows in omega (arith, n, l));
  spent = h.spent;
  empty = λ i f. get-new rows i ∙ h.empty i f;
  ordered = λ i. subst IsEdges (sym (get-new rows i)) (h.ordered i);
  counted = (let a : pairs (rows ++ [] ∷ []) ≡ pairs rows + 0 = sum_by-append length rows ([] ∷ []) in let c : pairs rows ≡ count = h.counted in omega (arith, a, c));
  small = h.small;
  living = ap length (live-new 0 flags rows h.enough) ∙ h.living;
  few = h.few;
}

pub view_new : (flags : List Bool) (rows : Rows) → length flags ≤ length rows → traces_in flags (rows ++ [] ∷ []) ≡ traces_in flags rows
view_new flags rows l = same_traces (live-new 0 flags rows l) refl

-- ---- one more trace

pub beyond : (flags : List Bool) → get_or flags (length flags) false ≡ false
beyond [] = refl
beyond (b ∷ flags) = beyond flags

live-push : (i : ℕ) (flags : List Bool) (rows : Rows) (es : List Edge) → length rows ≡ length flags + 1 → live_from i (flags ++ true ∷ []) (set rows (length flags) es) ≡ live_from i flags rows ++ (i + length flags + 1, es) ∷ []
live-push i [] [] es l = absurd (omega (arith, l))
live-push i [] (xs ∷ rows) es l = ap (λ (n : ℕ). (n, es) ∷ live_from (i + 1) [] rows) (omega arith)
live-push i (b ∷ flags) [] es l = absurd (omega (arith, l))
live-push i (true ∷ flags) (xs ∷ rows) es l =
    ap (λ (q : List (ℕ × List Edge)). (i + 1, xs) ∷ q)
    (live-push (i + 1) flags rows es (omega (arith, l)) ∙ ap (λ (n : ℕ). live_from (i + 1) flags rows ++ (n, es) ∷ []) (omega arith))
live-push i (false ∷ flags) (xs ∷ rows) es l = live-push (i + 1) flags rows es (omega (arith, l)) ∙ ap (λ (n : ℕ). live_from (i + 1) flags rows ++ (n, es) ∷ []) (omega arith)

pub view_push : (flags : List Bool) (rows : Rows) (es : List Edge) → length rows ≡ length flags + 1 → traces_in (flags ++ true ∷ []) (set rows (length flags) es) ≡ with_trace (traces_in flags rows) es
view_push flags rows es l = same_traces (live-push 0 flags rows es l ∙ ap (λ (n : ℕ). live_from 0 flags rows ++ (n, es) ∷ []) (omega arith)) (length-flags flags)
  where
    length-flags : (flags : List Bool) → length (flags ++ true ∷ []) + 1 ≡ length flags + 1 + 1
    length-flags [] = refl
    length-flags (b ∷ flags) = let r : length (flags ++ true ∷ []) + 1 ≡ length flags + 1 + 1 = length-flags flags in omega (arith, r)

length-push : (flags : List Bool) → length (flags ++ true ∷ []) ≡ length flags + 1
length-push [] = refl
length-push (b ∷ flags) = let r : length (flags ++ true ∷ []) ≡ length flags + 1 = length-push flags in omega (arith, r)

length-traces : (ts : List (ℕ × List Edge)) (t : ℕ × List Edge) → length (ts ++ t ∷ []) ≡ length ts + 1
length-traces [] t = refl
length-traces (x ∷ ts) t = let r : length (ts ++ t ∷ []) ≡ length ts + 1 = length-traces ts t in omega (arith, r)

-- what holds of each row holds after one is changed
each_row : (P : ℕ → List Edge → Type 0) (rows : Rows) (r : ℕ) (es : List Edge) → P r es → ((i : ℕ) → (i ≡ r → ⊥) → P i (get_or rows i [])) → r < length rows → (i : ℕ) → P i (get_or (set rows r es) i [])
each_row P [] r es p h l i = absurd (omega (arith, l))
each_row P (xs ∷ rows) zero es p h l zero = p
each_row P (xs ∷ rows) zero es p h l (suc i) = h (suc i) (λ e. omega (arith, e))
each_row P (xs ∷ rows) (suc r) es p h l zero = h 0 (λ e. omega (arith, e))
each_row P (xs ∷ rows) (suc r) es p h l (suc i) = each_row (λ j. P (suc j)) rows r es p (λ j n. h (suc j) (λ e. n (omega (arith, e)))) (omega (arith, l)) i

flag-push : (flags : List Bool) (i : ℕ) → (i ≡ length flags → ⊥) → get_or (flags ++ true ∷ []) i false ≡ get_or flags i false
flag-push [] zero n = absurd (n refl)
flag-push [] (suc i) n = refl
flag-push (b ∷ flags) zero n = refl
flag-push (b ∷ flags) (suc i) n = flag-push flags i (λ e. n (ap suc e))

flag-last : (flags : List Bool) → get_or (flags ++ true ∷ []) (length flags) false ≡ true
flag-last [] = refl
flag-last (b ∷ flags) = flag-last flags

pub held_push : (flags : List Bool) (rows : Rows) (live count : ℕ) (es : List Edge) → IsHeld flags rows live count → length rows ≡ length flags + 1 → IsEdges es → length flags < 1048576 → count + length es ≤ 16777216 → live < 4096 → IsHeld (flags ++ true ∷ []) (set rows (length flags) es) (live + 1) (count + length es)
held_push flags rows live count es h l o spent small few = record {
  enough = (let n : length (flags ++ true ∷ []) ≡ length flags + 1 = length-push flags in let s : length (set rows (length flags) es) ≡ length rows = length-set rows (length flags) es in omega (arith, n, s, l));
  few_rows = (let n : length (flags ++ true ∷ []) ≡ length flags + 1 = length-push flags in let s : length (set rows (length flags) es) ≡ length rows = length-set rows (length flags) es in omega (arith, n, s, l));
  spent = (let n : length (flags ++ true ∷ []) ≡ length flags + 1 = length-push flags in omega (arith, n, spent));
  empty = λ i f. each_row (λ j xs. get_or (flags ++ true ∷ []) j false ≡ false → xs ≡ []) rows (length flags) es (λ g. (let z : true ≡ false = sym (flag-last flags) ∙ g in absurd (cc))) (λ j n g. h.empty j (sym (flag-push flags j n) ∙ g)) inside i f;
  ordered = each_row (λ j xs. IsEdges xs) rows (length flags) es o (λ j n. h.ordered j) inside;
  counted =
      (let a : pairs (set rows (length flags) es) + length (get_or rows (length flags) []) ≡ pairs rows + length es = pairs-set rows (length flags) es inside in
      let z : length (get_or rows (length flags) []) ≡ 0 = ap length (h.empty (length flags) (beyond flags)) in
      let c : pairs rows ≡ count = h.counted in
      omega (arith, a, z, c));
  small = small;
  living = ap length (live-push 0 flags rows es l) ∙ length-traces (live_from 0 flags rows) (0 + length flags + 1, es) ∙ ap (λ (n : ℕ). n + 1) h.living;
  few = omega (arith, few);
}
  where
    inside : length flags < length rows
    inside = omega (arith, l)

-- ---- one trace taken away

not_below : (m i : ℕ) (flags : List Bool) (rows : Rows) → m ≤ i → is_live m (live_from i flags rows) ≡ false
not_below m i [] rows l = refl
not_below m i (b ∷ flags) [] l = refl
not_below m i (true ∷ flags) (es ∷ rows) l = rw (ne_eqb (i + 1) m (λ e. omega (arith, e, l))) (not_below m (i + 1) flags rows (omega (arith, l)))
not_below m i (false ∷ flags) (es ∷ rows) l = not_below m (i + 1) flags rows (omega (arith, l))

live_at : (m i j : ℕ) (flags : List Bool) (rows : Rows) → length flags ≤ length rows → m ≡ i + j + 1 → is_live m (live_from i flags rows) ≡ get_or flags j false
live_at m i j [] rows l q = refl
live_at m i j (b ∷ flags) [] l q = absurd (omega (arith, l))
live_at m i zero (true ∷ flags) (es ∷ rows) l q = rw (eq-eqb (i + 1) m (omega (arith, q))) refl
live_at m i zero (false ∷ flags) (es ∷ rows) l q = not_below m (i + 1) flags rows (omega (arith, q))
live_at m i (suc j) (true ∷ flags) (es ∷ rows) l q = rw (ne_eqb (i + 1) m (λ e. omega (arith, e, q))) (live_at m (i + 1) j flags rows (omega (arith, l)) (omega (arith, q)))
live_at m i (suc j) (false ∷ flags) (es ∷ rows) l q = live_at m (i + 1) j flags rows (omega (arith, l)) (omega (arith, q))

pub live_is : (m : ℕ) (flags : List Bool) (rows : Rows) → length flags ≤ length rows → is_live m (live_from 0 flags rows) ≡ flag_of flags m
live_is zero flags rows l = not_below 0 0 flags rows (omega arith)
live_is (suc j) flags rows l = live_at (suc j) 0 j flags rows l (omega arith)

edges_at : (m i j : ℕ) (flags : List Bool) (rows : Rows) → get_or flags j false ≡ true → length flags ≤ length rows → m ≡ i + j + 1 → edges_of m (live_from i flags rows) ≡ get_or rows j []
edges_at m i j [] rows f l q = absurd (cc)
edges_at m i j (b ∷ flags) [] f l q = absurd (omega (arith, l))
edges_at m i zero (true ∷ flags) (es ∷ rows) f l q = rw (eq-eqb (i + 1) m (omega (arith, q))) refl
edges_at m i zero (false ∷ flags) (es ∷ rows) f l q = absurd (cc)
edges_at m i (suc j) (true ∷ flags) (es ∷ rows) f l q = rw (ne_eqb (i + 1) m (λ e. omega (arith, e, q))) (edges_at m (i + 1) j flags rows f (omega (arith, l)) (omega (arith, q)))
edges_at m i (suc j) (false ∷ flags) (es ∷ rows) f l q = edges_at m (i + 1) j flags rows f (omega (arith, l)) (omega (arith, q))

pub edges_is : (j : ℕ) (flags : List Bool) (rows : Rows) → get_or flags j false ≡ true → length flags ≤ length rows → edges_of (j + 1) (live_from 0 flags rows) ≡ get_or rows j []
edges_is j flags rows f l = edges_at (j + 1) 0 j flags rows f l (omega arith)

without_at : (m i j : ℕ) (flags : List Bool) (rows : Rows) → get_or flags j false ≡ true → length flags ≤ length rows → m ≡ i + j + 1 → live_from i (set flags j false) (set rows j []) ≡ without_number m (live_from i flags rows)
without_at m i j [] rows f l q = absurd (cc)
without_at m i j (b ∷ flags) [] f l q = absurd (omega (arith, l))
without_at m i zero (true ∷ flags) (es ∷ rows) f l q = rw (eq-eqb (i + 1) m (omega (arith, q))) refl
without_at m i zero (false ∷ flags) (es ∷ rows) f l q = absurd (cc)
without_at m i (suc j) (true ∷ flags) (es ∷ rows) f l q = rw (ne_eqb (i + 1) m (λ e. omega (arith, e, q))) (ap (λ (t : List (ℕ × List Edge)). (i + 1, es) ∷ t) (without_at m (i + 1) j flags rows f (omega (arith, l)) (omega (arith, q))))
without_at m i (suc j) (false ∷ flags) (es ∷ rows) f l q = without_at m (i + 1) j flags rows f (omega (arith, l)) (omega (arith, q))

fewer_at : (i j : ℕ) (flags : List Bool) (rows : Rows) → get_or flags j false ≡ true → length flags ≤ length rows → length (live_from i (set flags j false) (set rows j [])) + 1 ≡ length (live_from i flags rows)
fewer_at i j [] rows f l = absurd (cc)
fewer_at i j (b ∷ flags) [] f l = absurd (omega (arith, l))
fewer_at i zero (true ∷ flags) (es ∷ rows) f l = omega arith
fewer_at i zero (false ∷ flags) (es ∷ rows) f l = absurd (cc)
fewer_at i (suc j) (true ∷ flags) (es ∷ rows) f l = let r : length (live_from (i + 1) (set flags j false) (set rows j [])) + 1 ≡ length (live_from (i + 1) flags rows) = fewer_at (i + 1) j flags rows f (omega (arith, l)) in omega (arith, r)
fewer_at i (suc j) (false ∷ flags) (es ∷ rows) f l = fewer_at (i + 1) j flags rows f (omega (arith, l))

pub view_without : (j : ℕ) (flags : List Bool) (rows : Rows) → get_or flags j false ≡ true → length flags ≤ length rows → traces_in (set flags j false) (set rows j []) ≡ record (traces_in flags rows) { traces = without_number (j + 1) (live_from 0 flags rows) }
view_without j flags rows f l = same_traces (without_at (j + 1) 0 j flags rows f l (omega arith)) (ap (λ (n : ℕ). n + 1) (length-set flags j false))

flag-off : (flags : List Bool) (j i : ℕ) → (i ≡ j → ⊥) → get_or (set flags j false) i false ≡ get_or flags i false
flag-off [] j i n = refl
flag-off (b ∷ flags) zero zero n = absurd (n refl)
flag-off (b ∷ flags) zero (suc i) n = refl
flag-off (b ∷ flags) (suc j) zero n = refl
flag-off (b ∷ flags) (suc j) (suc i) n = flag-off flags j i (λ e. n (ap suc e))

pub flag_in : (flags : List Bool) (j : ℕ) → get_or flags j false ≡ true → j < length flags
flag_in [] j f = absurd (cc)
flag_in (b ∷ flags) zero f = omega arith
flag_in (b ∷ flags) (suc j) f = let r : j < length flags = flag_in flags j f in omega (arith, r)

pub held_without : (j : ℕ) (flags : List Bool) (rows : Rows) (live count live2 count2 : ℕ) → IsHeld flags rows live count → get_or flags j false ≡ true → live2 + 1 ≡ live → count2 + length (get_or rows j []) ≡ count → IsHeld (set flags j false) (set rows j []) live2 count2
held_without j flags rows live count live2 count2 h f a b = record {
  enough = (let e : length flags ≤ length rows = h.enough in let n : length (set flags j false) ≡ length flags = length-set flags j false in let s : length (set rows j []) ≡ length rows = length-set rows j [] in omega (arith, e, n, s));
  few_rows = (let e : length rows ≤ length flags + 1 = h.few_rows in let n : length (set flags j false) ≡ length flags = length-set flags j false in let s : length (set rows j []) ≡ length rows = length-set rows j [] in omega (arith, e, n, s));
  spent = (let e : length flags ≤ 1048576 = h.spent in let n : length (set flags j false) ≡ length flags = length-set flags j false in omega (arith, e, n));
  empty = λ i g. each_row (λ k xs. get_or (set flags j false) k false ≡ false → xs ≡ []) rows j [] (λ y. refl) (λ k n y. h.empty k (sym (flag-off flags j k n) ∙ y)) inside i g;
  ordered = each_row (λ k xs. IsEdges xs) rows j [] (record { order = refl; count = omega arith }) (λ k n. h.ordered k) inside;
  counted = (let p : pairs (set rows j []) + length (get_or rows j []) ≡ pairs rows + 0 = pairs-set rows j [] inside in let c : pairs rows ≡ count = h.counted in omega (arith, p, c, b));
  small = (let s : count ≤ 16777216 = h.small in omega (arith, s, b));
  living = (let e : length (live_from 0 (set flags j false) (set rows j [])) + 1 ≡ length (live_from 0 flags rows) = fewer_at 0 j flags rows f h.enough in let v : length (live_from 0 flags rows) ≡ live = h.living in omega (arith, e, v, a));
  few = (let e : live ≤ 4096 = h.few in omega (arith, e, a));
}
  where
    inside : j < length rows
    inside = let l : j < length flags = flag_in flags j f in let e : length flags ≤ length rows = h.enough in omega (arith, l, e)

-- ---- counts

apart_after : (a e : Edge) (es : List Edge) → ascends_after a es ≡ true → a ≡ e → uses_of e es ≡ 0
apart_after a e [] h q = refl
apart_after a e (b ∷ es) h q =
    let p = and_inv (before a b) (ascends_after b es) h in
    elim (cases_Bool (same b e)) [
      | inl t ↦ absurd (let d : before a a ≡ false = not_before_itself a in let z : before a a ≡ true = ap (before a) (q ∙ sym (same_is b e t)) ∙ p.0 in let y : true ≡ false = sym z ∙ d in cc)
      | inr f ↦ rw f (let z : uses_of e es ≡ 0 = apart_after a e es (ascends_earlier a b es p.0 p.1) q in omega (arith, z))
    ]

once : (e : Edge) (es : List Edge) → ascends es ≡ true → uses_of e es ≡ cond (has e es) 1 0
once e [] h = refl
once e (a ∷ es) h = elim (cases_Bool (same a e)) [
  | inl t ↦ rw t (let z : uses_of e es ≡ 0 = apart_after a e es h (same_is a e t) in omega (arith, z))
  | inr f ↦ rw f (let z : uses_of e es ≡ cond (has e es) 1 0 = once e es (ascends_later a es h) in omega (arith, z))
]

no_uses : (e : Edge) (rows : Rows) → ((i : ℕ) → get_or rows i [] ≡ []) → uses_in e rows ≡ 0
no_uses e [] h = refl
no_uses e (es ∷ rows) h =
    let a : uses_of e es ≡ 0 = ap (uses_of e) (h 0) in
    let r : uses_in e rows ≡ 0 = no_uses e rows (λ i. h (suc i)) in
    omega (arith, a, r)

counts : (e : Edge) (i : ℕ) (flags : List Bool) (rows : Rows) → length flags ≤ length rows → ((j : ℕ) → get_or flags j false ≡ false → get_or rows j [] ≡ []) → ((j : ℕ) → IsEdges (get_or rows j [])) → uses_in e rows ≡ count_of e (sets_of (live_from i flags rows))
counts e i [] rows l h o = no_uses e rows (λ j. h j refl)
counts e i (b ∷ flags) [] l h o = absurd (omega (arith, l))
counts e i (true ∷ flags) (es ∷ rows) l h o =
    let a : uses_of e es ≡ cond (has e es) 1 0 = once e es (o 0).order in
    let r : uses_in e rows ≡ count_of e (sets_of (live_from (i + 1) flags rows)) = counts e (i + 1) flags rows (omega (arith, l)) (λ j. h (suc j)) (λ j. o (suc j)) in
    omega (arith, a, r)
counts e i (false ∷ flags) (es ∷ rows) l h o =
    let a : uses_of e es ≡ 0 = ap (uses_of e) (h 0 refl) in
    let r : uses_in e rows ≡ count_of e (sets_of (live_from (i + 1) flags rows)) = counts e (i + 1) flags rows (omega (arith, l)) (λ j. h (suc j)) (λ j. o (suc j)) in
    omega (arith, a, r)

pub counts_are : (e : Edge) (flags : List Bool) (rows : Rows) (live count : ℕ) → IsHeld flags rows live count → uses_in e rows ≡ count_of e (sets_of (live_from 0 flags rows))
counts_are e flags rows live count h = counts e 0 flags rows h.enough h.empty h.ordered

pub pairs_are : (i : ℕ) (flags : List Bool) (rows : Rows) → length flags ≤ length rows → ((j : ℕ) → get_or flags j false ≡ false → get_or rows j [] ≡ []) → pairs rows ≡ pairs (sets_of (live_from i flags rows))
pairs_are i [] rows l h = no_pairs rows (λ j. h j refl)
  where
    no_pairs : (rows : Rows) → ((i : ℕ) → get_or rows i [] ≡ []) → pairs rows ≡ 0
    no_pairs [] h = refl
    no_pairs (es ∷ rows) h =
        let a : pairs (es ∷ rows) ≡ length es + pairs rows = sum_by-cons length es rows in
        let z : length es ≡ 0 = ap length (h 0) in
        let r : pairs rows ≡ 0 = no_pairs rows (λ i. h (suc i)) in
        omega (arith, a, z, r)
pairs_are i (b ∷ flags) [] l h = absurd (omega (arith, l))
pairs_are i (true ∷ flags) (es ∷ rows) l h =
    let a : pairs (es ∷ rows) ≡ length es + pairs rows = sum_by-cons length es rows in
    let b : pairs (es ∷ sets_of (live_from (i + 1) flags rows)) ≡ length es + pairs (sets_of (live_from (i + 1) flags rows)) = sum_by-cons length es (sets_of (live_from (i + 1) flags rows)) in
    let r : pairs rows ≡ pairs (sets_of (live_from (i + 1) flags rows)) = pairs_are (i + 1) flags rows (omega (arith, l)) (λ j. h (suc j)) in
    omega (arith, a, b, r)
pairs_are i (false ∷ flags) (es ∷ rows) l h =
    let a : pairs (es ∷ rows) ≡ length es + pairs rows = sum_by-cons length es rows in
    let z : length es ≡ 0 = ap length (h 0 refl) in
    let r : pairs rows ≡ pairs (sets_of (live_from (i + 1) flags rows)) = pairs_are (i + 1) flags rows (omega (arith, l)) (λ j. h (suc j)) in
    omega (arith, a, z, r)

-- ---- the union

has_from : (e : Edge) (es : List Edge) → Contains es e → has e es ≡ true
has_from e [] c = absurd (none e c)
has_from e (a ∷ es) c = elim (first_or_later a e es c) [
  | inl s ↦ rw (same_from a e s) refl
  | inr d ↦ elim (cases_Bool (same a e)) [ inl t ↦ rw t refl | inr f ↦ rw f (has_from e es d) ]
]

has_to : (e : Edge) (es : List Edge) → has e es ≡ true → Contains es e
has_to e [] h = absurd (cc)
has_to e (a ∷ es) h = elim (cases_Bool (same a e)) [
  | inl t ↦ (0, omega arith, same_is a e t)
  | inr f ↦ there a e es (has_to e es (rw f at h))
]

counted_in : (e : Edge) (sets : Rows) → 0 < count_of e sets → IsInSome sets e
counted_in e [] h = absurd (omega (arith, h))
counted_in e (es ∷ sets) h = elim (cases_Bool (has e es)) [
  | inl t ↦ (es, here es sets, has_to e es t)
  | inr f ↦ let s = counted_in e sets (let k : 0 < 0 + count_of e sets = rw f at h in omega (arith, k)) in (s.0, there es s.0 sets s.1, s.2)
]

in_counted : (e : Edge) (sets : Rows) → IsInSome sets e → 0 < count_of e sets
in_counted e [] (xs, c, x) = absurd (none xs c)
in_counted e (es ∷ sets) (xs, c, x) = elim (first_or_later es xs sets c) [
  | inl s ↦ let t : has e es ≡ true = has_from e es (subst (λ zs. Contains zs e) (sym s) x) in rw t (omega arith)
  | inr d ↦ let r : 0 < count_of e sets = in_counted e sets (xs, d, x) in omega (arith, r)
]

sets_ordered : (i : ℕ) (flags : List Bool) (rows : Rows) → ((j : ℕ) → IsEdges (get_or rows j [])) → All IsInOrder (sets_of (live_from i flags rows))
sets_ordered i [] rows o = All-nil IsInOrder
sets_ordered i (b ∷ flags) [] o = All-nil IsInOrder
sets_ordered i (true ∷ flags) (es ∷ rows) o = All-cons IsInOrder es (sets_of (live_from (i + 1) flags rows)) (o 0).order (sets_ordered (i + 1) flags rows (λ j. o (suc j)))
sets_ordered i (false ∷ flags) (es ∷ rows) o = sets_ordered (i + 1) flags rows (λ j. o (suc j))

pub union_is : (flags : List Bool) (rows : Rows) (live count : ℕ) (made : List Edge) → IsHeld flags rows live count → IsSetOf (λ e. 0 < uses_in e rows) made → made ≡ union_of (sets_of (live_from 0 flags rows))
union_is flags rows live count made h s =
    let sets : Rows = sets_of (live_from 0 flags rows) in
    let u : IsSetOf (IsInSome sets) (union_of sets) = sets_hold.united sets (sets_ordered 0 flags rows h.ordered) in
    unique made (union_of sets) s.order u.order
    (λ e c. (u.members e).1 (counted_in e sets (subst (λ (n : ℕ). 0 < n) (counts_are e flags rows live count h) ((s.members e).0 c))))
    (λ e c. (s.members e).1 (subst (λ (n : ℕ). 0 < n) (sym (counts_are e flags rows live count h)) (in_counted e sets ((u.members e).0 c))))

-- ---- refusals

pub refused_traces : (s : Traces) (es : List Edge) → 4096 ≤ length s.traces → refusal s es ≡ Some refusals.Traces
refused_traces s es h = rw (le-leb 4096 (length s.traces) h) refl

pub refused_edges : (s : Traces) (es : List Edge) → length s.traces < 4096 → 16777216 < pairs (sets_of s.traces) + length es → refusal s es ≡ Some refusals.Edges
refused_edges s es h k = rw (lt-leb 4096 (length s.traces) h, lt-ltb 16777216 (pairs (sets_of s.traces) + length es) k) refl

pub refused_spent : (s : Traces) (es : List Edge) → length s.traces < 4096 → pairs (sets_of s.traces) + length es ≤ 16777216 → 1048576 < s.next → refusal s es ≡ Some refusals.Spent
refused_spent s es h k l = rw (lt-leb 4096 (length s.traces) h, le-ltb 16777216 (pairs (sets_of s.traces) + length es) k, lt-ltb 1048576 s.next l) refl

pub not_refused : (s : Traces) (es : List Edge) → length s.traces < 4096 → pairs (sets_of s.traces) + length es ≤ 16777216 → s.next ≤ 1048576 → refusal s es ≡ None
not_refused s es h k l = rw (lt-leb 4096 (length s.traces) h, le-ltb 16777216 (pairs (sets_of s.traces) + length es) k, le-ltb 1048576 s.next l) refl

-- ---- flags

pub flag_place : (flags : List Bool) (number : ℕ) → flag_of flags number ≡ true → (get_or flags (number - 1) false ≡ true) × (number - 1 + 1 ≡ number)
flag_place flags zero h = absurd (cc)
flag_place flags (suc j) h = let q : suc j - 1 ≡ j = omega arith in (ap (λ (k : ℕ). get_or flags k false) q ∙ h, omega arith)

pub live_some : (j : ℕ) (flags : List Bool) (rows : Rows) (live count : ℕ) → IsHeld flags rows live count → get_or flags j false ≡ true → 1 ≤ live
live_some j flags rows live count h f =
    let e : length (live_from 0 (set flags j false) (set rows j [])) + 1 ≡ length (live_from 0 flags rows) = fewer_at 0 j flags rows f h.enough in
    let v : length (live_from 0 flags rows) ≡ live = h.living in
    omega (arith, e, v)

pub if_ok : {X E : Type 0} (P Q : X → Type 0) (r : Result X E) → ((x : X) → P x → Q x) → IfOk r P → IfOk r Q
if_ok P Q (Ok x) f h = f x h
if_ok P Q (Err e) f h = h

-- ---- an addition, step by step

pub reached : (flags : List Bool) (rows more : Rows) (live count r : ℕ) → r ≡ length flags → IsHeld flags rows live count → (more ≡ rows) ⊎ ((length rows ≡ r) × (more ≡ rows ++ [] ∷ [])) → IsHeld flags more live count × (traces_in flags more ≡ traces_in flags rows)
reached flags rows more live count r q h (inl e) = (subst (λ (d : Rows). IsHeld flags d live count) (sym e) h, ap (traces_in flags) e)
reached flags rows more live count r q h (inr p) = (
  subst (λ (d : Rows). IsHeld flags d live count) (sym p.1) (held_new flags rows live count h (p.0 ∙ q)),
  ap (traces_in flags) p.1 ∙ view_new flags rows h.enough,
)

pub one_behind : (flags : List Bool) (rows : Rows) (live count r : ℕ) → r ≡ length flags → IsHeld flags rows live count → r < length rows → length rows ≡ length flags + 1
one_behind flags rows live count r q h l = let f : length rows ≤ length flags + 1 = h.few_rows in omega (arith, q, l, f)

pub last_empty : (flags : List Bool) (rows : Rows) (live count r : ℕ) → r ≡ length flags → IsHeld flags rows live count → get_or rows r [] ≡ []
last_empty flags rows live count r q h = h.empty r (ap (λ (i : ℕ). get_or flags i false) q ∙ beyond flags)

pub length_shown : (flags : List Bool) (rows : Rows) (s : Traces) (live count : ℕ) → traces_in flags rows ≡ s → IsHeld flags rows live count → length s.traces ≡ live
length_shown flags rows s live count e h = ap (λ (t : Traces). length t.traces) (sym e) ∙ h.living

pub pairs_shown : (flags : List Bool) (rows : Rows) (s : Traces) (live count : ℕ) → traces_in flags rows ≡ s → IsHeld flags rows live count → pairs (sets_of s.traces) ≡ count
pairs_shown flags rows s live count e h = ap (λ (t : Traces). pairs (sets_of t.traces)) (sym e) ∙ sym (pairs_are 0 flags rows h.enough h.empty) ∙ h.counted

pub next_shown : (flags : List Bool) (rows : Rows) (s : Traces) → traces_in flags rows ≡ s → length flags + 1 ≡ s.next
next_shown flags rows s e = ap (λ (t : Traces). t.next) e

pub on_err : {X E : Type 0} (r : Result X E) (P : Type 0) → is_err r ≡ true → OnErr r P → P
on_err (Ok x) P e h = absurd (cc)
on_err (Err y) P e h = h

pub on_ok : {X E : Type 0} (r : Result X E) (P : Type 0) → is_err r ≡ false → OnOk r P → P
on_ok (Ok x) P e h = h
on_ok (Err y) P e h = absurd (cc)
