-- A layout that is whole: its distances can be filled in, and that gives its code.
use Rattle.std.proofs.Common.{◌≡◌, ℕ, ◌+◌, ◌<◌, ◌≤◌, ◌^◌, Bool, true, false, List, [], ◌∷◌, ◌++◌, length, take, drop, map, refl, sym, ap, ◌∙◌, subst, arith, All}
use Rattle.std.specs.Prelude.{◌==◌, if◌then◌else◌}
use Rattle.std.specs.List.Sorted.{IsStrictlyIncreasing}
use Rattle.std.proofs.lemmas.List.{take_at}
use Rattle.std.proofs.lemmas.List.Elements.{All-nil, All-cons, All-append, All-map, All-weaker, All-same}
use Rattle.block_cut.specs.Transfers.{is_among}
use Rattle.block_make.specs.declared.fragment.Fix.{Fix}
use Rattle.block_make.specs.FragmentCode.{code_of_items}
use Rattle.code_layout.specs.declared.place.TheConstants.{CODE_START}
use Rattle.code_layout.specs.declared.rows.Row.{Row}
use Rattle.code_layout.specs.Linked.{entry_items, goes_out}
use Rattle.code_layout.specs.Layout.{Added, LayoutView, entry_code, added_length, added_at, added_from, filled, layout_code, is_added, IsAddedFix, AreAdded, IsWhole}
use Rattle.code_layout.specs.Rows.{forth, fixes_in, row_for, rows_in, row_starts, row_address, IsFillable, IsKept}
use Rattle.code_layout.proofs.Fills.{IsInside, AreInside, filled_all, goes_same, filled_same}
use Rattle.code_layout.proofs.Kept.{kept_length}

starts_are : (at from : ℕ) (added : List Added) → row_starts (rows_in at from added) ≡ map (λ (a : Added). a.start) added
starts_are at from [] = refl
starts_are at from (a ∷ more) = ap (λ l. a.start ∷ l) (starts_are (at + length a.code.bytes) (from + length a.code.fixes) more)

address_is : (at from : ℕ) (added : List Added) (y : ℕ) → row_address (rows_in at from added) y ≡ added_at (CODE_START + at) added y
address_is at from [] y = refl
address_is at from (a ∷ more) y =
    let e : CODE_START + (at + length a.code.bytes) ≡ CODE_START + at + length a.code.bytes = omega arith in
    ap (λ r. if a.start == y then (CODE_START + at) else r) (address_is (at + length a.code.bytes) (from + length a.code.fixes) more y ∙ ap (λ i. added_at i more y) e)

abbrev IsLow : Row → Type 0
IsLow r = CODE_START + r.at < 2 ^ 32

rows_low : (at from : ℕ) (added : List Added) → CODE_START + (at + added_length added) < 2 ^ 32 → All IsLow (rows_in at from added)
rows_low at from [] l = All-nil IsLow
rows_low at from (a ∷ more) l = All-cons IsLow (row_for a.start at from a.code) (rows_in (at + length a.code.bytes) (from + length a.code.fixes) more) (omega arith) (rows_low (at + length a.code.bytes) (from + length a.code.fixes) more (omega arith))

fixes_fillable : (rows : List Row) (n at : ℕ) (list added : List Added) → at + added_length added ≤ n → ((y : ℕ) → is_added list y ≡ true → is_among (row_starts rows) y ≡ true) → AreAdded list added → All (IsFillable rows n) (fixes_in at added)
fixes_fillable rows n at list [] l there h = All-nil (IsFillable rows n)
fixes_fillable rows n at list (a ∷ more) l there h =
    All-append (IsFillable rows n) (map (forth at) a.code.fixes) (fixes_in (at + length a.code.bytes) more)
    (All-map (IsFillable rows n) (forth at) a.code.fixes (All-weaker (IsAddedFix list (length a.code.bytes)) (λ f. IsFillable rows n (forth at f)) one a.code.fixes h.0))
    (fixes_fillable rows n (at + length a.code.bytes) list more (omega arith) there h.1)
  where
    one : (f : Fix) → IsAddedFix list (length a.code.bytes) f → IsFillable rows n (forth at f)
    one f i = record { inside = (let s = i.inside in omega arith); there = λ e. there f.target (i.there e) }

fixes_inside : (list added : List Added) → AreAdded list added → AreInside added
fixes_inside list [] h = tt
fixes_inside list (a ∷ more) h = (All-weaker (IsAddedFix list (length a.code.bytes)) (IsInside (length a.code.bytes)) (λ f i. i.inside) a.code.fixes h.0, fixes_inside list more h.1)

-- the fix of the code at the entry
entry_fillable : (entry : ℕ) (known : Bool) (rows : List Row) (n : ℕ) → length (code_of_items (entry_items entry known)).bytes ≤ n → (known ≡ true → is_among (row_starts rows) entry ≡ true) → All (IsFillable rows n) (code_of_items (entry_items entry known)).fixes
entry_fillable entry true rows n l h = All-cons (IsFillable rows n) _ [] (record { inside = omega arith; there = λ e. h refl }) (All-nil (IsFillable rows n))
entry_fillable entry false rows n l h = All-cons (IsFillable rows n) _ [] (record { inside = omega arith; there = λ e. cc }) (All-nil (IsFillable rows n))

entry_inside : (entry : ℕ) (known : Bool) → All (IsInside (length (code_of_items (entry_items entry known)).bytes)) (code_of_items (entry_items entry known)).fixes
entry_inside entry true = All-cons (IsInside (length (code_of_items (entry_items entry true)).bytes)) _ [] (omega arith) (All-nil (IsInside (length (code_of_items (entry_items entry true)).bytes)))
entry_inside entry false = All-cons (IsInside (length (code_of_items (entry_items entry false)).bytes)) _ [] (omega arith) (All-nil (IsInside (length (code_of_items (entry_items entry false)).bytes)))

module _ (v : LayoutView) (code : List ℕ) (fixes : List Fix) (rows : List Row) (k : IsKept v code fixes rows) where
  same_starts : row_starts rows ≡ map (λ (a : Added). a.start) v.added
  same_starts = ap row_starts k.rows_are ∙ starts_are (length (entry_code v).bytes) (length (entry_code v).fixes) v.added

  pub kept_order : IsStrictlyIncreasing (row_starts rows)
  kept_order = subst IsStrictlyIncreasing (sym same_starts) k.order

  pub kept_short : CODE_START + length code < 2 ^ 32
  kept_short = let s = k.short in omega (arith, kept_length v code fixes rows k)

  pub kept_low : All IsLow rows
  kept_low =
      let s = k.short in
      All-same IsLow rows (rows_in (length (entry_code v).bytes) (length (entry_code v).fixes) v.added) k.rows_are (rows_low (length (entry_code v).bytes) (length (entry_code v).fixes) v.added (omega arith))

  length_rows : (at from : ℕ) (added : List Added) → length (rows_in at from added) ≡ length added
  length_rows at from [] = refl
  length_rows at from (a ∷ more) = let e = length_rows (at + length a.code.bytes) (from + length a.code.fixes) more in omega arith

  pub kept_count : length rows ≡ length v.added
  kept_count = ap length k.rows_are ∙ length_rows (length (entry_code v).bytes) (length (entry_code v).fixes) v.added

  module _ (w : IsWhole v) where
    has_row : (y : ℕ) → is_added v.added y ≡ true → is_among (row_starts rows) y ≡ true
    has_row y e = ap (λ l. is_among l y) same_starts ∙ e

    pub kept_fixes : All (IsFillable rows (length code)) fixes
    kept_fixes =
        let n = kept_length v code fixes rows k in
        let e = entry_code v in
        All-same (IsFillable rows (length code)) fixes (e.fixes ++ fixes_in (length e.bytes) v.added) k.fixes_are
        (All-append (IsFillable rows (length code)) e.fixes (fixes_in (length e.bytes) v.added)
        (entry_fillable v.entry v.known rows (length code) (omega arith) (λ s. has_row v.entry (w.entry ∙ s)))
        (fixes_fillable rows (length code) (length e.bytes) v.added v.added (omega arith) has_row w.targets))

    pub kept_filled : (out : ℕ → ℕ) → filled (goes_out (row_address rows) out) CODE_START fixes code ≡ layout_code out v
    unfolding layout_code
    kept_filled out =
        let e = entry_code v in
        let goes = goes_out (added_at (added_from v) v.added) out in
        let by_rows = row_address (rows_in (length e.bytes) (length e.fixes) v.added) in
        ap (λ r. filled (goes_out (row_address r) out) CODE_START fixes code) k.rows_are
        ∙ filled_same (goes_out by_rows out) goes (goes_same by_rows (added_at (added_from v) v.added) out (address_is (length e.bytes) (length e.fixes) v.added)) CODE_START fixes code
        ∙ ap (λ f. filled goes CODE_START f code) k.fixes_are
        ∙ ap (filled goes CODE_START (e.fixes ++ fixes_in (length e.bytes) v.added)) k.code_is
        ∙ filled_all goes CODE_START e.fixes e.bytes v.added (entry_inside v.entry v.known) (fixes_inside v.added v.added w.targets)

-- the code is not empty
pub entry_some : (entry : ℕ) (known : Bool) → 0 < length (code_of_items (entry_items entry known)).bytes
entry_some entry true = omega arith
entry_some entry false = omega arith

-- what a part that was written over leaves of a vector
pub written_over : (n : ℕ) (x y : List ℕ) → length x ≡ n → take n (x ++ drop (length x) y) ≡ x
written_over n x y e = take_at x (drop (length x) y) n e
