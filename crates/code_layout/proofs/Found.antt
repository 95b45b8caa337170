-- Rows whose starts ascend: where a start stands.
use Rattle.std.proofs.Common.{◌≡◌, ℕ, zero, suc, ◌+◌, ◌<◌, ◌≤◌, Bool, true, false, ◌||◌, List, [], ◌∷◌, length, get_or, refl, sym, ap, ◌∙◌, inl, inr, arith}
use Rattle.std.specs.Prelude.{◌==◌, if◌then◌else◌}
use Rattle.std.specs.List.Sorted.{IsStrictlyIncreasing}
use Rattle.std.proofs.lemmas.Bool.{cases_lt}
use Rattle.std.proofs.lemmas.Bool.Decides.{nat_tests}
use Rattle.std.proofs.lemmas.Map.Keys.{sorted_from_strictly_increasing, below_from_sorted}
use Rattle.std.proofs.lemmas.List.{get_or-map, length-map}
use Rattle.block_cut.specs.Transfers.{is_among}
use Rattle.code_layout.specs.declared.place.TheConstants.{CODE_START}
use Rattle.code_layout.specs.declared.rows.Row.{Row}
use Rattle.code_layout.specs.Rows.{row_starts, row_address}

pub rise : (xs : List ℕ) (i j : ℕ) → IsStrictlyIncreasing xs → i ≤ j → j < length xs → get_or xs i 0 ≤ get_or xs j 0
rise xs i j up le in' = elim (cases_lt i j) as (λ _. get_or xs i 0 ≤ get_or xs j 0) [
  | inl lt ↦ omega (arith, below_from_sorted xs i j 0 (sorted_from_strictly_increasing xs up) lt in')
  | inr ge ↦ let is : i ≡ j = omega arith in let e = ap (λ m. get_or xs m 0) is in omega arith
]

-- a number that is among others has an index
abbrev IsAt : List ℕ → ℕ → Type 0
IsAt xs y = (i : ℕ) × (i < length xs) × (get_or xs i 0 ≡ y)

among_first : (x y : ℕ) (xs : List ℕ) (b : Bool) → (y == x) ≡ b → (b || is_among xs y) ≡ true → (is_among xs y ≡ true → IsAt xs y) → IsAt (x ∷ xs) y
among_first x y xs true s h more = (0, omega arith, grind (arith, nat_tests))
among_first x y xs false s h more = let r = more h in (suc r.0, (let l = r.1 in omega arith), r.2)

pub index_among : (xs : List ℕ) (y : ℕ) → is_among xs y ≡ true → IsAt xs y
index_among [] y e = cc
index_among (x ∷ xs) y e = among_first x y xs (y == x) refl e (index_among xs y)

-- the address by the row of an index, where no row before it has the start
address_here : (r : Row) (rows : List Row) (y : ℕ) (b : Bool) → (r.start == y) ≡ b → r.start ≡ y → (if b then (CODE_START + r.at) else row_address rows y) ≡ CODE_START + r.at
address_here r rows y true s e = refl
address_here r rows y false s e = absurd (grind (arith, nat_tests))

address_later : (r : Row) (rows : List Row) (y : ℕ) (b : Bool) → (r.start == y) ≡ b → r.start < y → (if b then (CODE_START + r.at) else row_address rows y) ≡ row_address rows y
address_later r rows y true s e = absurd (grind (arith, nat_tests))
address_later r rows y false s e = refl

pub address_at : (rows : List Row) (k : ℕ) (d : Row) (y : ℕ) → k < length rows → ((j : ℕ) → j < k → get_or (row_starts rows) j 0 < y) → (get_or rows k d).start ≡ y → row_address rows y ≡ CODE_START + (get_or rows k d).at
address_at [] k d y l below e = absurd (omega arith)
address_at (r ∷ rows) zero d y l below e = address_here r rows y (r.start == y) refl e
address_at (r ∷ rows) (suc k) d y l below e =
    address_later r rows y (r.start == y) refl (below 0 (omega arith))
    ∙ address_at rows k d y (omega arith) (λ j h. below (suc j) (omega arith)) e

module _ (rows : List Row) (up : IsStrictlyIncreasing (row_starts rows)) where
  abbrev at : ℕ → ℕ
  at k = get_or (row_starts rows) k 0

  long : length (row_starts rows) ≡ length rows
  long = length-map rows (λ (r : Row). r.start)

  -- the start of a row that is read
  pub start_at : (k : ℕ) (d : Row) → k < length rows → at k ≡ (get_or rows k d).start
  start_at k d l = get_or-map (λ (r : Row). r.start) rows k d 0 l

  pub after_middle : (middle start : ℕ) (d : Row) → middle < length rows → start ≤ (get_or rows middle d).start → (k : ℕ) → middle ≤ k → k < length rows → start ≤ at k
  after_middle middle start d in' from k le l = let n = long in omega (arith, from, start_at middle d in', rise (row_starts rows) middle k up le (omega arith))

  pub before_middle : (middle start : ℕ) (d : Row) → middle < length rows → (get_or rows middle d).start < start → (k : ℕ) → k < middle + 1 → at k < start
  before_middle middle start d in' below k l = let n = long in omega (arith, below, start_at middle d in', rise (row_starts rows) k middle up (omega arith) (omega arith))

  module _ (start first : ℕ) (there : is_among (row_starts rows) start ≡ true) (below : (k : ℕ) → k < first → at k < start) (from : (k : ℕ) → first ≤ k → k < length rows → start ≤ at k) where
    -- the first row that is not below is there
    pub found : first < length rows
    found =
        let r = index_among (row_starts rows) start there in
        let n = long in
        elim (cases_lt r.0 first) as (λ _. first < length rows) [
          | inl lt ↦ absurd (omega (arith, below r.0 lt, r.2))
          | inr ge ↦ omega (arith, r.1)
        ]

    is_start : at first ≡ start
    is_start =
        let r = index_among (row_starts rows) start there in
        let n = long in
        let f = found in
        elim (cases_lt r.0 first) as (λ _. at first ≡ start) [
          | inl lt ↦ absurd (omega (arith, below r.0 lt, r.2))
          | inr ge ↦ omega (arith, r.2, from first (omega arith) f, rise (row_starts rows) first r.0 up ge r.1)
        ]

    pub address_is : (d : Row) → row_address rows start ≡ CODE_START + (get_or rows first d).at
    address_is d = address_at rows first d start found below (sym (start_at first d found) ∙ is_start)
