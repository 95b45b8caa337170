-- How a layout keeps what was added: the bytes of all code one behind another, the fixes in it by their offsets there, and a row for
-- each fragment.
use Rattle.std.specs.Prelude.{◌≡◌, ℕ, ◌+◌, ◌-◌, ◌≤◌, ◌==◌, true, if◌then◌else◌, List, [], ◌∷◌, ◌++◌, length, take, drop, map}
use Rattle.std.specs.List.Sorted.{IsStrictlyIncreasing}
use Rattle.block_cut.specs.Transfers.{is_among}
use Rattle.block_make.specs.declared.fragment.Fix.{Fix}
use Rattle.block_make.specs.FragmentCode.{OpenCode}
use Rattle.code_layout.specs.declared.place.TheConstants.{CODE_START, MAX_CODE}
use Rattle.code_layout.specs.declared.rows.Row.{Row}
use Rattle.code_layout.specs.Layout.{Added, LayoutView, entry_code, code_length}

-- ---- what is kept

-- a fix of a fragment by its offset in the code, where the fragment stands at an offset, and back
abbrev pub forth : ℕ → Fix → Fix
forth at f = record { at = at + f.at; target = f.target; known = f.known }

abbrev pub back : ℕ → Fix → Fix
back at f = record { at = f.at - at; target = f.target; known = f.known }

-- the bytes of fragments
abbrev pub bytes_in : List Added → List ℕ
bytes_in [] = []
bytes_in (a ∷ more) = a.code.bytes ++ bytes_in more

-- their fixes, where the first stands at an offset
abbrev pub fixes_in : ℕ → List Added → List Fix
fixes_in at [] = []
fixes_in at (a ∷ more) = map (forth at) a.code.fixes ++ fixes_in (at + length a.code.bytes) more

-- the row of a fragment at an offset, whose fixes stand from an index on
abbrev pub row_for : ℕ → ℕ → ℕ → OpenCode → Row
row_for start at from c = record { start = start; at = at; len = length c.bytes; from = from; count = length c.fixes }

-- their rows, where the first stands at an offset and its fixes at an index
abbrev pub rows_in : ℕ → ℕ → List Added → List Row
rows_in at from [] = []
rows_in at from (a ∷ more) =
    row_for a.start at from a.code ∷ rows_in (at + length a.code.bytes) (from + length a.code.fixes) more

-- ---- what it shows

-- the fragment of a row
abbrev pub added_by : List ℕ → List Fix → Row → Added
added_by code fixes r = record {
  start = r.start;
  code = record { bytes = take r.len (drop r.at code); fixes = map (back r.at) (take r.count (drop r.from fixes)) };
}

-- those of all rows
abbrev pub added_in : List ℕ → List Fix → List Row → List Added
added_in code fixes rows = map (added_by code fixes) rows

-- the code at the entry comes first, then the fragments, in the order of their starts
pub record IsKept (v : LayoutView) (code : List ℕ) (fixes : List Fix) (rows : List Row) : Type 0 where
  pub code_is : code ≡ (entry_code v).bytes ++ bytes_in v.added
  pub fixes_are : fixes ≡ (entry_code v).fixes ++ fixes_in (length (entry_code v).bytes) v.added
  pub rows_are : rows ≡ rows_in (length (entry_code v).bytes) (length (entry_code v).fixes) v.added
  pub order : IsStrictlyIncreasing (map (λ (a : Added). a.start) v.added)
  pub short : code_length v ≤ MAX_CODE

-- ---- where fragments stand

abbrev pub row_starts : List Row → List ℕ
row_starts rows = map (λ (r : Row). r.start) rows

-- the address of the fragment of a start
abbrev pub row_address : List Row → ℕ → ℕ
row_address [] y = 0
row_address (r ∷ rows) y = if r.start == y then (CODE_START + r.at) else row_address rows y

-- each start with that address
abbrev pub row_places : List Row → List (ℕ × ℕ)
row_places rows = map (λ (r : Row). (r.start, CODE_START + r.at)) rows

-- a fix lies in code of so many bytes, and where it goes to a block, that one has a row
pub record IsFillable (rows : List Row) (count : ℕ) (f : Fix) : Type 0 where
  pub inside : f.at + 4 ≤ count
  pub there : f.known ≡ true → is_among (row_starts rows) f.target ≡ true
