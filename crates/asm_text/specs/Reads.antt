-- What the parts of the assembler answer.
use Rattle.std.specs.Prelude.{◌≡◌, ℕ, ◌+◌, ◌*◌, ◌≤◌, IsTrue, List, [], ◌∷◌, ◌++◌, length, Option, Some, None, IfSome, Result, Ok, Err}
use Rattle.std.specs.Borrow.{Bor}
use Rattle.std.specs.BTreeMap.{BTreeMap, get_by}
use Rattle.std.specs.Cmp.Lexicographic.{slice_cmp}
use Rattle.std.specs.List.{position_or_len}
use Rattle.std.specs.Option.{option_map}
use Rattle.std.specs.Ordering.{nat_cmp}
use Rattle.script_text.specs.Split.{is_end, lines_of}
use Rattle.asm_line.specs.declared.lines.Form as read
use Rattle.asm_line.specs.declared.transfers.Transfer.{Transfer}
use Rattle.asm_line.specs.Forms.{Form, Goes, is_form, formed}
use Rattle.elf_flat.specs.Flat.{flat_entry}
use Rattle.asm_text.specs.declared.errors.AsmError.{AsmError}
use Rattle.asm_text.specs.declared.errors.AsmError.TheVariants.{Refused, Memory}
use Rattle.asm_text.specs.declared.limits.TheConstants.{SOURCE_LIMIT}
use Rattle.asm_text.specs.declared.rows.Place.{Place}
use Rattle.asm_text.specs.declared.rows.Row as read_row
use Rattle.asm_text.specs.Source.{Row, Refusal, size_in, rows_of, rows_in, address_of, row_refusal, first_refusal, use_refusal, first_unknown, goes_to, bytes_in, bytes_of, assembled}

-- the source is refused so, where it is not for want of memory
abbrev pub IsRefused : AsmError → List ℕ → Type 0
IsRefused (Refused number line) source = assembled source ≡ Err (number, line)
IsRefused Memory source = Unit {0}

-- ---- rows

-- how many bytes stand before the first LF, or in all where there is none
abbrev pub line_length : List ℕ → ℕ
line_length bytes = position_or_len is_end bytes

-- the form that was read, if there is one
abbrev pub seen_form : Option read.Form → Option Form
seen_form form = option_map formed form

-- it is a form whose bytes can be written
abbrev pub IsGood : Option read.Form → Type 0
IsGood form = IfSome form (λ f. IsTrue (is_form (formed f)))

-- the row that was read
abbrev pub seen_row : read_row.Row → Row
seen_row row = record { number = row.number; at = row.at; form = seen_form row.form }

abbrev pub size_of_rows : List Row → ℕ
size_of_rows [] = 0
size_of_rows (row ∷ rows) = size_in row.form + size_of_rows rows

-- the rows from a place on
abbrev pub rows_at : Place → List Row
rows_at p = rows_of p.number p.at (lines_of p.rest.now)

-- the address behind them
abbrev pub end_at : Place → ℕ
end_at p = p.at + size_of_rows (rows_at p)

-- the address behind the rows of a source
abbrev pub end_of : List ℕ → ℕ
end_of source = flat_entry + size_of_rows (rows_in source)

-- there are few lines, and few bytes are given
pub record IsRoomy (p : Place) : Type 0 where
  pub lines : p.number + length p.rest.now ≤ 1 + SOURCE_LIMIT
  pub bytes : end_at p ≤ flat_entry + 3 * SOURCE_LIMIT

-- a row is read, or there is none
abbrev pub ReadsRow : Option read_row.Row → List Row → List Row → Type 0
ReadsRow None old new = (old ≡ []) × (new ≡ [])
ReadsRow (Some row) old new = (old ≡ seen_row row ∷ new) × IsGood row.form

-- ---- labels

-- the map has the labels of the rows, with their addresses
abbrev pub HasLabels : BTreeMap (Bor (List ℕ)) ℕ → List Row → Type 0
HasLabels labels rows = (name : List ℕ) → get_by (λ k. slice_cmp nat_cmp name k.now) labels ≡ address_of rows name

-- a part is done and not refused, or this is why
abbrev pub Judged : {X : Type 0} → Result X AsmError → Refusal → (X → Type 0) → Type 0
Judged (Ok x) refusal Done = (refusal ≡ None) × Done x
Judged (Err (Refused number line)) refusal Done = refusal ≡ Some (number, line)
Judged (Err Memory) refusal Done = Unit {0}

-- a row is added to those before it
abbrev pub AddsRow : {X : Type 0} → Result X AsmError → ℕ → ℕ → Option Form → BTreeMap (Bor (List ℕ)) ℕ → BTreeMap (Bor (List ℕ)) ℕ → Type 0
AddsRow result number at form old new =
    (before : List Row) → HasLabels old before →
    Judged result (row_refusal before number form) (λ u. HasLabels new (before ++ record { number = number; at = at; form = form } ∷ []))

-- The rows of a source have no refusal of their own, these labels, and this end; or this is their refusal.
abbrev pub FindsLabels : Result (BTreeMap (Bor (List ℕ)) ℕ × ℕ) AsmError → List ℕ → Type 0
FindsLabels result source =
    Judged result (first_refusal [] (rows_in source)) (λ p. HasLabels p.0 (rows_in source) × (p.1 ≡ end_of source) × (p.1 ≤ flat_entry + 3 * SOURCE_LIMIT))

-- ---- bytes

-- the address of a label is found, in whatever rows have these labels
abbrev pub FindsLabel : Result ℕ AsmError → ℕ → List ℕ → BTreeMap (Bor (List ℕ)) ℕ → Type 0
FindsLabel result number name labels =
    (all : List Row) (kind : Transfer) → HasLabels labels all →
    Judged result (use_refusal all number (Some (Goes kind name))) (λ to. to ≡ goes_to all (Some (Goes kind name)))

-- the address that a form goes to is found
abbrev pub FindsTarget : Result ℕ AsmError → ℕ → Option Form → BTreeMap (Bor (List ℕ)) ℕ → Type 0
FindsTarget result number form labels =
    (all : List Row) → HasLabels labels all → Judged result (use_refusal all number form) (λ to. to ≡ goes_to all form)

-- the bytes of a row are appended
abbrev pub PutsRow : {X : Type 0} → Result X AsmError → Row → BTreeMap (Bor (List ℕ)) ℕ → List ℕ → List ℕ → Type 0
PutsRow result row labels old new =
    (all : List Row) → HasLabels labels all →
    Judged result (use_refusal all row.number row.form) (λ u. new ≡ old ++ bytes_in row.form row.at (goes_to all row.form))

-- the bytes of some of all rows are appended
abbrev pub PutsRows : {X : Type 0} → Result X AsmError → List Row → List Row → List ℕ → List ℕ → Type 0
PutsRows result all rows old new = Judged result (first_unknown all rows) (λ u. new ≡ old ++ bytes_of all rows)
