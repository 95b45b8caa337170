-- The executable that a source stands for, over its lines as a whole.
use Rattle.std.specs.Prelude.{ℕ, ◌+◌, nat_eq, Bool, false, is_some, if◌then◌else◌, List, [], ◌∷◌, ◌++◌, length, Option, Some, None, Result, Ok, Err}
use Rattle.std.specs.Str.{bytes_eq}
use Rattle.asm_line.specs.Forms.{Form, Label, Goes, form_of, size_of_form, bytes_of_form}
use Rattle.script_text.specs.Split.{lines_of}
use Rattle.elf_flat.specs.Flat.{flat_entry, flat_file}

-- a line by its number, and the address of what it gives, with its form, if it has one
pub record Row : Type 0 where
  pub number : ℕ
  pub at : ℕ
  pub form : Option Form

abbrev pub size_in : Option Form → ℕ
size_in None = 0
size_in (Some form) = size_of_form form

-- the rows of lines, the first with this number and address: what a line gives stands behind what the lines before it give
abbrev pub rows_of : ℕ → ℕ → List (List ℕ) → List Row
rows_of number at [] = []
rows_of number at (line ∷ lines) =
    record { number = number; at = at; form = form_of line at } ∷ rows_of (number + 1) (at + size_in (form_of line at)) lines

-- the rows of a source; lines are counted from 1
abbrev pub rows_in : List ℕ → List Row
rows_in source = rows_of 1 flat_entry (lines_of source)

-- ---- labels

-- it is the label of this name
abbrev pub names : Option Form → List ℕ → Bool
names (Some (Label label)) name = bytes_eq label name
names _ name = false

-- the address of a label among rows, if one of them is the label
abbrev pub address_of : List Row → List ℕ → Option ℕ
address_of [] name = None
address_of (row ∷ rows) name = if names row.form name then Some row.at else address_of rows name

abbrev pub has_label : List Row → List ℕ → Bool
has_label rows name = is_some (address_of rows name)

-- ---- refusals: a number and a line

abbrev pub Refusal : Type 0
Refusal = Option (ℕ × ℕ)

-- the first refusal, or else the other
abbrev pub or_later : Refusal → Refusal → Refusal
or_later (Some refusal) other = Some refusal
or_later None other = other

-- 41, a line is none of the forms; 42, it is a label that a row before it is
abbrev pub row_refusal : List Row → ℕ → Option Form → Refusal
row_refusal before number None = Some (41, number)
row_refusal before number (Some (Label name)) = if has_label before name then Some (42, number) else None
row_refusal before number (Some _) = None

-- the first of these in rows that stand behind others
abbrev pub first_refusal : List Row → List Row → Refusal
first_refusal before [] = None
first_refusal before (row ∷ rows) = or_later (row_refusal before row.number row.form) (first_refusal (before ++ row ∷ []) rows)

-- 43, it goes to a label that no row is
abbrev pub use_refusal : List Row → ℕ → Option Form → Refusal
use_refusal all number (Some (Goes kind name)) = if has_label all name then None else Some (43, number)
use_refusal all number _ = None

-- the first of these in some of all rows
abbrev pub first_unknown : List Row → List Row → Refusal
first_unknown all [] = None
first_unknown all (row ∷ rows) = or_later (use_refusal all row.number row.form) (first_unknown all rows)

-- ---- bytes

abbrev pub or_zero : Option ℕ → ℕ
or_zero None = 0
or_zero (Some n) = n

-- the address that a form goes to
abbrev pub goes_to : List Row → Option Form → ℕ
goes_to all (Some (Goes kind name)) = or_zero (address_of all name)
goes_to all _ = 0

-- the bytes of a form that stands at an address and goes to another
abbrev pub bytes_in : Option Form → ℕ → ℕ → List ℕ
bytes_in None at to = []
bytes_in (Some form) at to = bytes_of_form form at to

-- the bytes of some of all rows, one behind another
abbrev pub bytes_of : List Row → List Row → List ℕ
bytes_of all [] = []
bytes_of all (row ∷ rows) = bytes_in row.form row.at (goes_to all row.form) ++ bytes_of all rows

-- ---- the whole

-- refused so, or else the other
abbrev pub refused_or : Refusal → Result (List ℕ) (ℕ × ℕ) → Result (List ℕ) (ℕ × ℕ)
refused_or (Some refusal) other = Err refusal
refused_or None other = other

-- 44, there are no bytes
abbrev pub file_of : List ℕ → Result (List ℕ) (ℕ × ℕ)
file_of code = if nat_eq (length code) 0 then Err (44, 0) else Ok (flat_file code)

abbrev pub assembled_rows : List Row → Result (List ℕ) (ℕ × ℕ)
assembled_rows rows = refused_or (first_refusal [] rows) (refused_or (first_unknown rows rows) (file_of (bytes_of rows rows)))

-- the file of a source, or the number of its refusal and the line
unfoldable pub assembled : List ℕ → Result (List ℕ) (ℕ × ℕ)
assembled source = assembled_rows (rows_in source)
