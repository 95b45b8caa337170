-- The steps of the two passes over the lines.
use Rattle.std.proofs.Common.{◌≡◌, ◌+◌, ◌-◌, ◌*◌, ◌≤◌, ℕ, Bool, List, [], ◌∷◌, ◌++◌, length, Some, None, refl, ◌∙◌, ap, sym, subst, arith, append_assoc, append-nil}
use Rattle.std.specs.Prelude.{Result, Ok, Err, if◌then◌else◌}
use Rattle.std.specs.Borrow.{Bor}
use Rattle.std.specs.BTreeMap.{BTreeMap}
use Rattle.std.proofs.lemmas.Bool.{eq-eqb, ne_eqb}
use Rattle.br_word.specs.Memory.{bytes_of as word_bytes}
use Rattle.elf_flat.specs.Flat.{flat_entry, flat_file, flat_length, headed}
use Rattle.asm_text.specs.declared.errors.AsmError.{AsmError}
use Rattle.asm_text.specs.declared.errors.AsmError.TheVariants.{Refused, Memory}
use Rattle.asm_text.specs.declared.rows.Place.{Place}
use Rattle.asm_text.specs.Source.{Row, Refusal, or_later, rows_in, row_refusal, first_refusal, use_refusal, first_unknown, goes_to, bytes_in, bytes_of, refused_or, file_of, assembled}
use Rattle.asm_text.specs.Reads.{size_of_rows, rows_at, end_at, end_of, IsRoomy, HasLabels, IsRefused, Judged, FindsLabels}

-- ---- labels

-- the rows before a place are not refused, and the map has their labels
pub record IsLabelled (source : List ℕ) (labels : BTreeMap (Bor (List ℕ)) ℕ) (p : Place) : Type 0 where
  pub before : List Row
  pub rows : rows_in source ≡ before ++ rows_at p
  pub refusal : first_refusal [] (rows_in source) ≡ first_refusal before (rows_at p)
  pub has : HasLabels labels before
  pub ends : end_at p ≡ end_of source
  pub room : IsRoomy p

refused_next : (before rows left : List Row) (row : Row) (r : Refusal) → rows ≡ row ∷ left → row_refusal before row.number row.form ≡ r → first_refusal before rows ≡ or_later r (first_refusal (before ++ row ∷ []) left)
refused_next before rows left row r is h =
    ap (first_refusal before) is ∙ ap (λ (x : Refusal). or_later x (first_refusal (before ++ row ∷ []) left)) h

pub refused_here : (source : List ℕ) (labels : BTreeMap (Bor (List ℕ)) ℕ) (p : Place) (left : List Row) (row : Row) (refusal : ℕ × ℕ) → (k : IsLabelled source labels p) → rows_at p ≡ row ∷ left → row_refusal k.before row.number row.form ≡ Some refusal → first_refusal [] (rows_in source) ≡ Some refusal
refused_here source labels p left row refusal k is h = k.refusal ∙ refused_next k.before (rows_at p) left row (Some refusal) is h

pub labelled_next : (source : List ℕ) (old new : BTreeMap (Bor (List ℕ)) ℕ) (p q : Place) (row : Row) → (k : IsLabelled source old p) → rows_at p ≡ row ∷ rows_at q → end_at q ≡ end_at p → IsRoomy q → row_refusal k.before row.number row.form ≡ None → HasLabels new (k.before ++ row ∷ []) → IsLabelled source new q
labelled_next source old new p q row k is ends room ok has = record {
  before = k.before ++ row ∷ [];
  rows = k.rows ∙ ap (λ rows. k.before ++ rows) is ∙ sym (append_assoc k.before (row ∷ []) (rows_at q));
  refusal = k.refusal ∙ refused_next k.before (rows_at p) (rows_at q) row None is ok;
  has = has;
  ends = ends ∙ k.ends;
  room = room;
}

pub labelled_end : (source : List ℕ) (labels : BTreeMap (Bor (List ℕ)) ℕ) (p : Place) → IsLabelled source labels p → rows_at p ≡ [] → (first_refusal [] (rows_in source) ≡ None) × HasLabels labels (rows_in source) × (p.at ≡ end_of source) × (p.at ≤ flat_entry + 3 * 16777216)
labelled_end source labels p k is =
    let all : rows_in source ≡ k.before = k.rows ∙ ap (λ rows. k.before ++ rows) is ∙ append-nil k.before in
    let none : end_at p ≡ p.at + 0 = ap (λ rows. p.at + size_of_rows rows) is in
    let ends : end_at p ≡ end_of source = k.ends in
    let few : end_at p ≤ flat_entry + 3 * 16777216 = k.room.bytes in
    (k.refusal ∙ ap (first_refusal k.before) is, subst (HasLabels labels) (sym all) k.has, omega (arith, none, ends), omega (arith, none, few))

-- ---- bytes

-- the rows before a place go to labels that are there, and their bytes stand behind what was there first
pub record IsWritten (source first out : List ℕ) (p : Place) : Type 0 where
  pub unknown : first_unknown (rows_in source) (rows_in source) ≡ first_unknown (rows_in source) (rows_at p)
  pub bytes : out ++ bytes_of (rows_in source) (rows_at p) ≡ first ++ bytes_of (rows_in source) (rows_in source)
  pub room : IsRoomy p

unknown_next : (all rows left : List Row) (row : Row) (r : Refusal) → rows ≡ row ∷ left → use_refusal all row.number row.form ≡ r → first_unknown all rows ≡ or_later r (first_unknown all left)
unknown_next all rows left row r is h = ap (first_unknown all) is ∙ ap (λ (x : Refusal). or_later x (first_unknown all left)) h

pub unknown_here : (source first out : List ℕ) (p : Place) (left : List Row) (row : Row) (refusal : ℕ × ℕ) → IsWritten source first out p → rows_at p ≡ row ∷ left → use_refusal (rows_in source) row.number row.form ≡ Some refusal → first_unknown (rows_in source) (rows_in source) ≡ Some refusal
unknown_here source first out p left row refusal k is h = k.unknown ∙ unknown_next (rows_in source) (rows_at p) left row (Some refusal) is h

pub written_next : (source first old new : List ℕ) (p q : Place) (row : Row) → IsWritten source first old p → rows_at p ≡ row ∷ rows_at q → IsRoomy q → use_refusal (rows_in source) row.number row.form ≡ None → new ≡ old ++ bytes_in row.form row.at (goes_to (rows_in source) row.form) → IsWritten source first new q
written_next source first old new p q row k is room ok put =
    let some = bytes_in row.form row.at (goes_to (rows_in source) row.form) in
    record {
      unknown = k.unknown ∙ unknown_next (rows_in source) (rows_at p) (rows_at q) row None is ok;
      bytes =
          ap (λ b. b ++ bytes_of (rows_in source) (rows_at q)) put
          ∙ append_assoc old some (bytes_of (rows_in source) (rows_at q))
          ∙ ap (λ rows. old ++ bytes_of (rows_in source) rows) (sym is)
          ∙ k.bytes;
      room = room;
    }

pub written_end : (source first out : List ℕ) (p : Place) → IsWritten source first out p → rows_at p ≡ [] → (first_unknown (rows_in source) (rows_in source) ≡ None) × (out ≡ first ++ bytes_of (rows_in source) (rows_in source))
written_end source first out p k is = (
  k.unknown ∙ ap (first_unknown (rows_in source)) is,
  sym (append-nil out) ∙ ap (λ rows. out ++ bytes_of (rows_in source) rows) (sym is) ∙ k.bytes,
)

-- ---- the whole

pub refused_first : (source : List ℕ) (refusal : ℕ × ℕ) → first_refusal [] (rows_in source) ≡ Some refusal → assembled source ≡ Err refusal
unfolding assembled
refused_first source refusal h = ap (λ r. refused_or r (refused_or (first_unknown (rows_in source) (rows_in source)) (file_of (bytes_of (rows_in source) (rows_in source))))) h

pub refused_then : (source : List ℕ) (refusal : ℕ × ℕ) → first_refusal [] (rows_in source) ≡ None → first_unknown (rows_in source) (rows_in source) ≡ Some refusal → assembled source ≡ Err refusal
unfolding assembled
refused_then source refusal ok h =
    ap (λ r. refused_or r (refused_or (first_unknown (rows_in source) (rows_in source)) (file_of (bytes_of (rows_in source) (rows_in source))))) ok
    ∙ ap (λ r. refused_or r (file_of (bytes_of (rows_in source) (rows_in source)))) h

pub not_refused : (source : List ℕ) → first_refusal [] (rows_in source) ≡ None → first_unknown (rows_in source) (rows_in source) ≡ None → assembled source ≡ file_of (bytes_of (rows_in source) (rows_in source))
unfolding assembled
not_refused source ok known =
    ap (λ r. refused_or r (refused_or (first_unknown (rows_in source) (rows_in source)) (file_of (bytes_of (rows_in source) (rows_in source))))) ok
    ∙ ap (λ r. refused_or r (file_of (bytes_of (rows_in source) (rows_in source)))) known

-- the file of code, by whether it is none
abbrev file_by : Bool → List ℕ → Result (List ℕ) (ℕ × ℕ)
file_by t code = if t then Err (44, 0) else Ok (flat_file code)

file_none : (code : List ℕ) → length code ≡ 0 → file_of code ≡ Err (44, 0)
file_none code none = ap (λ t. file_by t code) (eq-eqb (length code) 0 none)

file_some : (code : List ℕ) → (length code ≡ 0 → ⊥) → file_of code ≡ Ok (flat_file code)
file_some code some = ap (λ t. file_by t code) (ne_eqb (length code) 0 some)

pub no_code : (source : List ℕ) (past : ℕ) → length (bytes_of (rows_in source) (rows_in source)) ≡ size_of_rows (rows_in source) → past ≡ end_of source → past - flat_entry ≡ 0 → file_of (bytes_of (rows_in source) (rows_in source)) ≡ Err (44, 0)
no_code source past sized is none = file_none (bytes_of (rows_in source) (rows_in source)) (omega (arith, sized, is, none))

-- the headers of a file and its code
headed_then : (size : ℕ) (rest : List ℕ) → headed size [] ++ rest ≡ headed size rest
unfolding word_bytes
headed_then size rest = refl

is_file : (size : ℕ) (code out : List ℕ) → size ≡ flat_length code → out ≡ headed size [] ++ code → flat_file code ≡ out
unfolding flat_file
is_file size code out is put = ap (λ n. headed n code) (sym is) ∙ sym (headed_then size code) ∙ sym put

pub some_code : (source out : List ℕ) (past : ℕ) → length (bytes_of (rows_in source) (rows_in source)) ≡ size_of_rows (rows_in source) → past ≡ end_of source → (past - flat_entry ≡ 0 → ⊥) → out ≡ headed (84 + (past - flat_entry)) [] ++ bytes_of (rows_in source) (rows_in source) → file_of (bytes_of (rows_in source) (rows_in source)) ≡ Ok out
some_code source out past sized is some put =
    let code = bytes_of (rows_in source) (rows_in source) in
    let full : length code ≡ 0 → ⊥ = λ e. some (omega (arith, sized, is, e)) in
    file_some code full ∙ ap Ok (is_file (84 + (past - flat_entry)) code out (omega (arith, sized, is)) put)

-- a refusal of either pass is that of the source
pub refused_early : (source : List ℕ) (error : AsmError) → FindsLabels (Err error) source → IsRefused error source
refused_early source (Refused number line) h = refused_first source (number, line) h
refused_early source Memory h = tt

pub refused_late : (source : List ℕ) (error : AsmError) (P : Unit {0} → Type 0) → first_refusal [] (rows_in source) ≡ None → Judged (Err error) (first_unknown (rows_in source) (rows_in source)) P → IsRefused error source
refused_late source (Refused number line) P ok h = refused_then source (number, line) ok h
refused_late source Memory P ok h = tt
