-- What is found in the file of rows.
use Rattle.std.proofs.Common.{◌≡◌, ◌+◌, ◌*◌, ◌<◌, ◌≤◌, ℕ, zero, suc, Bool, true, false, List, [], ◌∷◌, ◌++◌, length, drop, get_or, Option, Some, None, refl, ◌∙◌, ap, sym, subst, arith, length-append}
use Rattle.std.specs.Prelude.{IsTrue, IfSome, Result, Ok, Err, nat_eq, if◌then◌else◌}
use Rattle.std.proofs.lemmas.Bool.{and_parts, eqb-false}
use Rattle.std.proofs.lemmas.List.Elements.{All-nil, All-append}
use Rattle.br_word.specs.Memory.{AreBytes}
use Rattle.ia_inst.specs.declared.inst.Inst.{Inst}
use Rattle.ia_inst.specs.Canonical.{valid_of, canonical}
use Rattle.ia_inst.specs.Instructions.{decode_of}
use Rattle.ia_inst.specs.Step.{NoCode, There, found_from}
use Rattle.elf_read.specs.declared.exe.Reach.TheVariants.{Original}
use Rattle.elf_read.specs.Elf.{is_exec, elf}
use Rattle.elf_read.specs.Code.{code_at}
use Rattle.block_cut.specs.Places.{found_at}
use Rattle.elf_flat.specs.Flat.{flat_entry, flat_file, flat_exe, FlatAccepted, IsFlatAccepted}
use Rattle.script_text.specs.Split.{lines_of}
use Rattle.asm_line.specs.Forms.{Form, Nothing, Label, Bytes, Stands, Goes, is_form, is_label, is_transfer, form_of, bytes_of_form, instruction_of}
use Rattle.asm_line.specs.Laws.{FormsAreValid, FormsAreShort, FormsAreSized, FormsGiveBytes, TransfersAreValid}
use Rattle.asm_text.specs.Source.{Row, Refusal, rows_of, rows_in, size_in, goes_to, bytes_in, bytes_of, first_refusal, first_unknown, refused_or, file_of, assembled}
use Rattle.asm_text.specs.Law.{inst_in, IsAssembled}
use Rattle.asm_text.specs.Reads.{size_of_rows}
use Rattle.asm_text.proofs.Lines.{rows_short}

-- it has no form, or one whose bytes can be written
abbrev IsGoodForm : Option Form → Type 0
IsGoodForm form = IfSome form (λ f. IsTrue (is_form f))

good : FormsAreValid → (line : List ℕ) (at : ℕ) (form : Option Form) → form ≡ form_of line at → IsGoodForm form
good valid line at None h = tt
good valid line at (Some f) h = valid line at f (sym h)

-- ---- how many bytes rows give, and that they are bytes

sized_in : FormsAreSized → (form : Option Form) (at to : ℕ) → length (bytes_in form at to) ≡ size_in form
sized_in sized None at to = refl
sized_in sized (Some f) at to = sized f at to

pub code_size : FormsAreSized → (all rows : List Row) → length (bytes_of all rows) ≡ size_of_rows rows
code_size sized all [] = refl
code_size sized all (row ∷ rows) =
    let a : length (bytes_in row.form row.at (goes_to all row.form)) ≡ size_in row.form = sized_in sized row.form row.at (goes_to all row.form) in
    let b : length (bytes_of all rows) ≡ size_of_rows rows = code_size sized all rows in
    let l : length (bytes_in row.form row.at (goes_to all row.form) ++ bytes_of all rows) ≡ length (bytes_in row.form row.at (goes_to all row.form)) + length (bytes_of all rows) = length-append (bytes_in row.form row.at (goes_to all row.form)) (bytes_of all rows) in
    omega (arith, a, b, l)

bytes_good : FormsGiveBytes → (form : Option Form) (at to : ℕ) → IsGoodForm form → AreBytes (bytes_in form at to)
bytes_good gives None at to h = All-nil (λ b. b < 256)
bytes_good gives (Some f) at to h = gives f at to h

code_bytes : FormsAreValid → FormsGiveBytes → (all : List Row) (number at : ℕ) (lines : List (List ℕ)) → AreBytes (bytes_of all (rows_of number at lines))
code_bytes valid gives all number at [] = All-nil (λ b. b < 256)
code_bytes valid gives all number at (line ∷ lines) =
    All-append (λ b. b < 256) (bytes_in (form_of line at) at (goes_to all (form_of line at))) (bytes_of all (rows_of (number + 1) (at + size_in (form_of line at)) lines))
    (bytes_good gives (form_of line at) at (goes_to all (form_of line at)) (good valid line at (form_of line at) refl))
    (code_bytes valid gives all (number + 1) (at + size_in (form_of line at)) lines)

-- ---- where the bytes of a row stand

record IsPut (all : List Row) (at : ℕ) (row : Row) (code : List ℕ) : Type 0 where
  pub off : ℕ
  pub rest : List ℕ
  pub place : row.at ≡ at + off
  pub spelled : drop off code ≡ bytes_in row.form row.at (goes_to all row.form) ++ rest
  pub inside : off + length (bytes_in row.form row.at (goes_to all row.form)) ≤ length code
  pub good : IsGoodForm row.form

drop-behind : (off : ℕ) (xs ys : List ℕ) → drop (length xs + off) (xs ++ ys) ≡ drop off ys
drop-behind off [] ys = let e : 0 + off ≡ off = omega arith in ap (λ n. drop n ys) e
drop-behind off (x ∷ xs) ys = let e : suc (length xs) + off ≡ suc (length xs + off) = omega arith in ap (λ n. drop n (x ∷ (xs ++ ys))) e ∙ drop-behind off xs ys

row_put : FormsAreValid → FormsAreSized → (all : List Row) (number at : ℕ) (lines : List (List ℕ)) (row : Row) (k : ℕ) → k < length (rows_of number at lines) → get_or (rows_of number at lines) k row ≡ row → IsPut all at row (bytes_of all (rows_of number at lines))
row_put valid sized all number at [] row k few is = absurd (omega (arith, few))
row_put valid sized all number at (line ∷ lines) row zero few is =
    let rest = bytes_of all (rows_of (number + 1) (at + size_in (form_of line at)) lines) in
    let first = bytes_in (form_of line at) at (goes_to all (form_of line at)) in
    let l : length (first ++ rest) ≡ length first + length rest = length-append first rest in
    subst (λ (r : Row). IsPut all at r (first ++ rest)) is (record {
      off = 0;
      rest = rest;
      place = omega arith;
      spelled = refl;
      inside = omega (arith, l);
      good = good valid line at (form_of line at) refl;
    })
row_put valid sized all number at (line ∷ lines) row (suc k) few is =
    let size = size_in (form_of line at) in
    let rest = bytes_of all (rows_of (number + 1) (at + size) lines) in
    let first = bytes_in (form_of line at) at (goes_to all (form_of line at)) in
    let p : IsPut all (at + size) row rest = row_put valid sized all (number + 1) (at + size) lines row k (omega (arith, few)) is in
    let s : length first ≡ size = sized_in sized (form_of line at) at (goes_to all (form_of line at)) in
    let l : length (first ++ rest) ≡ length first + length rest = length-append first rest in
    let q : row.at ≡ at + size + p.off = p.place in
    let i : p.off + length (bytes_in row.form row.at (goes_to all row.form)) ≤ length rest = p.inside in
    record {
      off = length first + p.off;
      rest = p.rest;
      place = omega (arith, s, q);
      spelled = drop-behind p.off first rest ∙ p.spelled;
      inside = omega (arith, l, i);
      good = p.good;
    }

-- ---- what is found there

abbrev pub ReadsBack : Type 0
ReadsBack = (i : Inst) (rest : List ℕ) → IsTrue (valid_of i) → decode_of (canonical i ++ rest) ≡ Some (i, length (canonical i))

-- a spelling has a byte
abbrev pub HaveBytes : Type 0
HaveBytes = (bs : List ℕ) (i : Inst) (n : ℕ) → decode_of bs ≡ Some (i, n) → (1 ≤ n) × (n ≤ 15) × (n ≤ length bs)

found_here : (code : List ℕ) → IsFlatAccepted code → ReadsBack → HaveBytes → (i : Inst) (at off : ℕ) (rest : List ℕ) → IsTrue (valid_of i) → at ≡ flat_entry + off → drop off code ≡ canonical i ++ rest → off + length (canonical i) ≤ length code → found_at (flat_exe code) at ≡ There i (length (canonical i))
unfolding found_at
found_here code flat back have i at off rest valid place spelled inside =
    let some : 1 ≤ length (canonical i) = (have (canonical i ++ []) i (length (canonical i)) (back i [] valid)).0 in
    let few : off < length code = omega (arith, some, inside) in
    ap (λ a. if is_exec a (flat_exe code).segments then found_from (decode_of (code_at a (flat_exe code).segments)) else NoCode) place
    ∙ ap (λ t. if t then found_from (decode_of (code_at (flat_entry + off) (flat_exe code).segments)) else NoCode) (flat.runs off few)
    ∙ ap (λ c. found_from (decode_of c)) (flat.stands off few ∙ spelled)
    ∙ ap found_from (back i rest valid)

form_found : TransfersAreValid → ReadsBack → HaveBytes → (code : List ℕ) → IsFlatAccepted code → (form : Option Form) (at to off : ℕ) (rest : List ℕ) → IsGoodForm form → at ≡ flat_entry + off → drop off code ≡ bytes_in form at to ++ rest → off + length (bytes_in form at to) ≤ length code → IfSome (inst_in form at to) (λ i. found_at (flat_exe code) at ≡ There i (length (canonical i)))
unfolding bytes_of_form
form_found transfers back have code flat None at to off rest h place spelled inside = tt
form_found transfers back have code flat (Some Nothing) at to off rest h place spelled inside = tt
form_found transfers back have code flat (Some (Label name)) at to off rest h place spelled inside = tt
form_found transfers back have code flat (Some (Bytes ds)) at to off rest h place spelled inside = tt
form_found transfers back have code flat (Some (Stands i)) at to off rest h place spelled inside = found_here code flat back have i at off rest h place spelled inside
form_found transfers back have code flat (Some (Goes kind name)) at to off rest h place spelled inside =
    found_here code flat back have (instruction_of kind at to) at off rest (transfers kind at to (and_parts (is_transfer kind) (is_label name) h).0) place spelled inside

-- ---- the whole

-- a file is that of the code, which is not empty
-- the file of code, by whether it is none
abbrev file_by : Bool → List ℕ → Result (List ℕ) (ℕ × ℕ)
file_by t code = if t then Err (44, 0) else Ok (flat_file code)

parts : (r u : Refusal) (code file : List ℕ) → refused_or r (refused_or u (file_of code)) ≡ Ok file → (0 < length code) × (flat_file code ≡ file)
parts (Some r) u code file h = absurd (cc)
parts None (Some u) code file h = absurd (cc)
parts None None code file h = by_test (nat_eq (length code) 0) refl h
  where
    by_test : (t : Bool) → nat_eq (length code) 0 ≡ t → file_by t code ≡ Ok file → (0 < length code) × (flat_file code ≡ file)
    by_test true e h = absurd (cc)
    by_test false e h = let some : length code ≡ 0 → ⊥ = eqb-false (length code) 0 e in (omega (arith, some), cc)

pub assembled_well : FormsAreValid → FormsAreShort → FormsAreSized → FormsGiveBytes → TransfersAreValid → ReadsBack → HaveBytes → FlatAccepted → (source file : List ℕ) → length source ≤ 16777216 → assembled source ≡ Ok file → IsAssembled source file
unfolding assembled
assembled_well valid short sized gives transfers back have flat source file few is =
    let rows = rows_in source in
    let code = bytes_of rows rows in
    let p : (0 < length code) × (flat_file code ≡ file) = parts (first_refusal [] rows) (first_unknown rows rows) code file is in
    let s : length code ≡ size_of_rows rows = code_size sized rows rows in
    let l : size_of_rows rows ≤ 3 * length source = rows_short short 1 flat_entry source in
    let f : IsFlatAccepted code = flat code (code_bytes valid gives rows 1 flat_entry (lines_of source)) p.0 (omega (arith, s, l, few)) in
    let long : length (flat_file code) ≡ 84 + length code = f.long in
    record {
      exe = flat_exe code;
      bytes = subst AreBytes p.1 f.bytes;
      short = subst (λ (b : List ℕ). length b ≤ 84 + 3 * length source) p.1 (omega (arith, s, l, long));
      reads = subst (λ (b : List ℕ). elf Original b ≡ Ok (flat_exe code)) p.1 (f.reads Original);
      entry = refl;
      finds = λ row c.
          let q : IsPut rows flat_entry row code = row_put valid sized rows 1 flat_entry (lines_of source) row c.0 c.1 c.2 in
          form_found transfers back have code f row.form row.at (goes_to rows row.form) q.off q.rest q.good q.place q.spelled q.inside;
    }
