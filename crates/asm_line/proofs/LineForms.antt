-- The form of a line can be written.
use Rattle.std.proofs.Common.{◌≡◌, ℕ, Bool, true, false, cond, eqb, List, length, Option, Some, None, refl, sym, IfSome}
use Rattle.std.specs.Prelude.{codes, IsTrue}
use Rattle.std.specs.Option.{option_map}
use Rattle.std.proofs.lemmas.Bool.{and_from}
use Rattle.asm_inst.specs.declared.mnemonics.One.{One}
use Rattle.asm_inst.specs.declared.mnemonics.One.TheVariants as one
use Rattle.asm_inst.specs.Names.{split_at}
use Rattle.asm_inst.specs.Shapes.{one_of, one_ok, read_of}
use Rattle.asm_inst.proofs.Options.{Holds, holds_none, holds_some, holds_bind, holds_or, holds_if}
use Rattle.asm_inst.proofs.Reading.{read_sound}
use Rattle.asm_inst.proofs.Words.{one_ok_read}
use Rattle.asm_line.specs.declared.transfers.Transfer.TheVariants.{Jcc, Jmp, Call}
use Rattle.asm_line.specs.declared.lines.Form as read
use Rattle.asm_line.specs.Forms.{Form, formed, Nothing, Label, Bytes, Stands, Goes, behind, before, is_label, are_digits, transfer_of, is_transfer, is_form, label_line, byte_line, transfer_line, instruction_line, statement_of, form_of}
use Rattle.asm_line.specs.Laws.{FormsAreValid}
use Rattle.asm_line.proofs.LineTexts.{holds_any}

abbrev IsForm : Form → Type 0
IsForm f = is_form f ≡ true

pub label_form : (s : List ℕ) → Holds IsForm (label_line s)
label_form s =
    holds_bind (before (codes ":") s) _ (holds_any (before (codes ":") s)) (λ name u.
    holds_if (is_label name) (Some (Label name)) (λ l. holds_some (Label name) l))

byte_form : (t : List ℕ) → Holds IsForm (byte_line t)
byte_form t =
    holds_bind (behind (codes "byte ") t) _ (holds_any (behind (codes "byte ") t)) (λ ds u.
    holds_if (are_digits ds) (Some (Bytes ds)) (λ h. holds_some (Bytes ds) h))

transfer_ok : (o : One) → one_ok o ≡ true → Holds (λ kind. is_transfer kind ≡ true) (transfer_of o)
transfer_ok one.Inc h = holds_none
transfer_ok one.Dec h = holds_none
transfer_ok one.Not h = holds_none
transfer_ok one.Neg h = holds_none
transfer_ok one.Push h = holds_none
transfer_ok one.Pop h = holds_none
transfer_ok (one.MulDiv k) h = holds_none
transfer_ok one.Jmp h = holds_some Jmp refl
transfer_ok one.Call h = holds_some Call refl
transfer_ok one.Ret h = holds_none
transfer_ok (one.Set c) h = holds_none
transfer_ok (one.Jcc c) h = holds_some (Jcc c) h

transfer_form : (t : List ℕ) → Holds IsForm (transfer_line t)
transfer_form t =
    holds_bind (split_at 32 t) _ (holds_any (split_at 32 t)) (λ p u.
    holds_bind (one_of p.0) _ (one_ok_read p.0) (λ o h.
    holds_bind (transfer_of o) _ (transfer_ok o h) (λ kind k.
    holds_if (is_label p.1) (Some (Goes kind p.1)) (λ l. holds_some (Goes kind p.1) (and_from (is_transfer kind) (is_label p.1) k l)))))

instruction_form : (t : List ℕ) (at : ℕ) → Holds IsForm (instruction_line t at)
instruction_form t at = holds_bind (read_of t at) _ (read_sound t at) (λ i h. holds_some (Stands i) h.0)

statement_form : (t : List ℕ) (at : ℕ) → Holds IsForm (statement_of t at)
statement_form t at = holds_or _ _ (byte_form t) (holds_or _ _ (transfer_form t) (instruction_form t at))

pub holds_choice : {A : Type 0} {P : A → Type 0} (b : Bool) (x y : Option A) → Holds P x → Holds P y → Holds P (cond b x y)
holds_choice true x y h k = h
holds_choice false x y h k = k

pub form_valid : (line : List ℕ) (at : ℕ) → Holds IsForm (form_of line at)
unfolding form_of
form_valid line at =
    holds_choice (eqb (length line) 0) (Some Nothing) _ (holds_some Nothing refl)
    (holds_or _ _ (label_form line) (holds_bind (behind (codes "  ") line) _ (holds_any (behind (codes "  ") line)) (λ t u. statement_form t at)))

pub forms_are_valid : FormsAreValid
forms_are_valid line at f e = (form_valid line at).read f e

-- of a form that was read
pub read_valid : (line : List ℕ) (at : ℕ) (r : Option read.Form) → option_map formed r ≡ form_of line at → IfSome r (λ f. IsTrue (is_form (formed f)))
read_valid line at None e = tt
read_valid line at (Some f) e = (form_valid line at).read (formed f) (sym e)
