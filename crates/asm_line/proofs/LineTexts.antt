-- Each form of a line is text.
use Rattle.std.proofs.Common.{◌≡◌, ℕ, ◌&&◌, not, true, false, leb, ltb, eqb, List, [], ◌∷◌, length, Option, Some, None, refl, sym, subst, ◌∙◌, inl, inr}
use Rattle.std.specs.List.{list_all}
use Rattle.std.specs.Option.{is_some}
use Rattle.std.specs.Str.{IsUtf8}
use Rattle.std.proofs.lemmas.Bool.{and_parts, and_from, or_cases, eqb-true}
use Rattle.std.proofs.lemmas.Str.{IsUtf8-from_ascii}
use Rattle.ia_inst.specs.declared.inst.Inst.{Inst}
use Rattle.ia_inst.specs.Canonical.{canonical}
use Rattle.ia_text.specs.Names.{register_name}
use Rattle.ia_text.specs.Text.{text_of}
use Rattle.asm_inst.specs.Names.{is_plain, split_at}
use Rattle.asm_inst.specs.Operands.{any_register, or_else}
use Rattle.asm_inst.specs.Shapes.{one_of, read_of}
use Rattle.asm_inst.proofs.AsciiTexts.{ascii, from_ascii, ascii_append, plain_ascii, plain_byte, texts_are_ascii}
use Rattle.asm_inst.proofs.NamesRead.{register_plain}
use Rattle.asm_inst.proofs.Options.{Holds, holds_some, holds_bind, holds_if, stops, second}
use Rattle.asm_inst.proofs.Places.{any_register_read}
use Rattle.asm_inst.proofs.Reading.{read_sound}
use Rattle.asm_inst.proofs.Splits.{split_read}
use Rattle.asm_inst.proofs.Words.{one_plain_read}
use Rattle.asm_line.specs.Forms.{Goes, is_name_byte, opens_name, is_register, is_label, transfer_of, transfer_line, instruction_line}

-- of whatever was read, nothing
pub holds_any : {A : Type 0} (o : Option A) → Holds (λ a. Unit {0}) o
holds_any o = record { read = λ a e. tt }

pub none_of : {A : Type 0} (o : Option A) → ((a : A) → o ≡ Some a → ⊥) → o ≡ None
none_of None h = refl
none_of (Some a) h = absurd (h a refl)

text : (s : List ℕ) → ascii s ≡ true → IsUtf8 s
text s h = IsUtf8-from_ascii s (λ i. from_ascii s i h)

-- ---- registers

register_ascii : (s : List ℕ) → Holds (λ r. ascii s ≡ true) (any_register s)
register_ascii s = record {
  read = λ r e.
      let h = (any_register_read s).read r e in
      subst (λ (t : List ℕ). ascii t ≡ true) (sym h.1) (plain_ascii (register_name r.0 r.1) (register_plain r.0 r.1 h.0));
}

some_is : {A : Type 0} (o : Option A) → o ≡ None → is_some o ≡ false
some_is None e = refl
some_is (Some a) e = cc

-- what is no text names no register
pub no_register : (s : List ℕ) → (IsUtf8 s → ⊥) → is_register s ≡ false
no_register s n = some_is (any_register s) (none_of (any_register s) (λ r e. n (text s ((register_ascii s).read r e))))

-- ---- labels

name_ascii : (x : ℕ) → is_name_byte x ≡ true → ltb x 128 ≡ true
name_ascii x h = elim (or_cases (is_plain x) (eqb x 95) h) [
  | inl p ↦ plain_byte x p
  | inr e ↦ subst (λ (y : ℕ). ltb y 128 ≡ true) (sym (eqb-true x 95 e)) refl
]

names_ascii : (s : List ℕ) → list_all is_name_byte s ≡ true → ascii s ≡ true
names_ascii [] h = refl
names_ascii (x ∷ xs) h =
    let p = and_parts (is_name_byte x) (list_all is_name_byte xs) h in
    and_from (ltb x 128) (ascii xs) (name_ascii x p.0) (names_ascii xs p.1)

label_ascii : (s : List ℕ) → is_label s ≡ true → ascii s ≡ true
unfolding is_label
label_ascii s h =
    let p = and_parts (opens_name s) (leb (length s) 64 && (list_all is_name_byte s && not (is_register s))) h in
    let q = and_parts (leb (length s) 64) (list_all is_name_byte s && not (is_register s)) p.1 in
    names_ascii s ((and_parts (list_all is_name_byte s) (not (is_register s)) q.1).0)

-- ---- statements

transfer_ascii : (t : List ℕ) → Holds (λ f. ascii t ≡ true) (transfer_line t)
transfer_ascii t =
    holds_bind (split_at 32 t) _ (split_read 32 t) (λ p e.
    holds_bind (one_of p.0) _ (one_plain_read p.0) (λ o h.
    holds_bind (transfer_of o) _ (holds_any (transfer_of o)) (λ kind u.
    holds_if (is_label p.1) (Some (Goes kind p.1)) (λ l.
    holds_some (Goes kind p.1) (subst (λ (s : List ℕ). ascii s ≡ true) (sym e) (ascii_append p.0 (32 ∷ p.1) (plain_ascii p.0 h) (label_ascii p.1 l)))))))

instruction_text : (t : List ℕ) (at : ℕ) (i : Inst) → read_of t at ≡ Some i → IsUtf8 t
instruction_text t at i e =
    let h = (read_sound t at).read i e in
    subst IsUtf8 (sym h.1) (IsUtf8-from_ascii (text_of i at (length (canonical i))) (texts_are_ascii i at h.0))

-- what is no text is no statement
pub no_statement : (t : List ℕ) (at : ℕ) → (IsUtf8 t → ⊥) → or_else (transfer_line t) (instruction_line t at) ≡ None
no_statement t at n =
    second _ _ (none_of (transfer_line t) (λ f e. n (text t ((transfer_ascii t).read f e))))
    ∙ stops _ _ (none_of (read_of t at) (λ i e. n (instruction_text t at i e)))
