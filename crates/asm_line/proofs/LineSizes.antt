-- How many bytes a line gives.
use Rattle.std.proofs.Common.{◌≡◌, ℕ, ◌+◌, ◌-◌, ◌*◌, ◌/◌, ◌<◌, ◌≤◌, true, leb, ltb, eqb, List, [], ◌∷◌, ◌++◌, length, get_or, take, drop, Some, refl, ap, ◌∙◌, arith, append_assoc, length-append, length-drop}
use Rattle.std.proofs.lemmas.List.{append-nil, length-take}
use Rattle.std.proofs.Math.Seq.{take-length}
use Rattle.std.specs.Prelude.{codes}
use Rattle.std.specs.Str.{bytes_eq}
use Rattle.std.proofs.lemmas.Bool.{and_parts, leb-true}
use Rattle.std.proofs.lemmas.Slice.Eq.{bytes_eq-Decides}
use Rattle.ia_inst.specs.Canonical.{canonical}
use Rattle.ia_inst.proofs.Written.{canonical_short}
use Rattle.asm_inst.specs.Names.{split_at}
use Rattle.asm_inst.specs.Shapes.{WHOLE, STRINGS, ONES, SETS, JUMPS, ALUS, TWOS, MOVES, whole_of, one_of, two_of, one_inst, two_inst, after_space, one_operand_of, two_operands_of, operands_of, raw_of, checked, read_of}
use Rattle.asm_inst.proofs.Options.{Holds, holds_some, holds_more, holds_bind, holds_or, holds_if}
use Rattle.asm_inst.proofs.Splits.{split_read}
use Rattle.asm_inst.proofs.Words.{tested}
use Rattle.asm_line.specs.declared.transfers.Transfer.{Transfer}
use Rattle.asm_line.specs.declared.transfers.Transfer.TheVariants.{Jcc, Jmp, Call}
use Rattle.asm_line.specs.Forms.{Form, Nothing, Label, Bytes, Stands, Goes, behind, before, is_label, are_digits, value_of, values, instruction_of, size_of_transfer, transfer_of, label_line, byte_line, transfer_line, instruction_line, statement_of, form_of, size_of_form, bytes_of_form}
use Rattle.asm_line.specs.Laws.{FormsAreShort, FormsAreSized}
use Rattle.asm_line.proofs.LineTexts.{holds_any}
use Rattle.asm_line.proofs.LineForms.{holds_choice}

-- ---- how long the text of an instruction is

one_long : (s : List ℕ) → Holds (λ o. 2 ≤ length s) (one_of s)
unfolding one_of
one_long s =
    holds_more (one_of s) (holds_or _ _ (tested (λ s o. leb 2 (length s)) ONES s refl) (holds_or _ _ (tested (λ s o. leb 2 (length s)) SETS s refl) (tested (λ s o. leb 2 (length s)) JUMPS s refl)))
    (λ o h. leb-true 2 (length s) h)

two_long : (s : List ℕ) → Holds (λ t. 2 ≤ length s) (two_of s)
unfolding two_of
two_long s =
    holds_more (two_of s) (holds_or _ _ (tested (λ s o. leb 2 (length s)) ALUS s refl) (holds_or _ _ (tested (λ s o. leb 2 (length s)) TWOS s refl) (tested (λ s o. leb 2 (length s)) MOVES s refl)))
    (λ o h. leb-true 2 (length s) h)

whole_long : (s : List ℕ) → Holds (λ i. 3 ≤ length s) (whole_of s)
unfolding whole_of
whole_long s =
    holds_more (whole_of s) (holds_or _ _ (tested (λ s o. leb 3 (length s)) WHOLE s refl) (tested (λ s o. leb 3 (length s)) STRINGS s refl)) (λ o h. leb-true 3 (length s) h)

one_operand_long : (name a : List ℕ) (at : ℕ) → Holds (λ i. 2 ≤ length name) (one_operand_of name a at)
unfolding one_operand_of
one_operand_long name a at =
    holds_bind (one_of name) _ (one_long name) (λ o h. holds_more (one_inst o a at) (holds_any (one_inst o a at)) (λ i u. h))

two_operands_long : (name s : List ℕ) → Holds (λ i. 2 ≤ length name) (two_operands_of name s)
unfolding two_operands_of
two_operands_long name s =
    holds_bind (split_at 44 s) _ (holds_any (split_at 44 s)) (λ p u.
    holds_bind (after_space p.1) _ (holds_any (after_space p.1)) (λ b u.
    holds_bind (two_of name) _ (two_long name) (λ t h. holds_more (two_inst t p.0 b) (holds_any (two_inst t p.0 b)) (λ i u. h))))

behind_space : (s name rest : List ℕ) → s ≡ name ++ (32 ∷ rest) → 2 ≤ length name → 3 ≤ length s
behind_space s name rest e l = omega (arith, ap length e ∙ length-append name (32 ∷ rest))

raw_long : (s : List ℕ) (at : ℕ) → Holds (λ i. 3 ≤ length s) (raw_of s at)
unfolding raw_of operands_of
raw_long s at =
    holds_or _ _ (holds_bind (split_at 32 s) _ (split_read 32 s) (λ p e.
    holds_or _ _ (holds_more (two_operands_of p.0 p.1) (two_operands_long p.0 p.1) (λ i h. behind_space s p.0 p.1 e h))
    (holds_more (one_operand_of p.0 p.1 at) (one_operand_long p.0 p.1 at) (λ i h. behind_space s p.0 p.1 e h))))
    (whole_long s)

read_long : (s : List ℕ) (at : ℕ) → Holds (λ i. 3 ≤ length s) (read_of s at)
unfolding read_of
read_long s at = holds_bind (raw_of s at) _ (raw_long s at) (λ i h. holds_more (checked i) (holds_any (checked i)) (λ j u. h))

-- ---- digits

pub values_short : (ds : List ℕ) → 2 * length (values ds) ≤ length ds
unfolding values
values_short [] = omega arith
values_short (a ∷ []) = omega arith
values_short (a ∷ b ∷ ds) = let h = values_short ds in omega (arith, h)

pub values_length : (ds : List ℕ) → length (values ds) ≡ length ds / 2
unfolding values
values_length [] = refl
values_length (a ∷ []) = refl
values_length (a ∷ b ∷ ds) = let h = values_length ds in omega (arith, h)

pub digits_few : (ds : List ℕ) → are_digits ds ≡ true → length ds ≤ 128
unfolding are_digits
digits_few ds h =
    let p = and_parts (ltb 0 (length ds)) _ h in
    leb-true (length ds) 128 ((and_parts (leb (length ds) 128) _ p.1).0)

-- one byte more is put
pub put_step : (o n ds w : List ℕ) (x y : ℕ) → 2 ≤ length ds → x ≡ value_of (get_or ds 0 0) → y ≡ value_of (get_or ds 1 0) → n ≡ o ++ ((x * 16 + y) ∷ []) → o ++ values ds ≡ w → n ++ values (take (length ds - 2) (drop 2 ds)) ≡ w
unfolding values
put_step o n [] w x y l p q e h = absurd (omega arith)
put_step o n (a ∷ []) w x y l p q e h = absurd (omega arith)
put_step o n (a ∷ b ∷ ds) w x y l p q e h =
    let left : length (a ∷ b ∷ ds) - 2 ≡ length ds = omega arith in
    let tail : take (length (a ∷ b ∷ ds) - 2) ds ≡ ds = ap (λ k. take k ds) left ∙ take-length ds in
    (λ i. e i ++ values (tail i)) ∙ append_assoc o ((x * 16 + y) ∷ []) (values ds) ∙ (λ i. o ++ ((p i * 16 + q i) ∷ values ds)) ∙ h

pub put_all : (o ds : List ℕ) → length ds < 2 → o ++ values ds ≡ o
unfolding values
put_all o [] l = append-nil o
put_all o (a ∷ []) l = append-nil o
put_all o (a ∷ b ∷ ds) l = absurd (omega arith)

-- ---- parts of a line

behind_length : (word s : List ℕ) → take (length word) s ≡ word → length (drop (length word) s) + length word ≡ length s
behind_length word s e = omega (arith, ap length e, length-take (length word) s, length-drop (length word) s)

prefix_long : (word s : List ℕ) → Holds (λ t. length t + length word ≡ length s) (behind word s)
prefix_long word s =
    holds_if (bytes_eq (take (length word) s) word) (Some (drop (length word) s)) (λ e.
    holds_some (drop (length word) s) (behind_length word s ((bytes_eq-Decides (take (length word) s) word).0 e)))

-- ---- lines

abbrev IsShort : ℕ → Form → Type 0
IsShort n f = size_of_form f ≤ n

label_short : (s : List ℕ) → Holds (IsShort 0) (label_line s)
unfolding size_of_form
label_short s =
    holds_bind (before (codes ":") s) _ (holds_any (before (codes ":") s)) (λ name u.
    holds_if (is_label name) (Some (Label name)) (λ l. holds_some (Label name) (omega arith)))

byte_short : (t : List ℕ) → Holds (IsShort (length t)) (byte_line t)
unfolding size_of_form
byte_short t =
    holds_bind (behind (codes "byte ") t) _ (prefix_long (codes "byte ") t) (λ ds e.
    holds_if (are_digits ds) (Some (Bytes ds)) (λ h. holds_some (Bytes ds) (omega (arith, values_short ds, e))))

transfer_size : (kind : Transfer) → size_of_transfer kind ≤ 6
transfer_size (Jcc c) = omega arith
transfer_size Jmp = omega arith
transfer_size Call = omega arith

transfer_short : (t : List ℕ) → Holds (IsShort 6) (transfer_line t)
unfolding size_of_form
transfer_short t =
    holds_bind (split_at 32 t) _ (holds_any (split_at 32 t)) (λ p u.
    holds_bind (one_of p.0) _ (holds_any (one_of p.0)) (λ o u.
    holds_bind (transfer_of o) _ (holds_any (transfer_of o)) (λ kind u.
    holds_if (is_label p.1) (Some (Goes kind p.1)) (λ l. holds_some (Goes kind p.1) (transfer_size kind)))))

instruction_short : (t : List ℕ) (at : ℕ) → Holds (IsShort (6 + 3 * length t)) (instruction_line t at)
unfolding size_of_form
instruction_short t at =
    holds_bind (read_of t at) _ (read_long t at) (λ i h. holds_some (Stands i) (omega (arith, canonical_short i, h)))

statement_short : (t : List ℕ) (at : ℕ) → Holds (IsShort (6 + 3 * length t)) (statement_of t at)
statement_short t at =
    holds_or _ _ (holds_more (byte_line t) (byte_short t) (λ f h. omega (arith, h)))
    (holds_or _ _ (holds_more (transfer_line t) (transfer_short t) (λ f h. omega (arith, h))) (instruction_short t at))

form_short : (line : List ℕ) (at : ℕ) → Holds (IsShort (3 * length line)) (form_of line at)
unfolding form_of size_of_form
form_short line at =
    holds_choice (eqb (length line) 0) (Some Nothing) _ (holds_some Nothing (omega arith))
    (holds_or _ _ (holds_more (label_line line) (label_short line) (λ f h. omega (arith, h)))
    (holds_bind (behind (codes "  ") line) _ (prefix_long (codes "  ") line) (λ t e.
    holds_more (statement_of t at) (statement_short t at) (λ f h. omega (arith, h, e)))))

pub forms_are_short : FormsAreShort
forms_are_short line at f e = (form_short line at).read f e

-- ---- the bytes of a form

transfer_sized : (kind : Transfer) (at to : ℕ) → length (canonical (instruction_of kind at to)) ≡ size_of_transfer kind
transfer_sized (Jcc c) at to = refl
transfer_sized Jmp at to = refl
transfer_sized Call at to = refl

pub forms_are_sized : FormsAreSized
unfolding size_of_form bytes_of_form
forms_are_sized Nothing at to = refl
forms_are_sized (Label name) at to = refl
forms_are_sized (Bytes ds) at to = refl
forms_are_sized (Stands i) at to = refl
forms_are_sized (Goes kind name) at to = transfer_sized kind at to
