-- What is spelled is read again, whatever follows: a case for each row.
use Rattle.std.proofs.Common.{◌≡◌, ℕ, ◌+◌, ◌*◌, ◌<◌, ◌≤◌, Bool, true, false, ◌==◌, List, [], ◌∷◌, ◌++◌, Some, refl, ◌∙◌, append_assoc, arith}
use Rattle.std.specs.Prelude.{nat_lt}
use Rattle.std.proofs.lemmas.Bool.Decides.{nat_tests}
use Rattle.ia_inst.specs.declared.inst.Rm.{Rm}
use Rattle.ia_inst.specs.declared.inst.Rm.TheVariants.{Reg}
use Rattle.ia_inst.specs.declared.inst.Src.TheVariants as src
use Rattle.ia_inst.specs.declared.inst.Inst.{Inst}
use Rattle.ia_inst.specs.declared.inst.Inst.TheVariants as inst
use Rattle.br_word.specs.declared.types.ShiftOp.{ShiftOp}
use Rattle.br_word.specs.declared.types.Width.{Width}
use Rattle.br_word.specs.declared.types.Width.TheVariants.{B8, B16, B32}
use Rattle.ia_inst.specs.Operands.{four, Operand}
use Rattle.ia_inst.specs.Spells as spells
use Rattle.ia_inst.specs.Spells.{size, pair, of_width, IsLong, imm, limit, Row, ShiftField, RotateField, AtMost, StringPrefix}
use Rattle.ia_inst.specs.declared.prefixes.Prefixes.{Prefixes}
use Rattle.ia_inst.specs.declared.prefixes.Prefixes.TheVariants.{Bare, Size, Repeat, SizeRepeat}
use Rattle.ia_inst.specs.declared.opcode.Opcode.{Opcode}
use Rattle.ia_inst.specs.declared.opcode.Opcode.TheVariants as opcode
use Rattle.ia_inst.specs.declared.opcode.Binary.{Binary}
use Rattle.ia_inst.specs.declared.opcode.Binary.TheVariants as binary
use Rattle.ia_inst.specs.declared.opcode.Constant.{Constant}
use Rattle.ia_inst.specs.declared.opcode.Constant.TheVariants as constant
use Rattle.ia_inst.specs.declared.opcode.Simple.TheVariants as simple
use Rattle.ia_inst.specs.declared.opcode.By.TheVariants as by
use Rattle.ia_inst.specs.declared.opcode.Second.TheVariants as second
use Rattle.ia_inst.specs.Reading.{byte_at}
use Rattle.ia_inst.specs.Prefixes.{string_of, prefixes_at}
use Rattle.ia_inst.specs.Opcodes.{opcode_of, second_of}
use Rattle.ia_inst.specs.Instructions.{binary_is, binary_at, constant_is, constant_at, alu_constant_at, mov_constant_at, absolute_at, lea_at, unary_at, step_at, by_at, shift_of, shift_at, multiply_at, alu_byte_at, pop_at, simple_at, hint_at, end_branch_at, extend_at, second_at, escape_at, opcode_at, behind_at, inst_at}
use Rattle.ia_decode.proofs.Readers.{four_again}
use Rattle.ia_decode.proofs.Operands.{operand_again}
use Rattle.ia_decode.proofs.PrefixesReadAgain.{each_8, each_16, behind_again, bare_again, class, is_byte, width_again, long_width, pair_again, long_again, two_again, imm_again, padding_again}

-- ---- opcodes of a family

alu_to : (w : Width) (k : ℕ) → k < 8 → opcode_of (of_width w (8 * k)) ≡ Some (opcode.Binary (binary.AluTo k) (is_byte w))
alu_to B8 = each_8 (λ k. opcode_of (8 * k) ≡ Some (opcode.Binary (binary.AluTo k) true)) refl refl refl refl refl refl refl refl
alu_to B16 = each_8 (λ k. opcode_of (8 * k + 1) ≡ Some (opcode.Binary (binary.AluTo k) false)) refl refl refl refl refl refl refl refl
alu_to B32 = each_8 (λ k. opcode_of (8 * k + 1) ≡ Some (opcode.Binary (binary.AluTo k) false)) refl refl refl refl refl refl refl refl

alu_from : (w : Width) (k : ℕ) → k < 8 → opcode_of (of_width w (8 * k + 2)) ≡ Some (opcode.Binary (binary.AluFrom k) (is_byte w))
alu_from B8 = each_8 (λ k. opcode_of (8 * k + 2) ≡ Some (opcode.Binary (binary.AluFrom k) true)) refl refl refl refl refl refl refl refl
alu_from B16 = each_8 (λ k. opcode_of (8 * k + 2 + 1) ≡ Some (opcode.Binary (binary.AluFrom k) false)) refl refl refl refl refl refl refl refl
alu_from B32 = each_8 (λ k. opcode_of (8 * k + 2 + 1) ≡ Some (opcode.Binary (binary.AluFrom k) false)) refl refl refl refl refl refl refl refl

alu_constant : (w : Width) (k : ℕ) → k < 8 → opcode_of (of_width w (8 * k + 4)) ≡ Some (opcode.Constant (constant.Alu k) (is_byte w))
alu_constant B8 = each_8 (λ k. opcode_of (8 * k + 4) ≡ Some (opcode.Constant (constant.Alu k) true)) refl refl refl refl refl refl refl refl
alu_constant B16 = each_8 (λ k. opcode_of (8 * k + 4 + 1) ≡ Some (opcode.Constant (constant.Alu k) false)) refl refl refl refl refl refl refl refl
alu_constant B32 = each_8 (λ k. opcode_of (8 * k + 4 + 1) ≡ Some (opcode.Constant (constant.Alu k) false)) refl refl refl refl refl refl refl refl

-- an opcode of a pair whose bytes are given
of_pair : (w : Width) (o : ℕ) (x : Bool → Opcode) → opcode_of o ≡ Some (x true) → opcode_of (o + 1) ≡ Some (x false) → opcode_of (of_width w o) ≡ Some (x (is_byte w))
of_pair B8 o x e f = e
of_pair B16 o x e f = f
of_pair B32 o x e f = f

mov_byte : (r : ℕ) → r < 8 → opcode_of (0xB0 + r) ≡ Some (opcode.Constant (constant.Mov r) true)
mov_byte = each_8 (λ r. opcode_of (0xB0 + r) ≡ Some (opcode.Constant (constant.Mov r) true)) refl refl refl refl refl refl refl refl

mov_long : (r : ℕ) → r < 8 → opcode_of (0xB8 + r) ≡ Some (opcode.Constant (constant.Mov r) false)
mov_long = each_8 (λ r. opcode_of (0xB8 + r) ≡ Some (opcode.Constant (constant.Mov r) false)) refl refl refl refl refl refl refl refl

exchange : (r : ℕ) → r < 8 → 1 ≤ r → opcode_of (0x90 + r) ≡ Some (opcode.Exchange r)
exchange = each_8 (λ r. 1 ≤ r → opcode_of (0x90 + r) ≡ Some (opcode.Exchange r)) (λ h. absurd (omega arith)) (λ h. refl) (λ h. refl) (λ h. refl) (λ h. refl) (λ h. refl) (λ h. refl) (λ h. refl)

inc : (r : ℕ) → r < 8 → opcode_of (0x40 + r) ≡ Some (opcode.Inc r)
inc = each_8 (λ r. opcode_of (0x40 + r) ≡ Some (opcode.Inc r)) refl refl refl refl refl refl refl refl

dec : (r : ℕ) → r < 8 → opcode_of (0x48 + r) ≡ Some (opcode.Dec r)
dec = each_8 (λ r. opcode_of (0x48 + r) ≡ Some (opcode.Dec r)) refl refl refl refl refl refl refl refl

push : (r : ℕ) → r < 8 → opcode_of (0x50 + r) ≡ Some (opcode.Simple (simple.Whole (inst.Push (src.Rm (Reg r)))))
push = each_8 (λ r. opcode_of (0x50 + r) ≡ Some (opcode.Simple (simple.Whole (inst.Push (src.Rm (Reg r)))))) refl refl refl refl refl refl refl refl

pop : (r : ℕ) → r < 8 → opcode_of (0x58 + r) ≡ Some (opcode.Simple (simple.Whole (inst.Pop (Reg r))))
pop = each_8 (λ r. opcode_of (0x58 + r) ≡ Some (opcode.Simple (simple.Whole (inst.Pop (Reg r))))) refl refl refl refl refl refl refl refl

jcc : (c : ℕ) → c < 16 → opcode_of (0x70 + c) ≡ Some (opcode.Simple (simple.ShortJcc c))
jcc = each_16 (λ c. opcode_of (0x70 + c) ≡ Some (opcode.Simple (simple.ShortJcc c))) refl refl refl refl refl refl refl refl refl refl refl refl refl refl refl refl

setcc : (c : ℕ) → c < 16 → second_of (0x90 + c) ≡ Some (second.Setcc c)
setcc = each_16 (λ c. second_of (0x90 + c) ≡ Some (second.Setcc c)) refl refl refl refl refl refl refl refl refl refl refl refl refl refl refl refl

cmov : (c : ℕ) → c < 16 → second_of (0x40 + c) ≡ Some (second.Cmov c)
cmov = each_16 (λ c. second_of (0x40 + c) ≡ Some (second.Cmov c)) refl refl refl refl refl refl refl refl refl refl refl refl refl refl refl refl

long_jcc : (c : ℕ) → c < 16 → second_of (0x80 + c) ≡ Some (second.Jcc c)
long_jcc = each_16 (λ c. second_of (0x80 + c) ≡ Some (second.Jcc c)) refl refl refl refl refl refl refl refl refl refl refl refl refl refl refl refl

-- ---- operands of a kind

binary_again : (w : Width) (op : Binary) {m : List ℕ} {g : ℕ} {a : Rm} → Operand m g a → (rest : List ℕ) → binary_at (class w) op (is_byte w) (m ++ rest) ≡ Some (binary_is op w g a, rest)
unfolding binary_at
binary_again w op there rest = rw (width_again w, operand_again there rest) refl

constant_again : (w : Width) (op : Constant) (n : ℕ) (rest : List ℕ) → n < limit w → constant_at (class w) op (is_byte w) (imm w n ++ rest) ≡ Some (constant_is op w n, rest)
unfolding constant_at
constant_again w op n rest lt = rw (width_again w, imm_again w n rest lt) refl

pair_binary : (w : Width) (o : ℕ) (op : Binary) {m : List ℕ} {g : ℕ} {a : Rm} → opcode_of (of_width w o) ≡ Some (opcode.Binary op (is_byte w)) → Operand m g a → (rest : List ℕ) → inst_at ((pair w o ++ m) ++ rest) ≡ Some (binary_is op w g a, rest)
unfolding opcode_at
pair_binary w o op {m} e there rest = rw append_assoc (pair_again w o (m ++ rest) (opcode.Binary op (is_byte w)) e ∙ binary_again w op there rest)

pair_constant : (w : Width) (o : ℕ) (op : Constant) (n : ℕ) (rest : List ℕ) → opcode_of (of_width w o) ≡ Some (opcode.Constant op (is_byte w)) → n < limit w → inst_at ((pair w o ++ imm w n) ++ rest) ≡ Some (constant_is op w n, rest)
unfolding opcode_at
pair_constant w o op n rest e lt = rw append_assoc (pair_again w o (imm w n ++ rest) (opcode.Constant op (is_byte w)) e ∙ constant_again w op n rest lt)

long_constant : (w : Width) (op : Constant) (n : ℕ) (rest : List ℕ) → IsLong w → n < limit w → constant_at (class w) op false (imm w n ++ rest) ≡ Some (constant_is op w n, rest)
unfolding constant_at
long_constant w op n rest long lt = rw (long_width w long, imm_again w n rest lt) refl

low_shift : {g : ℕ} {op : ShiftOp} → ShiftField g op → (nat_lt g 2 ≡ false) × (shift_of g ≡ Some op)
low_shift spells.shl = (refl, refl)
low_shift spells.shr = (refl, refl)
low_shift spells.sar = (refl, refl)

low_rotate : {g : ℕ} {right : Bool} → RotateField g right → (nat_lt g 2 ≡ true) × ((g == 1) ≡ right)
low_rotate spells.left = (refl, refl)
low_rotate spells.right = (refl, refl)

above : (g : ℕ) → 4 ≤ g → nat_lt 3 g ≡ true
above g h = grind (arith, nat_tests)

string_again : (o : ℕ) (x : Bool → Opcode) → opcode_of o ≡ Some (x true) → opcode_of (o + 1) ≡ Some (x false) → {w : Width} {rep : Bool} {p : List ℕ} → StringPrefix w rep p → (rest : List ℕ) → (c : Prefixes) × (string_of c (is_byte w) ≡ Some (w, rep)) × (inst_at ((p ++ of_width w o ∷ []) ++ rest) ≡ opcode_at c (x (is_byte w)) rest)
unfolding inst_at prefixes_at
string_again o x e f (spells.once B8) rest = (Bare, refl, behind_again _ o rest (x true) e)
string_again o x e f (spells.once B16) rest = (Size, refl, behind_again _ (o + 1) rest (x false) f)
string_again o x e f (spells.once B32) rest = (Bare, refl, behind_again _ (o + 1) rest (x false) f)
string_again o x e f (spells.repeated B8) rest = (Repeat, refl, behind_again _ o rest (x true) e)
string_again o x e f (spells.repeated B16) rest = (SizeRepeat, refl, behind_again _ (o + 1) rest (x false) f)
string_again o x e f (spells.repeated B32) rest = (Repeat, refl, behind_again _ (o + 1) rest (x false) f)
string_again o x e f spells.turned rest = (SizeRepeat, refl, behind_again _ (o + 1) rest (x false) f)

-- ---- rows

pub row_again : {bytes : List ℕ} {i : Inst} → Row bytes i → (rest : List ℕ) → inst_at (bytes ++ rest) ≡ Some (i, rest)
unfolding inst_at prefixes_at behind_at byte_at opcode_at simple_at alu_constant_at mov_constant_at absolute_at lea_at unary_at step_at by_at shift_at multiply_at alu_byte_at pop_at hint_at end_branch_at extend_at second_at escape_at
row_again (spells.row1 k g w m a lt there) rest = pair_binary w (8 * k) (binary.AluTo k) (alu_to w k lt) there rest
row_again (spells.row2 k g w m a lt there) rest = pair_binary w (8 * k + 2) (binary.AluFrom k) (alu_from w k lt) there rest
row_again (spells.row3 k n w lt fits) rest = pair_constant w (8 * k + 4) (constant.Alu k) n rest (alu_constant w k lt) fits
row_again (spells.row4 k n m a there lt) rest = rw (append_assoc m (n ∷ []) rest, operand_again there (n ∷ rest)) refl
row_again (spells.row5 k d w m a long there lt) rest = simp append_assoc (long_again w 0x83 (m ++ d ∷ rest) _ long refl ∙ rw (long_width w long, operand_again there (d ∷ rest)) refl)
row_again (spells.row6 k n w m a long there fits) rest = simp append_assoc (long_again w 0x81 (m ++ (imm w n ++ rest)) _ long refl ∙ rw (long_width w long, operand_again there (imm w n ++ rest), imm_again w n rest fits) refl)
row_again (spells.row7 g w m a there) rest = pair_binary w 0x84 binary.Test (of_pair w 0x84 (opcode.Binary binary.Test) refl refl) there rest
row_again (spells.row8 n w fits) rest = pair_constant w 0xA8 constant.Test n rest (of_pair w 0xA8 (opcode.Constant constant.Test) refl refl) fits
row_again (spells.row9 n w m a there fits) rest = simp append_assoc (pair_again w 0xF6 (m ++ (imm w n ++ rest)) _ (of_pair w 0xF6 opcode.Unary refl refl) ∙ rw (operand_again there (imm w n ++ rest), width_again w, imm_again w n rest fits) refl)
row_again (spells.row10 g w m a there) rest = pair_binary w 0x88 binary.MovTo (of_pair w 0x88 (opcode.Binary binary.MovTo) refl refl) there rest
row_again (spells.row11 g w m a there) rest = pair_binary w 0x8A binary.MovFrom (of_pair w 0x8A (opcode.Binary binary.MovFrom) refl refl) there rest
row_again (spells.row12_byte r n lt fits) rest = bare_again (0xB0 + r) (n ∷ rest) _ (mov_byte r lt) ∙ constant_again B8 (constant.Mov r) n rest fits
row_again (spells.row12 r n w long lt fits) rest = simp append_assoc (long_again w (0xB8 + r) (imm w n ++ rest) _ long (mov_long r lt) ∙ long_constant w (constant.Mov r) n rest long fits)
row_again (spells.row13 n w m a there fits) rest = simp append_assoc (pair_again w 0xC6 (m ++ (imm w n ++ rest)) _ (of_pair w 0xC6 opcode.MovConstant refl refl) ∙ rw (width_again w, operand_again there (imm w n ++ rest), imm_again w n rest fits) refl)
row_again (spells.row14_load d w lt) rest = rw append_assoc (pair_again w 0xA0 (four d ++ rest) _ (of_pair w 0xA0 (opcode.Absolute false) refl refl) ∙ rw (width_again w, four_again d rest lt) refl)
row_again (spells.row14_store d w lt) rest = rw append_assoc (pair_again w 0xA2 (four d ++ rest) _ (of_pair w 0xA2 (opcode.Absolute true) refl refl) ∙ rw (width_again w, four_again d rest lt) refl)
row_again (spells.row15 g wide p m a pad there) rest =
    let r = padding_again pad Bare false refl 0x8D (m ++ rest) opcode.Lea refl in
    rw append_assoc (r.1 ∙ rw (r.2, operand_again there rest) refl)
row_again (spells.row16 g w m a there) rest = pair_binary w 0x86 binary.Xchg (of_pair w 0x86 (opcode.Binary binary.Xchg) refl refl) there rest
row_again (spells.row17 r w long low lt) rest = rw append_assoc (long_again w (0x90 + r) rest _ long (exchange r lt low) ∙ rw (long_width w long) refl)
row_again (spells.row18_inc r w long lt) rest = rw append_assoc (long_again w (0x40 + r) rest _ long (inc r lt) ∙ rw (long_width w long) refl)
row_again (spells.row18_dec r w long lt) rest = rw append_assoc (long_again w (0x48 + r) rest _ long (dec r lt) ∙ rw (long_width w long) refl)
row_again (spells.row19_inc w m a there) rest = rw append_assoc (pair_again w 0xFE (m ++ rest) _ (of_pair w 0xFE opcode.Step refl refl) ∙ rw (operand_again there rest, width_again w) refl)
row_again (spells.row19_dec w m a there) rest = rw append_assoc (pair_again w 0xFE (m ++ rest) _ (of_pair w 0xFE opcode.Step refl refl) ∙ rw (operand_again there rest, width_again w) refl)
row_again (spells.row20_not w m a there) rest = rw append_assoc (pair_again w 0xF6 (m ++ rest) _ (of_pair w 0xF6 opcode.Unary refl refl) ∙ rw (operand_again there rest, width_again w) refl)
row_again (spells.row20_neg w m a there) rest = rw append_assoc (pair_again w 0xF6 (m ++ rest) _ (of_pair w 0xF6 opcode.Unary refl refl) ∙ rw (operand_again there rest, width_again w) refl)
row_again (spells.row21 r lt) rest = bare_again (0x50 + r) rest _ (push r lt)
row_again (spells.row22 d lt) rest = refl
row_again (spells.row23 n lt) rest = rw (four_again n rest lt) refl
row_again (spells.row24 m a there) rest = rw (operand_again there rest) refl
row_again (spells.row25 r lt) rest = bare_again (0x58 + r) rest _ (pop r lt)
row_again (spells.row26 m a there) rest = rw (operand_again there rest) refl
row_again (spells.row27 g m a high there) rest = rw (operand_again there rest, above g high) refl
row_again (spells.row28 g m a there) rest = rw (operand_again there rest) refl
row_again (spells.row29 g d m a there lt) rest = rw (append_assoc m (d ∷ []) rest, operand_again there (d ∷ rest)) refl
row_again (spells.row30 g n m a there lt) rest = rw (append_assoc m (four n) rest, operand_again there (four n ++ rest), four_again n rest lt) refl
row_again (spells.row31 g op w m a field there) rest = rw append_assoc (pair_again w 0xD0 (m ++ rest) _ (of_pair w 0xD0 (opcode.Shift by.One) refl refl) ∙ rw (operand_again there rest, (low_shift field).0, width_again w, (low_shift field).1) refl)
row_again (spells.row32 g n op w m a field there lt) rest = simp append_assoc (pair_again w 0xC0 (m ++ n ∷ rest) _ (of_pair w 0xC0 (opcode.Shift by.Byte) refl refl) ∙ rw (operand_again there (n ∷ rest), (low_shift field).0, width_again w, (low_shift field).1) refl)
row_again (spells.row33 g op w m a field there) rest = rw append_assoc (pair_again w 0xD2 (m ++ rest) _ (of_pair w 0xD2 (opcode.Shift by.Cl) refl refl) ∙ rw (operand_again there rest, (low_shift field).0, width_again w, (low_shift field).1) refl)
row_again (spells.row34_one g right m a field there) rest = rw (operand_again there rest, (low_rotate field).0, (low_rotate field).1) refl
row_again (spells.row34_byte g n right m a field there lt) rest = rw (append_assoc m (n ∷ []) rest, operand_again there (n ∷ rest), (low_rotate field).0, (low_rotate field).1) refl
row_again (spells.row34_cl g right m a field there) rest = rw (operand_again there rest, (low_rotate field).0, (low_rotate field).1) refl
row_again spells.row35_cwde rest = refl
row_again spells.row35_cdq rest = refl
row_again (spells.row36_zero g w m a long there) rest = rw append_assoc (long_again w 0x0F (0xB6 ∷ m ++ rest) _ long refl ∙ rw (long_width w long, operand_again there rest) refl)
row_again (spells.row36_signed g w m a long there) rest = rw append_assoc (long_again w 0x0F (0xBE ∷ m ++ rest) _ long refl ∙ rw (long_width w long, operand_again there rest) refl)
row_again (spells.row37_zero g m a there) rest = rw (operand_again there rest) refl
row_again (spells.row37_signed g m a there) rest = rw (operand_again there rest) refl
row_again (spells.row38 c g m a lt there) rest = rw (setcc c lt, operand_again there rest) refl
row_again (spells.row39 c g m a lt there) rest = rw (cmov c lt, operand_again there rest) refl
row_again (spells.row40 c n lt fits) rest = rw (long_jcc c lt, four_again n rest fits) refl
row_again (spells.row41 c d lt fits) rest = bare_again (0x70 + c) (d ∷ rest) _ (jcc c lt)
row_again (spells.row42 n lt) rest = rw (four_again n rest lt) refl
row_again (spells.row43 d lt) rest = refl
row_again (spells.row44 p m a spells.absent there) rest = rw (operand_again there rest) refl
row_again (spells.row44 p m a spells.present there) rest = rw (operand_again there rest) refl
row_again (spells.row45 n lt) rest = rw (four_again n rest lt) refl
row_again (spells.row46 p m a spells.absent there) rest = rw (operand_again there rest) refl
row_again (spells.row46 p m a spells.present there) rest = rw (operand_again there rest) refl
row_again (spells.row47 p spells.absent) rest = refl
row_again (spells.row47 p spells.present) rest = refl
row_again (spells.row48 n lt) rest = rw (two_again n rest lt) refl
row_again spells.row49 rest = refl
row_again (spells.row50 w rep p prefix) rest =
    let r = string_again 0xA4 opcode.Movs refl refl prefix rest in
    r.2 ∙ rw r.1 refl
row_again (spells.row51 w rep p prefix) rest =
    let r = string_again 0xAA opcode.Stos refl refl prefix rest in
    r.2 ∙ rw r.1 refl
row_again spells.row52_cld rest = refl
row_again spells.row52_std rest = refl
row_again spells.row52_sahf rest = refl
row_again spells.row53 rest = refl
row_again spells.row54 rest = refl
row_again spells.row55_size rest = refl
row_again spells.row55_pause rest = refl
row_again (spells.row55_long wide p m a pad there) rest =
    let r = padding_again pad Bare false refl 0x0F (0x1F ∷ m ++ rest) opcode.Escape refl in
    rw append_assoc (r.1 ∙ rw (r.2, operand_again there rest) refl)
row_again spells.row55_end rest = refl
