-- What is read is spelled so: a case for each opcode.
use Rattle.std.proofs.Common.{◌≡◌, ℕ, zero, suc, ◌+◌, ◌*◌, ◌<◌, Bool, true, false, not, ◌==◌, ◌&&◌, List, [], ◌∷◌, ◌++◌, Some, refl, sym, ap, subst, ◌∙◌, append_assoc, arith, inl, inr}
use Rattle.std.specs.Prelude.{nat_lt}
use Rattle.std.proofs.lemmas.List.{append-nil}
use Rattle.ia_inst.specs.declared.inst.Addr.{Addr}
use Rattle.ia_inst.specs.declared.inst.Rm.{Rm}
use Rattle.ia_inst.specs.declared.inst.Rm.TheVariants.{Reg, Mem}
use Rattle.ia_inst.specs.declared.inst.Src.TheVariants as src
use Rattle.ia_inst.specs.declared.inst.Count.{Count}
use Rattle.ia_inst.specs.declared.inst.Count.TheVariants as count
use Rattle.br_word.specs.declared.types.ShiftOp.{ShiftOp}
use Rattle.br_word.specs.declared.types.ShiftOp.TheVariants.{Shl, Shr, Sar}
use Rattle.br_word.specs.declared.types.Width.{Width}
use Rattle.br_word.specs.declared.types.Width.TheVariants.{B16, B32}
use Rattle.ia_inst.specs.declared.inst.Inst.{Inst}
use Rattle.ia_inst.specs.declared.inst.Inst.TheVariants as inst
use Rattle.ia_inst.specs.Operands.{two, four, extended, Operand}
use Rattle.ia_inst.specs.Spells as spells
use Rattle.ia_inst.specs.Spells.{size, pair, of_width, IsLong, imm, limit, extended_to, Row, StringPrefix, AtMost, ShiftField, RotateField}
use Rattle.ia_inst.specs.declared.prefixes.Prefixes.{Prefixes}
use Rattle.ia_inst.specs.declared.prefixes.Prefixes.TheVariants.{Bare}
use Rattle.ia_inst.specs.declared.opcode.Opcode.{Opcode}
use Rattle.ia_inst.specs.declared.opcode.Opcode.TheVariants as opcode
use Rattle.ia_inst.specs.declared.opcode.Binary.{Binary}
use Rattle.ia_inst.specs.declared.opcode.Binary.TheVariants as binary
use Rattle.ia_inst.specs.declared.opcode.Constant.{Constant}
use Rattle.ia_inst.specs.declared.opcode.Constant.TheVariants as constant
use Rattle.ia_inst.specs.declared.opcode.Simple.{Simple}
use Rattle.ia_inst.specs.declared.opcode.Simple.TheVariants as simple
use Rattle.ia_inst.specs.declared.opcode.By.{By}
use Rattle.ia_inst.specs.declared.opcode.By.TheVariants as by
use Rattle.ia_inst.specs.declared.opcode.Second.{Second}
use Rattle.ia_inst.specs.declared.opcode.Second.TheVariants as second
use Rattle.ia_inst.specs.Reading.{byte_at, four_at, operand_at, Read}
use Rattle.ia_inst.specs.Prefixes.{is_bare, is_near, is_return, is_nop, padding_of, width_of, string_of, prefixes_at}
use Rattle.ia_inst.specs.Opcodes.{opcode_of, second_of}
use Rattle.ia_inst.specs.Instructions.{Done, two_at, imm_at, binary_is, binary_at, constant_is, constant_at, alu_constant_at, mov_constant_at, absolute_at, memory_of, lea_at, unary_at, step_at, by_at, shift_of, shift_at, multiply_at, alu_byte_at, pop_at, simple_at, hint_at, is_repeat, end_branch_at, extend_at, second_at, escape_at, opcode_at, behind_at, inst_at}
use Rattle.ia_decode.proofs.Readers.{IsBytes, bind_some, some, some_is, none_is, chosen, Takes, byte_found, four_found}
use Rattle.ia_decode.proofs.Operands.{operand_found}
use Rattle.ia_decode.proofs.PrefixesReadAgain.{is}
use Rattle.ia_decode.proofs.OpcodeBytes.{of_byte, whole_test, simple_test, opcode_test, second_test, first_by, opcode_is, second_is}
use Rattle.ia_decode.proofs.PrefixesFound.{both_true, not_true, less, guarded, Means, bare, size_only, repeat, size_repeat, repeat_size, branch, padding, other, prefixes_found, bare_is, near_is, return_is, padding_is, IsWidth, narrow, short, full, width_is, pair_front, size_front, string_is, two_found, imm_found}

-- behind a head h, which ends in the opcode, a reader took what makes a row
abbrev Arm : (List ℕ → List ℕ) → List ℕ → Done → Type 0
Arm h bytes y = Takes (λ f. Row (h f) y.0) bytes y.1

made : {l : List ℕ} {i : Inst} (h : List ℕ → List ℕ) (bytes front rest : List ℕ) → Row l i → h front ≡ l → bytes ≡ front ++ rest → IsBytes rest → (x : Done) → some (i, rest) ≡ some x → Arm h bytes x
made {l} {i} h bytes front rest row same parts fits x e =
    subst (λ (y : Done). Arm h bytes y) (some_is (i, rest) x e) (record { front = front; spelled = subst (λ (k : List ℕ). Row k i) (sym same) row; parts = parts; fits = fits })

-- prefixes, and an opcode
abbrev after : List ℕ → ℕ → List ℕ → List ℕ
after p b f = p ++ b ∷ f

then : (bytes m rest n last : List ℕ) → bytes ≡ m ++ rest → rest ≡ n ++ last → bytes ≡ (m ++ n) ++ last
then bytes m rest n last e f = e ∙ ap (λ (t : List ℕ). m ++ t) f ∙ sym (append_assoc m n last)

-- ---- opcodes without operands

whole_row : (i : Inst) (b : ℕ) → whole_test i b ≡ true → Row (b ∷ []) i
whole_row (inst.Push (src.Rm (Reg r))) b e = let t = both_true _ _ e in rw (is b (0x50 + r) t.1) (spells.row21 r (less r 8 t.0))
whole_row (inst.Pop (Reg r)) b e = let t = both_true _ _ e in rw (is b (0x58 + r) t.1) (spells.row25 r (less r 8 t.0))
whole_row inst.Cwde b e = rw (is b 0x98 e) spells.row35_cwde
whole_row inst.Cdq b e = rw (is b 0x99 e) spells.row35_cdq
whole_row inst.Sahf b e = rw (is b 0x9E e) spells.row52_sahf
whole_row inst.Leave b e = rw (is b 0xC9 e) spells.row49
whole_row inst.Cld b e = rw (is b 0xFC e) spells.row52_cld
whole_row inst.Std b e = rw (is b 0xFD e) spells.row52_std
whole_row _ b e = absurd cc

-- ---- opcodes before which no prefix stands

head_is : (b o : ℕ) → (b == o) ≡ true → (f : List ℕ) → b ∷ f ≡ o ∷ f
head_is b o e f = ap (λ (k : ℕ). k ∷ f) (is b o e)

multiply_found : (byte : Bool) (b : ℕ) (bytes : List ℕ) (x : Done) → simple_test (simple.Multiply byte) b ≡ true → IsBytes bytes → multiply_at byte bytes ≡ Some x → Arm (after [] b) bytes x
unfolding multiply_at
multiply_found true b bytes x t fits e =
    let o = bind_some (operand_at bytes) _ x e in
    let f = operand_found bytes o.0 fits o.1 in
    let n = bind_some (byte_at o.0.2) _ x o.2 in
    let g = byte_found o.0.2 n.0 f.fits n.1 in
    made (after [] b) bytes (f.front ++ n.0.0 ∷ []) n.0.1 (spells.row29 o.0.0 n.0.0 f.front o.0.1 f.spelled g.1) (head_is b 0x6B t _) (then bytes f.front o.0.2 (n.0.0 ∷ []) n.0.1 f.parts g.0) g.2 x n.2
multiply_found false b bytes x t fits e =
    let o = bind_some (operand_at bytes) _ x e in
    let f = operand_found bytes o.0 fits o.1 in
    let n = bind_some (four_at o.0.2) _ x o.2 in
    let g = four_found o.0.2 n.0 f.fits n.1 in
    made (after [] b) bytes (f.front ++ four n.0.0) n.0.1 (spells.row30 o.0.0 n.0.0 f.front o.0.1 f.spelled g.1) (head_is b 0x69 t _) (then bytes f.front o.0.2 (four n.0.0) n.0.1 f.parts g.0) g.2 x n.2

alu_byte_found : (b : ℕ) (bytes : List ℕ) (x : Done) → (b == 0x80) ≡ true → IsBytes bytes → alu_byte_at bytes ≡ Some x → Arm (after [] b) bytes x
unfolding alu_byte_at
alu_byte_found b bytes x t fits e =
    let o = bind_some (operand_at bytes) _ x e in
    let f = operand_found bytes o.0 fits o.1 in
    let n = bind_some (byte_at o.0.2) _ x o.2 in
    let g = byte_found o.0.2 n.0 f.fits n.1 in
    made (after [] b) bytes (f.front ++ n.0.0 ∷ []) n.0.1 (spells.row4 o.0.0 n.0.0 f.front o.0.1 f.spelled g.1) (head_is b 0x80 t _) (then bytes f.front o.0.2 (n.0.0 ∷ []) n.0.1 f.parts g.0) g.2 x n.2

at_reg : {m : List ℕ} {a : Rm} (g k : ℕ) → (g == k) ≡ true → Operand m g a → Operand m k a
at_reg {m} {a} g k e h = subst (λ (n : ℕ). Operand m n a) (is g k e) h

pop_found : (b : ℕ) (bytes : List ℕ) (x : Done) → (b == 0x8F) ≡ true → IsBytes bytes → pop_at bytes ≡ Some x → Arm (after [] b) bytes x
unfolding pop_at
pop_found b bytes x t fits e =
    let o = bind_some (operand_at bytes) _ x e in
    let f = operand_found bytes o.0 fits o.1 in
    let z = guarded (o.0.0 == 0) _ x o.2 in
    made (after [] b) bytes f.front o.0.2 (spells.row26 f.front o.0.1 (at_reg o.0.0 0 z.0 f.spelled)) (head_is b 0x8F t _) f.parts f.fits x z.1

simple_found : (s : Simple) (b : ℕ) (bytes : List ℕ) (x : Done) → simple_test s b ≡ true → IsBytes bytes → simple_at s bytes ≡ Some x → Arm (after [] b) bytes x
unfolding simple_at
simple_found (simple.Whole i) b bytes x t fits e = made (after [] b) bytes [] bytes (whole_row i b t) refl refl fits x e
simple_found simple.PushByte b bytes x t fits e =
    let n = bind_some (byte_at bytes) _ x e in
    let g = byte_found bytes n.0 fits n.1 in
    made (after [] b) bytes (n.0.0 ∷ []) n.0.1 (spells.row22 n.0.0 g.1) (head_is b 0x6A t _) g.0 g.2 x n.2
simple_found simple.PushWord b bytes x t fits e =
    let n = bind_some (four_at bytes) _ x e in
    let g = four_found bytes n.0 fits n.1 in
    made (after [] b) bytes (four n.0.0) n.0.1 (spells.row23 n.0.0 g.1) (head_is b 0x68 t _) g.0 g.2 x n.2
simple_found simple.PopOperand b bytes x t fits e = pop_found b bytes x t fits e
simple_found (simple.Multiply byte) b bytes x t fits e = multiply_found byte b bytes x t fits e
simple_found simple.AluByte b bytes x t fits e = alu_byte_found b bytes x t fits e
simple_found (simple.ShortJcc c) b bytes x t fits e =
    let n = bind_some (byte_at bytes) _ x e in
    let g = byte_found bytes n.0 fits n.1 in
    let k = both_true _ _ t in
    made (after [] b) bytes (n.0.0 ∷ []) n.0.1 (spells.row41 c n.0.0 (less c 16 k.0) g.1) (head_is b (0x70 + c) k.1 _) g.0 g.2 x n.2
simple_found simple.Jmp b bytes x t fits e =
    let n = bind_some (four_at bytes) _ x e in
    let g = four_found bytes n.0 fits n.1 in
    made (after [] b) bytes (four n.0.0) n.0.1 (spells.row42 n.0.0 g.1) (head_is b 0xE9 t _) g.0 g.2 x n.2
simple_found simple.ShortJmp b bytes x t fits e =
    let n = bind_some (byte_at bytes) _ x e in
    let g = byte_found bytes n.0 fits n.1 in
    made (after [] b) bytes (n.0.0 ∷ []) n.0.1 (spells.row43 n.0.0 g.1) (head_is b 0xEB t _) g.0 g.2 x n.2
simple_found simple.Call b bytes x t fits e =
    let n = bind_some (four_at bytes) _ x e in
    let g = four_found bytes n.0 fits n.1 in
    made (after [] b) bytes (four n.0.0) n.0.1 (spells.row45 n.0.0 g.1) (head_is b 0xE8 t _) g.0 g.2 x n.2
simple_found simple.RetPop b bytes x t fits e =
    let n = bind_some (two_at bytes) _ x e in
    let g = two_found bytes n.0 fits n.1 in
    made (after [] b) bytes (two n.0.0) n.0.1 (spells.row48 n.0.0 g.1) (head_is b 0xC2 t _) g.0 g.2 x n.2
simple_found simple.Interrupt b bytes x t fits e =
    let n = bind_some (byte_at bytes) _ x e in
    let g = byte_found bytes n.0 fits n.1 in
    let z = guarded (n.0.0 == 0x80) _ x n.2 in
    made (after [] b) bytes (n.0.0 ∷ []) n.0.1 spells.row53 (head_is b 0xCD t _ ∙ ap (λ (k : ℕ). 0xCD ∷ k ∷ []) (is n.0.0 0x80 z.0)) g.0 g.2 x z.1

-- ---- pairs of opcodes

-- the head of a row that begins with a pair
paired : {byte : Bool} {w : Width} {p : List ℕ} → IsWidth byte w p → (b o : ℕ) → (b == of_byte byte o) ≡ true → (f : List ℕ) → after p b f ≡ pair w o ++ f
paired {byte} {w} {p} h b o e f = ap (λ (k : ℕ). p ++ k ∷ f) (is b (of_byte byte o) e) ∙ pair_front h o f

-- the head of a row of width 16 or 32
sized : {w : Width} {p : List ℕ} → IsWidth false w p → (b o : ℕ) → (b == o) ≡ true → (f : List ℕ) → after p b f ≡ size w ++ o ∷ f
sized {w} {p} h b o e f = ap (λ (k : ℕ). p ++ k ∷ f) (is b o e) ∙ ap (λ (q : List ℕ). q ++ o ∷ f) (size_front h).1

binary_found : {c : Prefixes} {p : List ℕ} → Means c p → (op : Binary) (byte : Bool) (b : ℕ) (bytes : List ℕ) (x : Done) → opcode_test (opcode.Binary op byte) b ≡ true → IsBytes bytes → binary_at c op byte bytes ≡ Some x → Arm (after p b) bytes x
unfolding binary_at
binary_found {c} {p} means op byte b bytes x t fits e =
    let w = bind_some (width_of c byte) _ x e in
    let h = width_is means byte w.0 w.1 in
    let o = bind_some (operand_at bytes) _ x w.2 in
    let f = operand_found bytes o.0 fits o.1 in
    by_op op t h o.0 f o.2
  where
    by_op : (op : Binary) → opcode_test (opcode.Binary op byte) b ≡ true → {w : Width} → IsWidth byte w p → (o : Read) → Takes (λ f. Operand f o.0 o.1) bytes o.2 → some (binary_is op w o.0 o.1, o.2) ≡ some x → Arm (after p b) bytes x
    by_op (binary.AluTo k) t {w} h o f e = let z = both_true _ _ t in made (after p b) bytes f.front o.2 (spells.row1 k o.0 w f.front o.1 (less k 8 z.0) f.spelled) (paired h b (8 * k) z.1 _) f.parts f.fits x e
    by_op (binary.AluFrom k) t {w} h o f e = let z = both_true _ _ t in made (after p b) bytes f.front o.2 (spells.row2 k o.0 w f.front o.1 (less k 8 z.0) f.spelled) (paired h b (8 * k + 2) z.1 _) f.parts f.fits x e
    by_op binary.Test t {w} h o f e = made (after p b) bytes f.front o.2 (spells.row7 o.0 w f.front o.1 f.spelled) (paired h b 0x84 t _) f.parts f.fits x e
    by_op binary.MovTo t {w} h o f e = made (after p b) bytes f.front o.2 (spells.row10 o.0 w f.front o.1 f.spelled) (paired h b 0x88 t _) f.parts f.fits x e
    by_op binary.MovFrom t {w} h o f e = made (after p b) bytes f.front o.2 (spells.row11 o.0 w f.front o.1 f.spelled) (paired h b 0x8A t _) f.parts f.fits x e
    by_op binary.Xchg t {w} h o f e = made (after p b) bytes f.front o.2 (spells.row16 o.0 w f.front o.1 f.spelled) (paired h b 0x86 t _) f.parts f.fits x e

mov_found : {byte : Bool} {w : Width} {p : List ℕ} → IsWidth byte w p → (r b : ℕ) (bytes : List ℕ) (x : Done) → opcode_test (opcode.Constant (constant.Mov r) byte) b ≡ true → (n : ℕ × List ℕ) → bytes ≡ imm w n.0 ++ n.1 → n.0 < limit w → IsBytes n.1 → some (inst.Mov w (Reg r) (src.Imm n.0), n.1) ≡ some x → Arm (after p b) bytes x
mov_found narrow r b bytes x t n parts lt fits e = let z = both_true _ _ t in made (after [] b) bytes (n.0 ∷ []) n.1 (spells.row12_byte r n.0 (less r 8 z.0) lt) (head_is b (0xB0 + r) z.1 _) parts fits x e
mov_found short r b bytes x t n parts lt fits e = let z = both_true _ _ t in made (after (0x66 ∷ []) b) bytes (two n.0) n.1 (spells.row12 r n.0 B16 tt (less r 8 z.0) lt) (sized short b (0xB8 + r) z.1 _) parts fits x e
mov_found full r b bytes x t n parts lt fits e = let z = both_true _ _ t in made (after [] b) bytes (four n.0) n.1 (spells.row12 r n.0 B32 tt (less r 8 z.0) lt) (sized full b (0xB8 + r) z.1 _) parts fits x e

constant_found : {c : Prefixes} {p : List ℕ} → Means c p → (op : Constant) (byte : Bool) (b : ℕ) (bytes : List ℕ) (x : Done) → opcode_test (opcode.Constant op byte) b ≡ true → IsBytes bytes → constant_at c op byte bytes ≡ Some x → Arm (after p b) bytes x
unfolding constant_at
constant_found {c} {p} means op byte b bytes x t fits e =
    let w = bind_some (width_of c byte) _ x e in
    let n = bind_some (imm_at w.0 bytes) _ x w.2 in
    let g = imm_found w.0 bytes n.0 fits n.1 in
    by_op op t (width_is means byte w.0 w.1) n.0 g.0 g.1 g.2 n.2
  where
    by_op : (op : Constant) → opcode_test (opcode.Constant op byte) b ≡ true → {w : Width} → IsWidth byte w p → (n : ℕ × List ℕ) → bytes ≡ imm w n.0 ++ n.1 → n.0 < limit w → IsBytes n.1 → some (constant_is op w n.0, n.1) ≡ some x → Arm (after p b) bytes x
    by_op (constant.Alu k) t {w} h n parts lt fits e = let z = both_true _ _ t in made (after p b) bytes (imm w n.0) n.1 (spells.row3 k n.0 w (less k 8 z.0) lt) (paired h b (8 * k + 4) z.1 _) parts fits x e
    by_op constant.Test t {w} h n parts lt fits e = made (after p b) bytes (imm w n.0) n.1 (spells.row8 n.0 w lt) (paired h b 0xA8 t _) parts fits x e
    by_op (constant.Mov r) t {w} h n parts lt fits e = mov_found h r b bytes x t n parts lt fits e

-- the two parts of a row that ends in an immediate
ended : {w : Width} {p : List ℕ} → IsWidth false w p → (b o : ℕ) → (b == o) ≡ true → (m n : List ℕ) → after p b (m ++ n) ≡ (size w ++ o ∷ m) ++ n
ended {w} h b o e m n = sized h b o e (m ++ n) ∙ sym (append_assoc (size w) (o ∷ m) n)

pair_ended : {byte : Bool} {w : Width} {p : List ℕ} → IsWidth byte w p → (b o : ℕ) → (b == of_byte byte o) ≡ true → (m n : List ℕ) → after p b (m ++ n) ≡ (pair w o ++ m) ++ n
pair_ended {byte} {w} h b o e m n = paired h b o e (m ++ n) ∙ sym (append_assoc (pair w o) m n)

alu_constant_found : {c : Prefixes} {p : List ℕ} → Means c p → (extended : Bool) (b : ℕ) (bytes : List ℕ) (x : Done) → opcode_test (opcode.AluConstant extended) b ≡ true → IsBytes bytes → alu_constant_at c extended bytes ≡ Some x → Arm (after p b) bytes x
unfolding alu_constant_at
alu_constant_found {c} {p} means true b bytes x t fits e =
    let w = bind_some (width_of c false) _ x e in
    let h = width_is means false w.0 w.1 in
    let o = bind_some (operand_at bytes) _ x w.2 in
    let f = operand_found bytes o.0 fits o.1 in
    let n = bind_some (byte_at o.0.2) _ x o.2 in
    let g = byte_found o.0.2 n.0 f.fits n.1 in
    made (after p b) bytes (f.front ++ n.0.0 ∷ []) n.0.1 (spells.row5 o.0.0 n.0.0 w.0 f.front o.0.1 (size_front h).0 f.spelled g.1) (ended h b 0x83 t f.front (n.0.0 ∷ [])) (then bytes f.front o.0.2 (n.0.0 ∷ []) n.0.1 f.parts g.0) g.2 x n.2
alu_constant_found {c} {p} means false b bytes x t fits e =
    let w = bind_some (width_of c false) _ x e in
    let h = width_is means false w.0 w.1 in
    let o = bind_some (operand_at bytes) _ x w.2 in
    let f = operand_found bytes o.0 fits o.1 in
    let n = bind_some (imm_at w.0 o.0.2) _ x o.2 in
    let g = imm_found w.0 o.0.2 n.0 f.fits n.1 in
    made (after p b) bytes (f.front ++ imm w.0 n.0.0) n.0.1 (spells.row6 o.0.0 n.0.0 w.0 f.front o.0.1 (size_front h).0 f.spelled g.1) (ended h b 0x81 t f.front (imm w.0 n.0.0)) (then bytes f.front o.0.2 (imm w.0 n.0.0) n.0.1 f.parts g.0) g.2 x n.2

mov_constant_found : {c : Prefixes} {p : List ℕ} → Means c p → (byte : Bool) (b : ℕ) (bytes : List ℕ) (x : Done) → opcode_test (opcode.MovConstant byte) b ≡ true → IsBytes bytes → mov_constant_at c byte bytes ≡ Some x → Arm (after p b) bytes x
unfolding mov_constant_at
mov_constant_found {c} {p} means byte b bytes x t fits e =
    let w = bind_some (width_of c byte) _ x e in
    let h = width_is means byte w.0 w.1 in
    let o = bind_some (operand_at bytes) _ x w.2 in
    let f = operand_found bytes o.0 fits o.1 in
    let z = guarded (o.0.0 == 0) _ x o.2 in
    let n = bind_some (imm_at w.0 o.0.2) _ x z.1 in
    let g = imm_found w.0 o.0.2 n.0 f.fits n.1 in
    made (after p b) bytes (f.front ++ imm w.0 n.0.0) n.0.1 (spells.row13 n.0.0 w.0 f.front o.0.1 (at_reg o.0.0 0 z.0 f.spelled) g.1) (pair_ended h b 0xC6 t f.front (imm w.0 n.0.0)) (then bytes f.front o.0.2 (imm w.0 n.0.0) n.0.1 f.parts g.0) g.2 x n.2

absolute_found : {c : Prefixes} {p : List ℕ} → Means c p → (store byte : Bool) (b : ℕ) (bytes : List ℕ) (x : Done) → opcode_test (opcode.Absolute store byte) b ≡ true → IsBytes bytes → absolute_at c store byte bytes ≡ Some x → Arm (after p b) bytes x
unfolding absolute_at
absolute_found {c} {p} means true byte b bytes x t fits e =
    let w = bind_some (width_of c byte) _ x e in
    let h = width_is means byte w.0 w.1 in
    let n = bind_some (four_at bytes) _ x w.2 in
    let g = four_found bytes n.0 fits n.1 in
    made (after p b) bytes (four n.0.0) n.0.1 (spells.row14_store n.0.0 w.0 g.1) (paired h b 0xA2 t _) g.0 g.2 x n.2
absolute_found {c} {p} means false byte b bytes x t fits e =
    let w = bind_some (width_of c byte) _ x e in
    let h = width_is means byte w.0 w.1 in
    let n = bind_some (four_at bytes) _ x w.2 in
    let g = four_found bytes n.0 fits n.1 in
    made (after p b) bytes (four n.0.0) n.0.1 (spells.row14_load n.0.0 w.0 g.1) (paired h b 0xA0 t _) g.0 g.2 x n.2

memory_is : (a : Rm) (m : Addr) → memory_of a ≡ Some m → a ≡ Mem m
memory_is (Reg r) m e = absurd (none_is m e)
memory_is (Mem a) m e = ap (λ (k : Addr). Mem k) (some_is a m e)

-- the head of a row that has these prefixes and this opcode
plainly : (p : List ℕ) (b o : ℕ) → (b == o) ≡ true → (f : List ℕ) → after p b f ≡ p ++ o ∷ f
plainly p b o e f = ap (λ (k : ℕ). p ++ k ∷ f) (is b o e)

lea_found : {c : Prefixes} {p : List ℕ} → Means c p → (b : ℕ) (bytes : List ℕ) (x : Done) → (b == 0x8D) ≡ true → IsBytes bytes → lea_at c bytes ≡ Some x → Arm (after p b) bytes x
unfolding lea_at
lea_found {c} {p} means b bytes x t fits e =
    let v = bind_some (padding_of c) _ x e in
    let o = bind_some (operand_at bytes) _ x v.2 in
    let f = operand_found bytes o.0 fits o.1 in
    let a = bind_some (memory_of o.0.1) _ x o.2 in
    let there = subst (λ (k : Rm). Operand f.front o.0.0 k) (memory_is o.0.1 a.0 a.1) f.spelled in
    made (after p b) bytes f.front o.0.2 (spells.row15 o.0.0 v.0 p f.front a.0 (padding_is means v.0 v.1) there) (plainly p b 0x8D t _) f.parts f.fits x a.2

-- ---- groups

unary_found : {c : Prefixes} {p : List ℕ} → Means c p → (byte : Bool) (b : ℕ) (bytes : List ℕ) (x : Done) → opcode_test (opcode.Unary byte) b ≡ true → IsBytes bytes → unary_at c byte bytes ≡ Some x → Arm (after p b) bytes x
unfolding unary_at
unary_found {c} {p} means byte b bytes x t fits e =
    let o = bind_some (operand_at bytes) _ x e in
    let f = operand_found bytes o.0 fits o.1 in
    elim (chosen (nat_lt 3 o.0.0) _ _ x o.2) [
      | inl u ↦
          let z = guarded (not byte && is_bare c) _ x u.1 in
          let k = both_true (not byte) (is_bare c) z.0 in
          let second : b ≡ 0xF7 = is b (of_byte byte 0xF6) t ∙ ap (λ (v : Bool). of_byte v 0xF6) (not_true byte k.0) in
          let same : after p b f.front ≡ 0xF7 ∷ f.front = ap (λ (q : List ℕ). after q b f.front) (bare_is means k.1) ∙ ap (λ (v : ℕ). v ∷ f.front) second in
          made (after p b) bytes f.front o.0.2 (spells.row27 o.0.0 f.front o.0.1 (less 3 o.0.0 u.0) f.spelled) same f.parts f.fits x z.1
      | inr u ↦
          let w = bind_some (width_of c byte) _ x u.1 in
          let h = width_is means byte w.0 w.1 in
          elim (chosen (o.0.0 == 0) _ _ x w.2) [
            | inl v ↦
                let n = bind_some (imm_at w.0 o.0.2) _ x v.1 in
                let g = imm_found w.0 o.0.2 n.0 f.fits n.1 in
                made (after p b) bytes (f.front ++ imm w.0 n.0.0) n.0.1 (spells.row9 n.0.0 w.0 f.front o.0.1 (at_reg o.0.0 0 v.0 f.spelled) g.1) (pair_ended h b 0xF6 t f.front (imm w.0 n.0.0)) (then bytes f.front o.0.2 (imm w.0 n.0.0) n.0.1 f.parts g.0) g.2 x n.2
            | inr v ↦ elim (chosen (o.0.0 == 2) _ _ x v.1) [
              | inl y ↦ made (after p b) bytes f.front o.0.2 (spells.row20_not w.0 f.front o.0.1 (at_reg o.0.0 2 y.0 f.spelled)) (paired h b 0xF6 t _) f.parts f.fits x y.1
              | inr y ↦
                  let z = guarded (o.0.0 == 3) _ x y.1 in
                  made (after p b) bytes f.front o.0.2 (spells.row20_neg w.0 f.front o.0.1 (at_reg o.0.0 3 z.0 f.spelled)) (paired h b 0xF6 t _) f.parts f.fits x z.1
            ]
          ]
    ]

step_found : {c : Prefixes} {p : List ℕ} → Means c p → (byte : Bool) (b : ℕ) (bytes : List ℕ) (x : Done) → opcode_test (opcode.Step byte) b ≡ true → IsBytes bytes → step_at c byte bytes ≡ Some x → Arm (after p b) bytes x
unfolding step_at
step_found {c} {p} means byte b bytes x t fits e =
    let o = bind_some (operand_at bytes) _ x e in
    let f = operand_found bytes o.0 fits o.1 in
    elim (chosen (o.0.0 == 0) _ _ x o.2) [
      | inl u ↦
          let w = bind_some (width_of c byte) _ x u.1 in
          made (after p b) bytes f.front o.0.2 (spells.row19_inc w.0 f.front o.0.1 (at_reg o.0.0 0 u.0 f.spelled)) (paired (width_is means byte w.0 w.1) b 0xFE t _) f.parts f.fits x w.2
      | inr u ↦ elim (chosen (o.0.0 == 1) _ _ x u.1) [
        | inl v ↦
            let w = bind_some (width_of c byte) _ x v.1 in
            made (after p b) bytes f.front o.0.2 (spells.row19_dec w.0 f.front o.0.1 (at_reg o.0.0 1 v.0 f.spelled)) (paired (width_is means byte w.0 w.1) b 0xFE t _) f.parts f.fits x w.2
        | inr v ↦ elim (chosen byte _ _ x v.1) [
          | inl y ↦ absurd (none_is x y.1)
          | inr y ↦
              let second : b ≡ 0xFF = is b (of_byte byte 0xFE) t ∙ ap (λ (v : Bool). of_byte v 0xFE) y.0 in
              let same : after p b f.front ≡ p ++ 0xFF ∷ f.front = ap (λ (v : ℕ). p ++ v ∷ f.front) second in
              elim (chosen (o.0.0 == 2) _ _ x y.1) [
                | inl i ↦
                    let z = guarded (is_near c) _ x i.1 in
                    made (after p b) bytes f.front o.0.2 (spells.row46 p f.front o.0.1 (near_is means z.0) (at_reg o.0.0 2 i.0 f.spelled)) same f.parts f.fits x z.1
                | inr i ↦ elim (chosen (o.0.0 == 4) _ _ x i.1) [
                  | inl j ↦
                      let z = guarded (is_near c) _ x j.1 in
                      made (after p b) bytes f.front o.0.2 (spells.row44 p f.front o.0.1 (near_is means z.0) (at_reg o.0.0 4 j.0 f.spelled)) same f.parts f.fits x z.1
                  | inr j ↦
                      let k = guarded (o.0.0 == 6) _ x j.1 in
                      let z = guarded (is_bare c) _ x k.1 in
                      made (after p b) bytes f.front o.0.2 (spells.row24 f.front o.0.1 (at_reg o.0.0 6 k.0 f.spelled)) (same ∙ ap (λ (q : List ℕ). q ++ 0xFF ∷ f.front) (bare_is means z.0)) f.parts f.fits x z.1
                ]
              ]
        ]
      ]
    ]

-- ---- shifts and rotations

-- the bytes of a count
data IsBy : By → List ℕ → Count → Type 0 where
  by_one : IsBy by.One [] (count.Imm 1)
  by_byte : (n : ℕ) → n < 256 → IsBy by.Byte (n ∷ []) (count.Imm n)
  by_cl : IsBy by.Cl [] count.Cl

by_found : (way : By) (bytes : List ℕ) (x : Count × List ℕ) → IsBytes bytes → by_at way bytes ≡ Some x → Takes (λ f. IsBy way f x.0) bytes x.1
unfolding by_at
by_found by.One bytes x fits e = subst (λ (y : Count × List ℕ). Takes (λ f. IsBy by.One f y.0) bytes y.1) (some_is (count.Imm 1, bytes) x e) (record { front = []; spelled = by_one; parts = refl; fits = fits })
by_found by.Byte bytes x fits e =
    let n = bind_some (byte_at bytes) _ x e in
    let g = byte_found bytes n.0 fits n.1 in
    subst (λ (y : Count × List ℕ). Takes (λ f. IsBy by.Byte f y.0) bytes y.1) (some_is (count.Imm n.0.0, n.0.1) x n.2) (record { front = n.0.0 ∷ []; spelled = by_byte n.0.0 g.1; parts = g.0; fits = g.2 })
by_found by.Cl bytes x fits e = subst (λ (y : Count × List ℕ). Takes (λ f. IsBy by.Cl f y.0) bytes y.1) (some_is (count.Cl, bytes) x e) (record { front = []; spelled = by_cl; parts = refl; fits = fits })

rotate_row : {way : By} {n m : List ℕ} {k : Count} {g : ℕ} {right : Bool} {a : Rm} → IsBy way n k → RotateField g right → Operand m g a → Row (of_byte false (first_by way) ∷ (m ++ n)) (inst.Rotate right a k)
rotate_row {m = m} {k = k} {right = right} {a = a} by_one field there = subst (λ (q : List ℕ). Row (0xD1 ∷ q) (inst.Rotate right a (count.Imm 1))) (sym (append-nil m)) (spells.row34_one _ right m a field there)
rotate_row {m = m} {right = right} {a = a} (by_byte n lt) field there = spells.row34_byte _ n right m a field there lt
rotate_row {m = m} {right = right} {a = a} by_cl field there = subst (λ (q : List ℕ). Row (0xD3 ∷ q) (inst.Rotate right a count.Cl)) (sym (append-nil m)) (spells.row34_cl _ right m a field there)

shift_row : {way : By} {n m : List ℕ} {k : Count} {g : ℕ} {op : ShiftOp} {a : Rm} → IsBy way n k → ShiftField g op → Operand m g a → (w : Width) → Row (pair w (first_by way) ++ (m ++ n)) (inst.Shift op w a k)
shift_row {m = m} {op = op} {a = a} by_one field there w = subst (λ (q : List ℕ). Row (pair w 0xD0 ++ q) (inst.Shift op w a (count.Imm 1))) (sym (append-nil m)) (spells.row31 _ op w m a field there)
shift_row {m = m} {op = op} {a = a} (by_byte n lt) field there w = subst (λ (q : List ℕ). Row q (inst.Shift op w a (count.Imm n))) (append_assoc (pair w 0xC0) m (n ∷ [])) (spells.row32 _ n op w m a field there lt)
shift_row {m = m} {op = op} {a = a} by_cl field there w = subst (λ (q : List ℕ). Row (pair w 0xD2 ++ q) (inst.Shift op w a count.Cl)) (sym (append-nil m)) (spells.row33 _ op w m a field there)

rotate_field : (g : ℕ) → nat_lt g 2 ≡ true → RotateField g (g == 1)
rotate_field zero e = spells.left
rotate_field (suc zero) e = spells.right
rotate_field (suc (suc g)) e = absurd (omega (arith, less (suc (suc g)) 2 e))

shift_field : (g : ℕ) (op : ShiftOp) → shift_of g ≡ Some op → ShiftField g op
shift_field g op e =
    elim (chosen (g == 4) _ _ op e) [
      | inl u ↦ rw (is g 4 u.0) (subst (λ (o : ShiftOp). ShiftField 4 o) (some_is Shl op u.1) spells.shl)
      | inr u ↦ elim (chosen (g == 5) _ _ op u.1) [
        | inl v ↦ rw (is g 5 v.0) (subst (λ (o : ShiftOp). ShiftField 5 o) (some_is Shr op v.1) spells.shr)
        | inr v ↦
            let z = guarded (g == 7) _ op v.1 in
            rw (is g 7 z.0) (subst (λ (o : ShiftOp). ShiftField 7 o) (some_is Sar op z.1) spells.sar)
      ]
    ]

shift_found : {c : Prefixes} {p : List ℕ} → Means c p → (way : By) (byte : Bool) (b : ℕ) (bytes : List ℕ) (x : Done) → opcode_test (opcode.Shift way byte) b ≡ true → IsBytes bytes → shift_at c way byte bytes ≡ Some x → Arm (after p b) bytes x
unfolding shift_at
shift_found {c} {p} means way byte b bytes x t fits e =
    let o = bind_some (operand_at bytes) _ x e in
    let f = operand_found bytes o.0 fits o.1 in
    let n = bind_some (by_at way o.0.2) _ x o.2 in
    let g = by_found way o.0.2 n.0 f.fits n.1 in
    let parts = then bytes f.front o.0.2 g.front n.0.1 f.parts g.parts in
    elim (chosen (nat_lt o.0.0 2) _ _ x n.2) [
      | inl u ↦
          let z = guarded (not byte && is_bare c) _ x u.1 in
          let k = both_true (not byte) (is_bare c) z.0 in
          let second : b ≡ of_byte false (first_by way) = is b (of_byte byte (first_by way)) t ∙ ap (λ (v : Bool). of_byte v (first_by way)) (not_true byte k.0) in
          let same : after p b (f.front ++ g.front) ≡ of_byte false (first_by way) ∷ (f.front ++ g.front) = ap (λ (q : List ℕ). after q b (f.front ++ g.front)) (bare_is means k.1) ∙ ap (λ (v : ℕ). v ∷ (f.front ++ g.front)) second in
          made (after p b) bytes (f.front ++ g.front) n.0.1 (rotate_row g.spelled (rotate_field o.0.0 u.0) f.spelled) same parts g.fits x z.1
      | inr u ↦
          let w = bind_some (width_of c byte) _ x u.1 in
          let s = bind_some (shift_of o.0.0) _ x w.2 in
          made (after p b) bytes (f.front ++ g.front) n.0.1 (shift_row g.spelled (shift_field o.0.0 s.0 s.1) f.spelled w.0) (paired (width_is means byte w.0 w.1) b (first_by way) t _) parts g.fits x s.2
    ]

-- ---- opcodes of two bytes

abbrev behind : List ℕ → ℕ → List ℕ → List ℕ
behind p b f = p ++ 0x0F ∷ b ∷ f

hint_found : {c : Prefixes} {p : List ℕ} → Means c p → (b : ℕ) (bytes : List ℕ) (x : Done) → (b == 0x1F) ≡ true → IsBytes bytes → hint_at c bytes ≡ Some x → Arm (behind p b) bytes x
unfolding hint_at
hint_found {c} {p} means b bytes x t fits e =
    let v = bind_some (padding_of c) _ x e in
    let o = bind_some (operand_at bytes) _ x v.2 in
    let f = operand_found bytes o.0 fits o.1 in
    let z = guarded (o.0.0 == 0) _ x o.2 in
    made (behind p b) bytes f.front o.0.2 (spells.row55_long v.0 p f.front o.0.1 (padding_is means v.0 v.1) (at_reg o.0.0 0 z.0 f.spelled)) (ap (λ (k : ℕ). p ++ 0x0F ∷ k ∷ f.front) (is b 0x1F t)) f.parts f.fits x z.1

repeat_is : {c : Prefixes} {p : List ℕ} → Means c p → is_repeat c ≡ true → p ≡ 0xF3 ∷ []
repeat_is bare e = absurd cc
repeat_is size_only e = absurd cc
repeat_is repeat e = refl
repeat_is size_repeat e = absurd cc
repeat_is repeat_size e = absurd cc
repeat_is branch e = absurd cc
repeat_is (padding p wide h) e = absurd cc
repeat_is (other p) e = absurd cc

end_branch_found : {c : Prefixes} {p : List ℕ} → Means c p → (b : ℕ) (bytes : List ℕ) (x : Done) → (b == 0x1E) ≡ true → IsBytes bytes → end_branch_at c bytes ≡ Some x → Arm (behind p b) bytes x
unfolding end_branch_at
end_branch_found {c} {p} means b bytes x t fits e =
    let n = bind_some (byte_at bytes) _ x e in
    let g = byte_found bytes n.0 fits n.1 in
    let z = guarded (is_repeat c && (n.0.0 == 0xFB)) _ x n.2 in
    let k = both_true (is_repeat c) (n.0.0 == 0xFB) z.0 in
    let same : behind p b (n.0.0 ∷ []) ≡ 0xF3 ∷ 0x0F ∷ 0x1E ∷ 0xFB ∷ [] = ap (λ (q : List ℕ). behind q b (n.0.0 ∷ [])) (repeat_is means k.0) ∙ ap (λ (v : ℕ). 0xF3 ∷ 0x0F ∷ v ∷ n.0.0 ∷ []) (is b 0x1E t) ∙ ap (λ (v : ℕ). 0xF3 ∷ 0x0F ∷ 0x1E ∷ v ∷ []) (is n.0.0 0xFB k.1) in
    made (behind p b) bytes (n.0.0 ∷ []) n.0.1 spells.row55_end same g.0 g.2 x z.1

sized_two : {w : Width} {p : List ℕ} → IsWidth false w p → (b o : ℕ) → (b == o) ≡ true → (f : List ℕ) → behind p b f ≡ size w ++ 0x0F ∷ o ∷ f
sized_two {w} {p} h b o e f = ap (λ (k : ℕ). p ++ 0x0F ∷ k ∷ f) (is b o e) ∙ ap (λ (q : List ℕ). q ++ 0x0F ∷ o ∷ f) (size_front h).1

extend_found : {c : Prefixes} {p : List ℕ} → Means c p → (signed : Bool) (b : ℕ) (bytes : List ℕ) (x : Done) → second_test (second.ExtendByte signed) b ≡ true → IsBytes bytes → extend_at c signed bytes ≡ Some x → Arm (behind p b) bytes x
unfolding extend_at
extend_found {c} {p} means true b bytes x t fits e =
    let w = bind_some (width_of c false) _ x e in
    let h = width_is means false w.0 w.1 in
    let o = bind_some (operand_at bytes) _ x w.2 in
    let f = operand_found bytes o.0 fits o.1 in
    made (behind p b) bytes f.front o.0.2 (spells.row36_signed o.0.0 w.0 f.front o.0.1 (size_front h).0 f.spelled) (sized_two h b 0xBE t _) f.parts f.fits x o.2
extend_found {c} {p} means false b bytes x t fits e =
    let w = bind_some (width_of c false) _ x e in
    let h = width_is means false w.0 w.1 in
    let o = bind_some (operand_at bytes) _ x w.2 in
    let f = operand_found bytes o.0 fits o.1 in
    made (behind p b) bytes f.front o.0.2 (spells.row36_zero o.0.0 w.0 f.front o.0.1 (size_front h).0 f.spelled) (sized_two h b 0xB6 t _) f.parts f.fits x o.2

bare_two : {c : Prefixes} {p : List ℕ} → Means c p → is_bare c ≡ true → (b o : ℕ) → (b == o) ≡ true → (f : List ℕ) → behind p b f ≡ 0x0F ∷ o ∷ f
bare_two {c} {p} means z b o e f = ap (λ (q : List ℕ). behind q b f) (bare_is means z) ∙ ap (λ (k : ℕ). 0x0F ∷ k ∷ f) (is b o e)

second_found : {c : Prefixes} {p : List ℕ} → Means c p → (s : Second) (b : ℕ) (bytes : List ℕ) (x : Done) → second_test s b ≡ true → IsBytes bytes → second_at c s bytes ≡ Some x → Arm (behind p b) bytes x
unfolding second_at
second_found means second.Hint b bytes x t fits e = hint_found means b bytes x t fits e
second_found means second.EndBranch b bytes x t fits e = end_branch_found means b bytes x t fits e
second_found means (second.ExtendByte signed) b bytes x t fits e = extend_found means signed b bytes x t fits e
second_found {c} {p} means (second.ExtendWord true) b bytes x t fits e =
    let z = guarded (is_bare c) _ x e in
    let o = bind_some (operand_at bytes) _ x z.1 in
    let f = operand_found bytes o.0 fits o.1 in
    made (behind p b) bytes f.front o.0.2 (spells.row37_signed o.0.0 f.front o.0.1 f.spelled) (bare_two means z.0 b 0xBF t _) f.parts f.fits x o.2
second_found {c} {p} means (second.ExtendWord false) b bytes x t fits e =
    let z = guarded (is_bare c) _ x e in
    let o = bind_some (operand_at bytes) _ x z.1 in
    let f = operand_found bytes o.0 fits o.1 in
    made (behind p b) bytes f.front o.0.2 (spells.row37_zero o.0.0 f.front o.0.1 f.spelled) (bare_two means z.0 b 0xB7 t _) f.parts f.fits x o.2
second_found {c} {p} means (second.Cmov k) b bytes x t fits e =
    let z = guarded (is_bare c) _ x e in
    let o = bind_some (operand_at bytes) _ x z.1 in
    let f = operand_found bytes o.0 fits o.1 in
    let q = both_true (nat_lt k 16) _ t in
    made (behind p b) bytes f.front o.0.2 (spells.row39 k o.0.0 f.front o.0.1 (less k 16 q.0) f.spelled) (bare_two means z.0 b (0x40 + k) q.1 _) f.parts f.fits x o.2
second_found {c} {p} means (second.Setcc k) b bytes x t fits e =
    let z = guarded (is_bare c) _ x e in
    let o = bind_some (operand_at bytes) _ x z.1 in
    let f = operand_found bytes o.0 fits o.1 in
    let q = both_true (nat_lt k 16) _ t in
    made (behind p b) bytes f.front o.0.2 (spells.row38 k o.0.0 f.front o.0.1 (less k 16 q.0) f.spelled) (bare_two means z.0 b (0x90 + k) q.1 _) f.parts f.fits x o.2
second_found {c} {p} means second.Imul b bytes x t fits e =
    let z = guarded (is_bare c) _ x e in
    let o = bind_some (operand_at bytes) _ x z.1 in
    let f = operand_found bytes o.0 fits o.1 in
    made (behind p b) bytes f.front o.0.2 (spells.row28 o.0.0 f.front o.0.1 f.spelled) (bare_two means z.0 b 0xAF t _) f.parts f.fits x o.2
second_found {c} {p} means (second.Jcc k) b bytes x t fits e =
    let z = guarded (is_bare c) _ x e in
    let n = bind_some (four_at bytes) _ x z.1 in
    let g = four_found bytes n.0 fits n.1 in
    let q = both_true (nat_lt k 16) _ t in
    made (behind p b) bytes (four n.0.0) n.0.1 (spells.row40 k n.0.0 (less k 16 q.0) g.1) (bare_two means z.0 b (0x80 + k) q.1 _) g.0 g.2 x n.2

escape_found : {c : Prefixes} {p : List ℕ} → Means c p → (b : ℕ) (bytes : List ℕ) (x : Done) → (b == 0x0F) ≡ true → IsBytes bytes → escape_at c bytes ≡ Some x → Arm (after p b) bytes x
unfolding escape_at
escape_found {c} {p} means b bytes x t fits e =
    let n = bind_some (byte_at bytes) _ x e in
    let g = byte_found bytes n.0 fits n.1 in
    let s = bind_some (second_of n.0.0) _ x n.2 in
    let f = second_found means s.0 n.0.0 n.0.1 x (second_is n.0.0 s.0 g.1 s.1) g.2 s.2 in
    let row : Row (after p b (n.0.0 ∷ f.front)) x.0 = subst (λ (k : ℕ). Row (p ++ k ∷ n.0.0 ∷ f.front) x.0) (sym (is b 0x0F t)) f.spelled in
    record { front = n.0.0 ∷ f.front; spelled = row; parts = g.0 ∙ ap (λ (w : List ℕ). n.0.0 ∷ w) f.parts; fits = f.fits }

-- ---- all opcodes

nop_found : {c : Prefixes} {p : List ℕ} → Means c p → is_nop c ≡ true → Row (p ++ 0x90 ∷ []) inst.Nop
nop_found bare e = spells.row54
nop_found size_only e = spells.row55_size
nop_found repeat e = spells.row55_pause
nop_found size_repeat e = absurd cc
nop_found repeat_size e = absurd cc
nop_found branch e = absurd cc
nop_found (padding p wide h) e = absurd cc
nop_found (other p) e = absurd cc

opcode_found : {c : Prefixes} {p : List ℕ} → Means c p → (o : Opcode) (b : ℕ) (bytes : List ℕ) (x : Done) → opcode_test o b ≡ true → IsBytes bytes → opcode_at c o bytes ≡ Some x → Arm (after p b) bytes x
unfolding opcode_at
opcode_found {c} {p} means (opcode.Simple s) b bytes x t fits e =
    let z = guarded (is_bare c) _ x e in
    subst (λ (q : List ℕ). Arm (after q b) bytes x) (sym (bare_is means z.0)) (simple_found s b bytes x t fits z.1)
opcode_found means (opcode.Binary op byte) b bytes x t fits e = binary_found means op byte b bytes x t fits e
opcode_found means (opcode.Constant op byte) b bytes x t fits e = constant_found means op byte b bytes x t fits e
opcode_found means (opcode.AluConstant extended) b bytes x t fits e = alu_constant_found means extended b bytes x t fits e
opcode_found means (opcode.MovConstant byte) b bytes x t fits e = mov_constant_found means byte b bytes x t fits e
opcode_found means (opcode.Absolute store byte) b bytes x t fits e = absolute_found means store byte b bytes x t fits e
opcode_found means opcode.Lea b bytes x t fits e = lea_found means b bytes x t fits e
opcode_found {c} {p} means (opcode.Exchange r) b bytes x t fits e =
    let w = bind_some (width_of c false) _ x e in
    let h = width_is means false w.0 w.1 in
    let k = both_true (nat_lt r 8) _ t in
    let l = both_true (nat_lt 0 r) _ k.1 in
    made (after p b) bytes [] bytes (spells.row17 r w.0 (size_front h).0 (less 0 r l.0) (less r 8 k.0)) (sized h b (0x90 + r) l.1 []) refl fits x w.2
opcode_found {c} {p} means (opcode.Inc r) b bytes x t fits e =
    let w = bind_some (width_of c false) _ x e in
    let h = width_is means false w.0 w.1 in
    let k = both_true (nat_lt r 8) _ t in
    made (after p b) bytes [] bytes (spells.row18_inc r w.0 (size_front h).0 (less r 8 k.0)) (sized h b (0x40 + r) k.1 []) refl fits x w.2
opcode_found {c} {p} means (opcode.Dec r) b bytes x t fits e =
    let w = bind_some (width_of c false) _ x e in
    let h = width_is means false w.0 w.1 in
    let k = both_true (nat_lt r 8) _ t in
    made (after p b) bytes [] bytes (spells.row18_dec r w.0 (size_front h).0 (less r 8 k.0)) (sized h b (0x48 + r) k.1 []) refl fits x w.2
opcode_found means (opcode.Unary byte) b bytes x t fits e = unary_found means byte b bytes x t fits e
opcode_found means (opcode.Step byte) b bytes x t fits e = step_found means byte b bytes x t fits e
opcode_found means (opcode.Shift way byte) b bytes x t fits e = shift_found means way byte b bytes x t fits e
opcode_found {c} {p} means opcode.Ret b bytes x t fits e =
    let z = guarded (is_return c) _ x e in
    made (after p b) bytes [] bytes (spells.row47 p (return_is means z.0)) (plainly p b 0xC3 t []) refl fits x z.1
opcode_found {c} {p} means (opcode.Movs byte) b bytes x t fits e =
    let w = bind_some (string_of c byte) _ x e in
    let s = string_is means byte w.0 w.1 in
    made (after p b) bytes [] bytes (spells.row50 w.0.0 w.0.1 p s.0) (ap (λ (k : ℕ). p ++ k ∷ []) (is b (of_byte byte 0xA4) t ∙ s.1 0xA4)) refl fits x w.2
opcode_found {c} {p} means (opcode.Stos byte) b bytes x t fits e =
    let w = bind_some (string_of c byte) _ x e in
    let s = string_is means byte w.0 w.1 in
    made (after p b) bytes [] bytes (spells.row51 w.0.0 w.0.1 p s.0) (ap (λ (k : ℕ). p ++ k ∷ []) (is b (of_byte byte 0xAA) t ∙ s.1 0xAA)) refl fits x w.2
opcode_found {c} {p} means opcode.Nop b bytes x t fits e =
    let z = guarded (is_nop c) _ x e in
    made (after p b) bytes [] bytes (nop_found means z.0) (plainly p b 0x90 t []) refl fits x z.1
opcode_found means opcode.Escape b bytes x t fits e = escape_found means b bytes x t fits e

pub inst_found : (bytes : List ℕ) (x : Done) → IsBytes bytes → inst_at bytes ≡ Some x → Takes (λ f. Row f x.0) bytes x.1
unfolding inst_at behind_at
inst_found bytes x fits e =
    let f = prefixes_found Bare [] bytes bare fits in
    let b = bind_some (byte_at (prefixes_at Bare bytes).1) _ x e in
    let g = byte_found (prefixes_at Bare bytes).1 b.0 f.fits b.1 in
    let o = bind_some (opcode_of b.0.0) _ x b.2 in
    let r = opcode_found f.means o.0 b.0.0 b.0.1 x (opcode_is b.0.0 o.0 g.1 o.1) g.2 o.2 in
    record {
      front = f.front ++ b.0.0 ∷ r.front;
      spelled = r.spelled;
      parts = f.parts ∙ ap (λ (t : List ℕ). f.front ++ t) (g.0 ∙ ap (λ (t : List ℕ). b.0.0 ∷ t) r.parts) ∙ sym (append_assoc f.front (b.0.0 ∷ r.front) x.1);
      fits = r.fits;
    }
