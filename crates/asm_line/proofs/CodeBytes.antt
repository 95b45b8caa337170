-- What a form gives are bytes.
use Rattle.std.proofs.Common.{◌≡◌, ℕ, zero, suc, ◌+◌, ◌-◌, ◌*◌, ◌/◌, ◌%◌, ◌^◌, ◌<◌, ◌≤◌, ◌&&◌, not, Bool, true, false, cond, leb, ltb, eqb, List, [], ◌∷◌, ◌++◌, Option, Some, None, refl, arith, lit<}
use Rattle.std.specs.Prelude.{length, slice_index_or}
use Rattle.std.proofs.lemmas.Bool.{and_parts, and_from, leb-true, ltb-true, lt-ltb}
use Rattle.br_word.specs.declared.types.ShiftOp.{ShiftOp}
use Rattle.br_word.specs.declared.types.ShiftOp.TheVariants.{Shl, Shr, Sar}
use Rattle.br_word.specs.declared.types.Width.{Width}
use Rattle.br_word.specs.declared.types.Width.TheVariants.{B8, B16, B32}
use Rattle.ia_inst.specs.declared.inst.Rm.{Rm}
use Rattle.ia_inst.specs.declared.inst.Rm.TheVariants.{Reg, Mem}
use Rattle.ia_inst.specs.declared.inst.Src.{Src}
use Rattle.ia_inst.specs.declared.inst.Src.TheVariants as src
use Rattle.ia_inst.specs.declared.inst.Count.{Count}
use Rattle.ia_inst.specs.declared.inst.Count.TheVariants as count
use Rattle.ia_inst.specs.declared.inst.Inst.{Inst}
use Rattle.ia_inst.specs.declared.inst.Inst.TheVariants as inst
use Rattle.ia_inst.specs.Operands.{two, four, fields}
use Rattle.ia_inst.specs.Spells.{size, pair, imm}
use Rattle.ia_inst.specs.Canonical.{imm_valid, base_valid, index_valid, address_valid, rm_valid, move_valid, test_valid, source_valid, count_valid, is_long, widens, valid_of, fits_byte, mode, displacement, log, based_bytes, memory_bytes, operand_bytes, fits_extended, alu_bytes, test_bytes, mov_bytes, step_bytes, push_bytes, pop_bytes, imul_bytes, shift_reg, shift_bytes, rotate_reg, rotate_bytes, extend_bytes, string_bytes, canonical}
use Rattle.asm_line.specs.declared.transfers.Transfer.TheVariants.{Jcc, Jmp, Call}
use Rattle.asm_inst.specs.Operands.{digit_of}
use Rattle.asm_inst.specs.Shapes.{distance}
use Rattle.asm_line.specs.Forms.{Form, Nothing, Label, Bytes, Stands, Goes, is_label, value_of, or_zero, values, instruction_of, is_transfer, is_form, bytes_of_form}
use Rattle.asm_line.specs.Laws.{FormsGiveBytes, TransfersAreValid}

-- each is below 256, as a test
abbrev small : List ℕ → Bool
small [] = true
small (x ∷ xs) = ltb x 256 && small xs

from_small : (xs : List ℕ) (k d : ℕ) → small xs ≡ true → k < length xs → slice_index_or xs k d < 256
from_small [] k d h l = absurd (omega arith)
from_small (x ∷ xs) zero d h l = ltb-true x 256 ((and_parts (ltb x 256) (small xs) h).0)
from_small (x ∷ xs) (suc k) d h l = from_small xs k d ((and_parts (ltb x 256) (small xs) h).1) (omega arith)

joined : (xs ys : List ℕ) → small xs ≡ true → small ys ≡ true → small (xs ++ ys) ≡ true
joined [] ys h k = k
joined (x ∷ xs) ys h k =
    let p = and_parts (ltb x 256) (small xs) h in
    and_from (ltb x 256) (small (xs ++ ys)) p.0 (joined xs ys p.1 k)

before : (x : ℕ) (xs : List ℕ) → x < 256 → small xs ≡ true → small (x ∷ xs) ≡ true
before x xs l h = and_from (ltb x 256) (small xs) (lt-ltb x 256 l) h

chosen : (t : Bool) (xs ys : List ℕ) → small xs ≡ true → small ys ≡ true → small (cond t xs ys) ≡ true
chosen true xs ys h k = h
chosen false xs ys h k = k

-- ---- numbers

low : (n : ℕ) → small (n % 256 ∷ []) ≡ true
low n = before (n % 256) [] (omega arith) refl

two_small : (n : ℕ) → small (two n) ≡ true
two_small n = before (n % 256) (n / 256 ^ 1 % 256 ∷ []) (omega arith) (low (n / 256 ^ 1))

four_small : (n : ℕ) → small (four n) ≡ true
four_small n =
    before (n % 256) (n / 256 ^ 1 % 256 ∷ n / 256 ^ 2 % 256 ∷ n / 256 ^ 3 % 256 ∷ []) (omega arith)
    (before (n / 256 ^ 1 % 256) (n / 256 ^ 2 % 256 ∷ n / 256 ^ 3 % 256 ∷ []) (omega arith)
    (before (n / 256 ^ 2 % 256) (n / 256 ^ 3 % 256 ∷ []) (omega arith) (low (n / 256 ^ 3))))

imm_small : (w : Width) (n : ℕ) → imm_valid w n ≡ true → small (imm w n) ≡ true
imm_small B8 n v = before n [] (ltb-true n 256 v) refl
imm_small B16 n v = two_small n
imm_small B32 n v = four_small n

pair_small : (w : Width) (o : ℕ) → o < 255 → small (pair w o) ≡ true
pair_small B8 o l = before o [] (omega arith) refl
pair_small B16 o l = before (o + 1) [] (omega arith) refl
pair_small B32 o l = before (o + 1) [] (omega arith) refl

-- ---- operands

fields_small : (m g r : ℕ) → m < 4 → g < 8 → r < 8 → fields m g r < 256
fields_small m g r k l h = omega arith

below_four : (t : Bool) (a b : ℕ) → a < 4 → b < 4 → cond t a b < 4
below_four true a b h k = h
below_four false a b h k = k

mode_small : (r d : ℕ) → mode r d < 4
mode_small r d = below_four (eqb d 0 && not (eqb r 5)) 0 (cond (fits_byte d) 1 2) (lit< tt) (below_four (fits_byte d) 1 2 (lit< tt) (lit< tt))

log_small : (s : ℕ) → log s < 4
log_small s =
    below_four (eqb s 1) 0 _ (lit< tt) (below_four (eqb s 2) 1 _ (lit< tt) (below_four (eqb s 4) 2 3 (lit< tt) (lit< tt)))

displacement_small : (r d : ℕ) → small (displacement r d) ≡ true
displacement_small r d = chosen (eqb d 0 && not (eqb r 5)) [] (cond (fits_byte d) (d % 256 ∷ []) (four d)) refl (chosen (fits_byte d) (d % 256 ∷ []) (four d) (low d) (four_small d))

index_below : (x : ℕ × ℕ) → index_valid (Some x) ≡ true → x.0 < 8
index_below x v =
    let p = and_parts (ltb x.0 8 && not (eqb x.0 4)) _ v in
    ltb-true x.0 8 ((and_parts (ltb x.0 8) (not (eqb x.0 4)) p.0).0)

based_small : (g r : ℕ) (x : Option (ℕ × ℕ)) (d : ℕ) → g < 8 → r < 8 → index_valid x ≡ true → small (based_bytes g r x d) ≡ true
based_small g r None d l h v =
    let rest = displacement r d in
    let both = fields 0 4 r ∷ rest in
    chosen (eqb r 4) (fields (mode r d) g 4 ∷ both) (fields (mode r d) g r ∷ rest)
    (before (fields (mode r d) g 4) both (fields_small (mode r d) g 4 (mode_small r d) l (lit< tt)) (before (fields 0 4 r) rest (fields_small 0 4 r (lit< tt) (lit< tt) h) (displacement_small r d)))
    (before (fields (mode r d) g r) rest (fields_small (mode r d) g r (mode_small r d) l h) (displacement_small r d))
based_small g r (Some x) d l h v =
    let rest = displacement r d in
    before (fields (mode r d) g 4) (fields (log x.1) x.0 r ∷ rest) (fields_small (mode r d) g 4 (mode_small r d) l (lit< tt))
    (before (fields (log x.1) x.0 r) rest (fields_small (log x.1) x.0 r (log_small x.1) (index_below x v) h) (displacement_small r d))

memory_small : (g : ℕ) (b : Option ℕ) (x : Option (ℕ × ℕ)) (d : ℕ) → g < 8 → base_valid b ≡ true → index_valid x ≡ true → small (memory_bytes g b x d) ≡ true
memory_small g None None d l u v = before (fields 0 g 5) (four d) (fields_small 0 g 5 (lit< tt) l (lit< tt)) (four_small d)
memory_small g None (Some x) d l u v =
    before (fields 0 g 4) (fields (log x.1) x.0 5 ∷ four d) (fields_small 0 g 4 (lit< tt) l (lit< tt))
    (before (fields (log x.1) x.0 5) (four d) (fields_small (log x.1) x.0 5 (log_small x.1) (index_below x v) (lit< tt)) (four_small d))
memory_small g (Some r) x d l u v = based_small g r x d l (ltb-true r 8 u) v

operand_small : (g : ℕ) (a : Rm) → g < 8 → rm_valid a ≡ true → small (operand_bytes g a) ≡ true
operand_small g (Reg r) l v = before (fields 3 g r) [] (fields_small 3 g r (lit< tt) l (ltb-true r 8 v)) refl
operand_small g (Mem a) l v =
    let p = and_parts (base_valid a.base) (index_valid a.index && imm_valid B32 a.disp) v in
    let q = and_parts (index_valid a.index) (imm_valid B32 a.disp) p.1 in
    memory_small g a.base a.index a.disp l p.0 q.0

-- an opcode with its prefixes, an operand, and an immediate
long : (x : List ℕ) (g : ℕ) (a : Rm) (y : List ℕ) → small x ≡ true → g < 8 → rm_valid a ≡ true → small y ≡ true → small ((x ++ operand_bytes g a) ++ y) ≡ true
long x g a y h l v k = joined (x ++ operand_bytes g a) y (joined x (operand_bytes g a) h (operand_small g a l v)) k

plain : (x : List ℕ) (g : ℕ) (a : Rm) → small x ≡ true → g < 8 → rm_valid a ≡ true → small (x ++ operand_bytes g a) ≡ true
plain x g a h l v = joined x (operand_bytes g a) h (operand_small g a l v)

-- ---- instructions

alu_small : (k : ℕ) (w : Width) (a : Rm) (s : Src) → k < 8 → move_valid w a s ≡ true → small (alu_bytes k w a s) ≡ true
alu_small k w (Reg q) (src.Rm (Reg r)) l v =
    let p = and_parts (rm_valid (Reg q)) (ltb r 8) v in
    plain (pair w (8 * k)) r (Reg q) (pair_small w (8 * k) (omega arith)) (ltb-true r 8 p.1) p.0
alu_small k w (Mem m) (src.Rm (Reg r)) l v =
    let p = and_parts (rm_valid (Mem m)) (ltb r 8) v in
    plain (pair w (8 * k)) r (Mem m) (pair_small w (8 * k) (omega arith)) (ltb-true r 8 p.1) p.0
alu_small k w (Reg r) (src.Rm (Mem b)) l v =
    let p = and_parts (ltb r 8) (address_valid b) v in
    plain (pair w (8 * k + 2)) r (Mem b) (pair_small w (8 * k + 2) (omega arith)) (ltb-true r 8 p.0) p.1
alu_small k w (Mem a) (src.Rm (Mem b)) l v = refl
alu_small k B8 a (src.Imm n) l v =
    let p = and_parts (rm_valid a) (imm_valid B8 n) v in
    long (0x80 ∷ []) k a (n ∷ []) refl l p.0 (imm_small B8 n p.1)
alu_small k B16 a (src.Imm n) l v =
    let p = and_parts (rm_valid a) (imm_valid B16 n) v in
    chosen (fits_extended B16 n) (((0x66 ∷ 0x83 ∷ []) ++ operand_bytes k a) ++ ((n % 256) ∷ [])) (((0x66 ∷ 0x81 ∷ []) ++ operand_bytes k a) ++ two n) (long (0x66 ∷ 0x83 ∷ []) k a ((n % 256) ∷ []) refl l p.0 (low n)) (long (0x66 ∷ 0x81 ∷ []) k a (two n) refl l p.0 (two_small n))
alu_small k B32 a (src.Imm n) l v =
    let p = and_parts (rm_valid a) (imm_valid B32 n) v in
    chosen (fits_extended B32 n) (((0x83 ∷ []) ++ operand_bytes k a) ++ ((n % 256) ∷ [])) (((0x81 ∷ []) ++ operand_bytes k a) ++ four n) (long (0x83 ∷ []) k a ((n % 256) ∷ []) refl l p.0 (low n)) (long (0x81 ∷ []) k a (four n) refl l p.0 (four_small n))

test_small : (w : Width) (a : Rm) (s : Src) → test_valid w a s ≡ true → small (test_bytes w a s) ≡ true
test_small w a (src.Rm (Reg r)) v =
    let p = and_parts (rm_valid a) (ltb r 8) v in
    plain (pair w 0x84) r a (pair_small w 0x84 (lit< tt)) (ltb-true r 8 p.1) p.0
test_small w a (src.Rm (Mem b)) v = refl
test_small w a (src.Imm n) v =
    let p = and_parts (rm_valid a) (imm_valid w n) v in
    long (pair w 0xF6) 0 a (imm w n) (pair_small w 0xF6 (lit< tt)) (lit< tt) p.0 (imm_small w n p.1)

mov_small : (w : Width) (a : Rm) (s : Src) → move_valid w a s ≡ true → small (mov_bytes w a s) ≡ true
mov_small w (Reg q) (src.Rm (Reg r)) v =
    let p = and_parts (rm_valid (Reg q)) (ltb r 8) v in
    plain (pair w 0x88) r (Reg q) (pair_small w 0x88 (lit< tt)) (ltb-true r 8 p.1) p.0
mov_small w (Mem m) (src.Rm (Reg r)) v =
    let p = and_parts (rm_valid (Mem m)) (ltb r 8) v in
    plain (pair w 0x88) r (Mem m) (pair_small w 0x88 (lit< tt)) (ltb-true r 8 p.1) p.0
mov_small w (Reg r) (src.Rm (Mem b)) v =
    let p = and_parts (ltb r 8) (address_valid b) v in
    plain (pair w 0x8A) r (Mem b) (pair_small w 0x8A (lit< tt)) (ltb-true r 8 p.0) p.1
mov_small w (Mem a) (src.Rm (Mem b)) v = refl
mov_small B8 (Reg r) (src.Imm n) v =
    let p = and_parts (ltb r 8) (imm_valid B8 n) v in
    let l : r < 8 = ltb-true r 8 p.0 in
    before (0xB0 + r) (n ∷ []) (omega arith) (imm_small B8 n p.1)
mov_small B16 (Reg r) (src.Imm n) v =
    let l : r < 8 = ltb-true r 8 ((and_parts (ltb r 8) (imm_valid B16 n) v).0) in
    before (0xB8 + r) (two n) (omega arith) (two_small n)
mov_small B32 (Reg r) (src.Imm n) v =
    let l : r < 8 = ltb-true r 8 ((and_parts (ltb r 8) (imm_valid B32 n) v).0) in
    before (0xB8 + r) (four n) (omega arith) (four_small n)
mov_small w (Mem a) (src.Imm n) v =
    let p = and_parts (address_valid a) (imm_valid w n) v in
    long (pair w 0xC6) 0 (Mem a) (imm w n) (pair_small w 0xC6 (lit< tt)) (lit< tt) p.0 (imm_small w n p.1)

step_small : (o g : ℕ) (w : Width) (a : Rm) → o < 0x80 → g < 8 → rm_valid a ≡ true → small (step_bytes o g w a) ≡ true
step_small o g B16 (Reg r) k l v = let h : r < 8 = ltb-true r 8 v in before (o + r) [] (omega arith) refl
step_small o g B32 (Reg r) k l v = let h : r < 8 = ltb-true r 8 v in before (o + r) [] (omega arith) refl
step_small o g B8 (Reg r) k l v = plain (pair B8 0xFE) g (Reg r) refl l v
step_small o g w (Mem a) k l v = plain (pair w 0xFE) g (Mem a) (pair_small w 0xFE (lit< tt)) l v

push_small : (s : Src) → source_valid s ≡ true → small (push_bytes s) ≡ true
push_small (src.Rm (Reg r)) v = let h : r < 8 = ltb-true r 8 v in before (0x50 + r) [] (omega arith) refl
push_small (src.Rm (Mem a)) v = plain (0xFF ∷ []) 6 (Mem a) refl (lit< tt) v
push_small (src.Imm n) v = chosen (fits_byte n) (0x6A ∷ (n % 256) ∷ []) (0x68 ∷ four n) (low n) (four_small n)

pop_small : (a : Rm) → rm_valid a ≡ true → small (pop_bytes a) ≡ true
pop_small (Reg r) v = let h : r < 8 = ltb-true r 8 v in before (0x58 + r) [] (omega arith) refl
pop_small (Mem a) v = plain (0x8F ∷ []) 0 (Mem a) refl (lit< tt) v

imul_small : (g : ℕ) (a : Rm) (by : Option ℕ) → g < 8 → rm_valid a ≡ true → small (imul_bytes g a by) ≡ true
imul_small g a None l v = plain (0x0F ∷ 0xAF ∷ []) g a refl l v
imul_small g a (Some n) l v =
    chosen (fits_byte n) (((0x6B ∷ []) ++ operand_bytes g a) ++ ((n % 256) ∷ [])) (((0x69 ∷ []) ++ operand_bytes g a) ++ four n) (long (0x6B ∷ []) g a ((n % 256) ∷ []) refl l v (low n)) (long (0x69 ∷ []) g a (four n) refl l v (four_small n))

shift_reg_small : (op : ShiftOp) → shift_reg op < 8
shift_reg_small Shl = lit< tt
shift_reg_small Shr = lit< tt
shift_reg_small Sar = lit< tt

shift_small : (op : ShiftOp) (w : Width) (a : Rm) (n : Count) → rm_valid a ≡ true → count_valid n ≡ true → small (shift_bytes op w a n) ≡ true
shift_small op w a (count.Imm n) v u =
    chosen (eqb n 1) (pair w 0xD0 ++ operand_bytes (shift_reg op) a) ((pair w 0xC0 ++ operand_bytes (shift_reg op) a) ++ (n ∷ [])) (plain (pair w 0xD0) (shift_reg op) a (pair_small w 0xD0 (lit< tt)) (shift_reg_small op) v)
    (long (pair w 0xC0) (shift_reg op) a (n ∷ []) (pair_small w 0xC0 (lit< tt)) (shift_reg_small op) v (imm_small B8 n u))
shift_small op w a count.Cl v u = plain (pair w 0xD2) (shift_reg op) a (pair_small w 0xD2 (lit< tt)) (shift_reg_small op) v

rotate_reg_small : (right : Bool) → rotate_reg right < 8
rotate_reg_small true = lit< tt
rotate_reg_small false = lit< tt

rotate_small : (right : Bool) (a : Rm) (n : Count) → rm_valid a ≡ true → count_valid n ≡ true → small (rotate_bytes right a n) ≡ true
rotate_small right a (count.Imm n) v u =
    chosen (eqb n 1) ((0xD1 ∷ []) ++ operand_bytes (rotate_reg right) a) (((0xC1 ∷ []) ++ operand_bytes (rotate_reg right) a) ++ (n ∷ [])) (plain (0xD1 ∷ []) (rotate_reg right) a refl (rotate_reg_small right) v) (long (0xC1 ∷ []) (rotate_reg right) a (n ∷ []) refl (rotate_reg_small right) v (imm_small B8 n u))
rotate_small right a count.Cl v u = plain (0xD3 ∷ []) (rotate_reg right) a refl (rotate_reg_small right) v

sized_small : (w : Width) (x : List ℕ) → small x ≡ true → small (size w ++ x) ≡ true
sized_small B8 x h = h
sized_small B16 x h = h
sized_small B32 x h = h

extend_small : (signed : Bool) (from to : Width) (g : ℕ) (a : Rm) → g < 8 → rm_valid a ≡ true → small (extend_bytes signed from to g a) ≡ true
extend_small false B8 w g a l v = sized_small w (0x0F ∷ 0xB6 ∷ operand_bytes g a) (operand_small g a l v)
extend_small true B8 w g a l v = sized_small w (0x0F ∷ 0xBE ∷ operand_bytes g a) (operand_small g a l v)
extend_small false B16 w g a l v = operand_small g a l v
extend_small false B32 w g a l v = operand_small g a l v
extend_small true B16 w g a l v = operand_small g a l v
extend_small true B32 w g a l v = operand_small g a l v

string_small : (o : ℕ) (w : Width) (rep : Bool) → o < 255 → small (string_bytes o w rep) ≡ true
string_small o B8 false l = before o [] (omega arith) refl
string_small o B16 false l = before (o + 1) [] (omega arith) refl
string_small o B32 false l = before (o + 1) [] (omega arith) refl
string_small o B8 true l = before o [] (omega arith) refl
string_small o B16 true l = before (o + 1) [] (omega arith) refl
string_small o B32 true l = before (o + 1) [] (omega arith) refl

return_small : (n : ℕ) → small (canonical (inst.Ret n)) ≡ true
return_small n = chosen (eqb n 0) (0xC3 ∷ []) (0xC2 ∷ two n) refl (two_small n)

code_small : (i : Inst) → valid_of i ≡ true → small (canonical i) ≡ true
code_small (inst.Alu k w a s) v =
    let p = and_parts (ltb k 8) (move_valid w a s) v in
    alu_small k w a s (ltb-true k 8 p.0) p.1
code_small (inst.Test w a s) v = test_small w a s v
code_small (inst.Mov w a s) v = mov_small w a s v
code_small (inst.Lea w g a) v =
    let p = and_parts (ltb g 8) (address_valid a) ((and_parts (is_long w) (ltb g 8 && address_valid a) v).1) in
    sized_small w (0x8D ∷ operand_bytes g (Mem a)) (operand_small g (Mem a) (ltb-true g 8 p.0) p.1)
code_small (inst.Xchg w a g) v =
    let p = and_parts (rm_valid a) (ltb g 8) v in
    plain (pair w 0x86) g a (pair_small w 0x86 (lit< tt)) (ltb-true g 8 p.1) p.0
code_small (inst.Inc w a) v = step_small 0x40 0 w a (lit< tt) (lit< tt) v
code_small (inst.Dec w a) v = step_small 0x48 1 w a (lit< tt) (lit< tt) v
code_small (inst.Not w a) v = plain (pair w 0xF6) 2 a (pair_small w 0xF6 (lit< tt)) (lit< tt) v
code_small (inst.Neg w a) v = plain (pair w 0xF6) 3 a (pair_small w 0xF6 (lit< tt)) (lit< tt) v
code_small (inst.Push s) v = push_small s v
code_small (inst.Pop a) v = pop_small a v
code_small (inst.MulDiv k a) v =
    let p = and_parts (ltb 3 k && ltb k 8) (rm_valid a) v in
    operand_small k a (ltb-true k 8 ((and_parts (ltb 3 k) (ltb k 8) p.0).1)) p.1
code_small (inst.Imul g a None) v =
    let p = and_parts (ltb g 8) (rm_valid a && true) v in
    imul_small g a None (ltb-true g 8 p.0) ((and_parts (rm_valid a) true p.1).0)
code_small (inst.Imul g a (Some n)) v =
    let p = and_parts (ltb g 8) (rm_valid a && imm_valid B32 n) v in
    imul_small g a (Some n) (ltb-true g 8 p.0) ((and_parts (rm_valid a) (imm_valid B32 n) p.1).0)
code_small (inst.Shift op w a n) v =
    let p = and_parts (rm_valid a) (count_valid n) v in
    shift_small op w a n p.0 p.1
code_small (inst.Rotate right a n) v =
    let p = and_parts (rm_valid a) (count_valid n) v in
    rotate_small right a n p.0 p.1
code_small inst.Cwde v = refl
code_small inst.Cdq v = refl
code_small (inst.Extend signed from to g a) v =
    let p = and_parts (ltb g 8) (rm_valid a) ((and_parts (widens from to) (ltb g 8 && rm_valid a) v).1) in
    extend_small signed from to g a (ltb-true g 8 p.0) p.1
code_small (inst.Setcc c a) v =
    let p = and_parts (ltb c 16) (rm_valid a) v in
    let l : c < 16 = ltb-true c 16 p.0 in
    before (0x90 + c) (operand_bytes 0 a) (omega arith) (operand_small 0 a (lit< tt) p.1)
code_small (inst.Cmov c g a) v =
    let p = and_parts (ltb c 16) (ltb g 8 && rm_valid a) v in
    let q = and_parts (ltb g 8) (rm_valid a) p.1 in
    let l : c < 16 = ltb-true c 16 p.0 in
    before (0x40 + c) (operand_bytes g a) (omega arith) (operand_small g a (ltb-true g 8 q.0) q.1)
code_small (inst.Jcc c n) v =
    let l : c < 16 = ltb-true c 16 ((and_parts (ltb c 16) (imm_valid B32 n) v).0) in
    before (0x80 + c) (four n) (omega arith) (four_small n)
code_small (inst.Jmp n) v = four_small n
code_small (inst.JmpRm a) v = operand_small 4 a (lit< tt) v
code_small (inst.Call n) v = four_small n
code_small (inst.CallRm a) v = operand_small 2 a (lit< tt) v
code_small (inst.Ret n) v = return_small n
code_small inst.Leave v = refl
code_small (inst.Movs w rep) v = string_small 0xA4 w rep (lit< tt)
code_small (inst.Stos w rep) v = string_small 0xAA w rep (lit< tt)
code_small inst.Cld v = refl
code_small inst.Std v = refl
code_small inst.Sahf v = refl
code_small inst.Int80 v = refl
code_small inst.Nop v = refl

-- ---- forms

-- a digit is below 16
digit_by : (c : ℕ) (s t : Bool) → (leb 48 c && leb c 57) ≡ s → (leb 97 c && leb c 102) ≡ t → or_zero (cond s (Some (c - 48)) (cond t (Some (c - 87)) None)) < 16
digit_by c true t p q = let l : c ≤ 57 = leb-true c 57 ((and_parts (leb 48 c) (leb c 57) p).1) in omega arith
digit_by c false true p q = let l : c ≤ 102 = leb-true c 102 ((and_parts (leb 97 c) (leb c 102) q).1) in omega arith
digit_by c false false p q = lit< tt

pub digit_below : (c : ℕ) → value_of c < 16
unfolding digit_of
digit_below c = digit_by c (leb 48 c && leb c 57) (leb 97 c && leb c 102) refl refl

value_below : (a b : ℕ) → value_of a * 16 + value_of b < 256
value_below a b = omega (arith, digit_below a, digit_below b)

values_small : (ds : List ℕ) → small (values ds) ≡ true
unfolding values
values_small [] = refl
values_small (a ∷ []) = refl
values_small (a ∷ b ∷ ds) = before (value_of a * 16 + value_of b) (values ds) (value_below a b) (values_small ds)

distance_valid : (at len to : ℕ) → imm_valid B32 (distance at len to) ≡ true
unfolding distance
distance_valid at len to = lt-ltb ((to + (2 ^ 32 - (at + len) % 2 ^ 32)) % 2 ^ 32) 4294967296 (omega arith)

pub transfers_are_valid : TransfersAreValid
transfers_are_valid (Jcc c) at to h = and_from (ltb c 16) (imm_valid B32 (distance at 6 to)) h (distance_valid at 6 to)
transfers_are_valid Jmp at to h = distance_valid at 5 to
transfers_are_valid Call at to h = distance_valid at 5 to

form_small : (f : Form) (at to : ℕ) → is_form f ≡ true → small (bytes_of_form f at to) ≡ true
unfolding bytes_of_form
form_small Nothing at to h = refl
form_small (Label name) at to h = refl
form_small (Bytes ds) at to h = values_small ds
form_small (Stands i) at to h = code_small i h
form_small (Goes kind name) at to h = code_small (instruction_of kind at to) (transfers_are_valid kind at to ((and_parts (is_transfer kind) (is_label name) h).0))

pub forms_give_bytes : FormsGiveBytes
forms_give_bytes f at to h = λ k d l. from_small (bytes_of_form f at to) k d (form_small f at to h) l
