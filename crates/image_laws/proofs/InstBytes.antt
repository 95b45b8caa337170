-- The encoding of an instruction is of bytes.
use Rattle.std.proofs.Common.{◌≡◌, ℕ, zero, suc, ◌+◌, ◌*◌, ◌/◌, ◌%◌, ◌^◌, ◌<◌, ◌==◌, Bool, true, false, ◌&&◌, if◌then◌else◌, List, [], ◌∷◌, ◌++◌, Option, Some, None, arith}
use Rattle.std.specs.Prelude.{not, nat_lt}
use Rattle.std.specs.Int.{byte_at, bytes_low_first}
use Rattle.std.proofs.lemmas.Nat.{mod_below}
use Rattle.std.proofs.lemmas.Bool.{and_parts, ltb-true}
use Rattle.br_word.specs.declared.types.ShiftOp.{ShiftOp}
use Rattle.br_word.specs.declared.types.ShiftOp.TheVariants.{Shl, Shr, Sar}
use Rattle.br_word.specs.declared.types.Width.{Width}
use Rattle.br_word.specs.declared.types.Width.TheVariants.{B8, B16, B32}
use Rattle.ia_inst.specs.declared.inst.Rm.{Rm}
use Rattle.ia_inst.specs.declared.inst.Rm.TheVariants.{Reg, Mem}
use Rattle.ia_inst.specs.declared.inst.Src.{Src}
use Rattle.ia_inst.specs.declared.inst.Src.TheVariants as src
use Rattle.ia_inst.specs.declared.inst.Count.{Count}
use Rattle.ia_inst.specs.declared.inst.Count.TheVariants as count
use Rattle.ia_inst.specs.declared.inst.Inst.{Inst}
use Rattle.ia_inst.specs.declared.inst.Inst.TheVariants.{Alu, Test, Mov, Lea, Xchg, Inc, Dec, Not, Neg, Push, Pop, MulDiv, Imul, Shift, Rotate, Cwde, Cdq, Extend, Setcc, Cmov, Jcc, Jmp, JmpRm, Call, CallRm, Ret, Leave, Movs, Stos, Cld, Std, Sahf, Int80, Nop}
use Rattle.ia_inst.specs.Operands.{two, four, fields}
use Rattle.ia_inst.specs.Spells.{size, pair, imm, of_width}
use Rattle.ia_inst.specs.Canonical.{imm_valid, base_valid, index_valid, address_valid, rm_valid, move_valid, test_valid, is_long, source_valid, count_valid, by_valid, widens, valid_of, fits_byte, mode, displacement, log, based_bytes, memory_bytes, operand_bytes, fits_extended, alu_bytes, test_bytes, mov_bytes, step_bytes, push_bytes, pop_bytes, imul_bytes, shift_reg, shift_bytes, rotate_reg, rotate_bytes, extend_bytes, string_bytes, canonical}

-- each of a list is a byte
abbrev pub Bytes : List ℕ → Type 0
Bytes [] = Unit {0}
Bytes (b ∷ bs) = (b < 256) × Bytes bs

pub join : (xs ys : List ℕ) → Bytes xs → Bytes ys → Bytes (xs ++ ys)
join [] ys h k = k
join (x ∷ xs) ys h k = (h.0, join xs ys h.1 k)

choose : (b : Bool) (xs ys : List ℕ) → Bytes xs → Bytes ys → Bytes (if b then xs else ys)
choose true xs ys h k = h
choose false xs ys h k = k

pick : (b : Bool) (x y m : ℕ) → x < m → y < m → (if b then x else y) < m
pick true x y m h k = h
pick false x y m h k = k

and_right : (a b : Bool) → (a && b) ≡ true → b ≡ true
and_right a b h = (and_parts a b h).1

and_left : (a b : Bool) → (a && b) ≡ true → a ≡ true
and_left a b h = (and_parts a b h).0

-- ---- words

byte_small : (i v : ℕ) → byte_at i v < 256
byte_small zero v = mod_below v 256 (omega arith)
byte_small (suc i) v = mod_below (v / 256 ^ suc i) 256 (omega arith)

low_first : (i n v : ℕ) → Bytes (bytes_low_first i n v)
low_first i zero v = tt
low_first i (suc n) v = (byte_small i v, low_first (suc i) n v)

pub four_bytes : (n : ℕ) → Bytes (four n)
four_bytes n = low_first 0 4 n

two_bytes : (n : ℕ) → Bytes (two n)
two_bytes n = low_first 0 2 n

rest_small : (n : ℕ) → n % 256 < 256
rest_small n = mod_below n 256 (omega arith)

imm_bytes : (w : Width) (n : ℕ) → imm_valid w n ≡ true → Bytes (imm w n)
imm_bytes B8 n h = (ltb-true n 256 h, tt)
imm_bytes B16 n h = two_bytes n
imm_bytes B32 n h = four_bytes n

size_bytes : (w : Width) → Bytes (size w)
size_bytes B8 = tt
size_bytes B16 = (omega arith, tt)
size_bytes B32 = tt

pair_bytes : (w : Width) (o : ℕ) → o < 255 → Bytes (pair w o)
pair_bytes B8 o h = (omega (arith, h), tt)
pair_bytes B16 o h = (omega arith, (omega (arith, h), tt))
pair_bytes B32 o h = (omega (arith, h), tt)

-- ---- operands

field_small : (a b c : ℕ) → a < 4 → b < 8 → c < 8 → fields a b c < 256
field_small a b c h k l = omega (arith, h, k, l)

mode_small : (r d : ℕ) → mode r d < 4
mode_small r d = pick ((d == 0) && not (r == 5)) 0 (if fits_byte d then 1 else 2) 4 (omega arith) (pick (fits_byte d) 1 2 4 (omega arith) (omega arith))

log_small : (s : ℕ) → log s < 4
log_small s =
    pick (s == 1) 0 (if s == 2 then 1 else (if s == 4 then 2 else 3)) 4 (omega arith)
    (pick (s == 2) 1 (if s == 4 then 2 else 3) 4 (omega arith) (pick (s == 4) 2 3 4 (omega arith) (omega arith)))

displaced : (r d : ℕ) → Bytes (displacement r d)
displaced r d =
    choose ((d == 0) && not (r == 5)) [] (if fits_byte d then (d % 256) ∷ [] else four d) tt
    (choose (fits_byte d) ((d % 256) ∷ []) (four d) (rest_small d, tt) (four_bytes d))

based : (g r : ℕ) (i : Option (ℕ × ℕ)) (d : ℕ) → g < 8 → r < 8 → index_valid i ≡ true → Bytes (based_bytes g r i d)
based g r None d l h k =
    choose (r == 4) (fields (mode r d) g 4 ∷ fields 0 4 r ∷ displacement r d) (fields (mode r d) g r ∷ displacement r d)
    (field_small (mode r d) g 4 (mode_small r d) l (omega arith), (field_small 0 4 r (omega arith) (omega arith) h, displaced r d))
    (field_small (mode r d) g r (mode_small r d) l h, displaced r d)
based g r (Some x) d l h k =
    let s = ltb-true x.0 8 (and_left (nat_lt x.0 8) _ (and_left _ _ k)) in
    (field_small (mode r d) g 4 (mode_small r d) l (omega arith), (field_small (log x.1) x.0 r (log_small x.1) s h, displaced r d))

addressed : (g : ℕ) (b : Option ℕ) (i : Option (ℕ × ℕ)) (d : ℕ) → g < 8 → base_valid b ≡ true → index_valid i ≡ true → Bytes (memory_bytes g b i d)
addressed g None None d l h k = (field_small 0 g 5 (omega arith) l (omega arith), four_bytes d)
addressed g None (Some x) d l h k =
    let s = ltb-true x.0 8 (and_left (nat_lt x.0 8) _ (and_left _ _ k)) in
    (field_small 0 g 4 (omega arith) l (omega arith), (field_small (log x.1) x.0 5 (log_small x.1) s (omega arith), four_bytes d))
addressed g (Some r) i d l h k = based g r i d l (ltb-true r 8 h) k

operand : (g : ℕ) (a : Rm) → g < 8 → rm_valid a ≡ true → Bytes (operand_bytes g a)
operand g (Reg r) l h = (field_small 3 g r (omega arith) l (ltb-true r 8 h), tt)
operand g (Mem a) l h =
    let p = and_parts (base_valid a.base) (index_valid a.index && imm_valid B32 a.disp) h in
    addressed g a.base a.index a.disp l p.0 (and_left (index_valid a.index) (imm_valid B32 a.disp) p.1)

-- an operation of a width with an operand
with_operand : (w : Width) (o g : ℕ) (a : Rm) → o < 255 → g < 8 → rm_valid a ≡ true → Bytes (pair w o ++ operand_bytes g a)
with_operand w o g a h l v = join (pair w o) (operand_bytes g a) (pair_bytes w o h) (operand g a l v)

-- ---- instructions

extended : (w : Width) (k : ℕ) (a : Rm) (n : ℕ) → k < 8 → rm_valid a ≡ true → imm_valid w n ≡ true → Bytes (if fits_extended w n then size w ++ 0x83 ∷ operand_bytes k a ++ (n % 256) ∷ [] else size w ++ 0x81 ∷ operand_bytes k a ++ imm w n)
extended w k a n l h i =
    choose (fits_extended w n) (size w ++ 0x83 ∷ operand_bytes k a ++ (n % 256) ∷ []) (size w ++ 0x81 ∷ operand_bytes k a ++ imm w n)
    (join (size w ++ 0x83 ∷ operand_bytes k a) ((n % 256) ∷ []) (join (size w) (0x83 ∷ operand_bytes k a) (size_bytes w) (omega arith, operand k a l h)) (rest_small n, tt))
    (join (size w ++ 0x81 ∷ operand_bytes k a) (imm w n) (join (size w) (0x81 ∷ operand_bytes k a) (size_bytes w) (omega arith, operand k a l h)) (imm_bytes w n i))

alu : (k : ℕ) (w : Width) (a : Rm) (s : Src) → k < 8 → move_valid w a s ≡ true → Bytes (alu_bytes k w a s)
alu k w a (src.Rm (Reg r)) l h = with_operand w (8 * k) r a (omega (arith, l)) (ltb-true r 8 (and_right (rm_valid a) _ h)) (and_left (rm_valid a) _ h)
alu k w (Reg r) (src.Rm (Mem b)) l h = with_operand w (8 * k + 2) r (Mem b) (omega (arith, l)) (ltb-true r 8 (and_left (nat_lt r 8) _ h)) (and_right (nat_lt r 8) _ h)
alu k w (Mem a) (src.Rm (Mem b)) l h = tt
alu k B8 a (src.Imm n) l h = (omega arith, join (operand_bytes k a) (n ∷ []) (operand k a l (and_left (rm_valid a) _ h)) (imm_bytes B8 n (and_right (rm_valid a) _ h)))
alu k B16 a (src.Imm n) l h = extended B16 k a n l (and_left (rm_valid a) _ h) (and_right (rm_valid a) _ h)
alu k B32 a (src.Imm n) l h = extended B32 k a n l (and_left (rm_valid a) _ h) (and_right (rm_valid a) _ h)

with_imm : (w : Width) (o g : ℕ) (a : Rm) (n : ℕ) → o < 255 → g < 8 → rm_valid a ≡ true → imm_valid w n ≡ true → Bytes (pair w o ++ operand_bytes g a ++ imm w n)
with_imm w o g a n h l v i = join (pair w o ++ operand_bytes g a) (imm w n) (with_operand w o g a h l v) (imm_bytes w n i)

test : (w : Width) (a : Rm) (s : Src) → test_valid w a s ≡ true → Bytes (test_bytes w a s)
test w a (src.Rm (Reg r)) h = with_operand w 0x84 r a (omega arith) (ltb-true r 8 (and_right (rm_valid a) _ h)) (and_left (rm_valid a) _ h)
test w a (src.Rm (Mem b)) h = tt
test w a (src.Imm n) h = with_imm w 0xF6 0 a n (omega arith) (omega arith) (and_left (rm_valid a) _ h) (and_right (rm_valid a) _ h)

mov : (w : Width) (a : Rm) (s : Src) → move_valid w a s ≡ true → Bytes (mov_bytes w a s)
mov w a (src.Rm (Reg r)) h = with_operand w 0x88 r a (omega arith) (ltb-true r 8 (and_right (rm_valid a) _ h)) (and_left (rm_valid a) _ h)
mov w (Reg r) (src.Rm (Mem b)) h = with_operand w 0x8A r (Mem b) (omega arith) (ltb-true r 8 (and_left (nat_lt r 8) _ h)) (and_right (nat_lt r 8) _ h)
mov w (Mem a) (src.Rm (Mem b)) h = tt
mov B8 (Reg r) (src.Imm n) h = let l = ltb-true r 8 (and_left (nat_lt r 8) _ h) in (omega (arith, l), imm_bytes B8 n (and_right (nat_lt r 8) _ h))
mov B16 (Reg r) (src.Imm n) h = let l = ltb-true r 8 (and_left (nat_lt r 8) _ h) in (omega arith, (omega (arith, l), two_bytes n))
mov B32 (Reg r) (src.Imm n) h = let l = ltb-true r 8 (and_left (nat_lt r 8) _ h) in (omega (arith, l), four_bytes n)
mov w (Mem a) (src.Imm n) h = with_imm w 0xC6 0 (Mem a) n (omega arith) (omega arith) (and_left (rm_valid (Mem a)) _ h) (and_right (rm_valid (Mem a)) _ h)

step : (o g : ℕ) (w : Width) (a : Rm) → o < 0x80 → g < 8 → rm_valid a ≡ true → Bytes (step_bytes o g w a)
step o g B16 (Reg r) h l v = let s = ltb-true r 8 v in (omega arith, (omega (arith, h, s), tt))
step o g B32 (Reg r) h l v = let s = ltb-true r 8 v in (omega (arith, h, s), tt)
step o g B8 (Reg r) h l v = with_operand B8 0xFE g (Reg r) (omega arith) l v
step o g w (Mem a) h l v = with_operand w 0xFE g (Mem a) (omega arith) l v

push : (s : Src) → source_valid s ≡ true → Bytes (push_bytes s)
push (src.Rm (Reg r)) h = let s = ltb-true r 8 h in (omega (arith, s), tt)
push (src.Rm (Mem a)) h = (omega arith, operand 6 (Mem a) (omega arith) h)
push (src.Imm n) h = choose (fits_byte n) (0x6A ∷ (n % 256) ∷ []) (0x68 ∷ four n) (omega arith, (rest_small n, tt)) (omega arith, four_bytes n)

pop : (a : Rm) → rm_valid a ≡ true → Bytes (pop_bytes a)
pop (Reg r) h = let s = ltb-true r 8 h in (omega (arith, s), tt)
pop (Mem a) h = (omega arith, operand 0 (Mem a) (omega arith) h)

imul : (g : ℕ) (a : Rm) (by : Option ℕ) → g < 8 → rm_valid a ≡ true → Bytes (imul_bytes g a by)
imul g a None l h = (omega arith, (omega arith, operand g a l h))
imul g a (Some n) l h =
    choose (fits_byte n) (0x6B ∷ operand_bytes g a ++ (n % 256) ∷ []) (0x69 ∷ operand_bytes g a ++ four n)
    (omega arith, join (operand_bytes g a) ((n % 256) ∷ []) (operand g a l h) (rest_small n, tt))
    (omega arith, join (operand_bytes g a) (four n) (operand g a l h) (four_bytes n))

shift_small : (op : ShiftOp) → shift_reg op < 8
shift_small Shl = omega arith
shift_small Shr = omega arith
shift_small Sar = omega arith

shift : (op : ShiftOp) (w : Width) (a : Rm) (n : Count) → rm_valid a ≡ true → count_valid n ≡ true → Bytes (shift_bytes op w a n)
shift op w a (count.Imm n) h c =
    choose (n == 1) (pair w 0xD0 ++ operand_bytes (shift_reg op) a) (pair w 0xC0 ++ operand_bytes (shift_reg op) a ++ n ∷ [])
    (with_operand w 0xD0 (shift_reg op) a (omega arith) (shift_small op) h)
    (join (pair w 0xC0 ++ operand_bytes (shift_reg op) a) (n ∷ []) (with_operand w 0xC0 (shift_reg op) a (omega arith) (shift_small op) h) (ltb-true n 256 c, tt))
shift op w a count.Cl h c = with_operand w 0xD2 (shift_reg op) a (omega arith) (shift_small op) h

rotate_small : (right : Bool) → rotate_reg right < 8
rotate_small true = omega arith
rotate_small false = omega arith

rotate : (right : Bool) (a : Rm) (n : Count) → rm_valid a ≡ true → count_valid n ≡ true → Bytes (rotate_bytes right a n)
rotate right a (count.Imm n) h c =
    choose (n == 1) (0xD1 ∷ operand_bytes (rotate_reg right) a) (0xC1 ∷ operand_bytes (rotate_reg right) a ++ n ∷ [])
    (omega arith, operand (rotate_reg right) a (rotate_small right) h)
    (omega arith, join (operand_bytes (rotate_reg right) a) (n ∷ []) (operand (rotate_reg right) a (rotate_small right) h) (ltb-true n 256 c, tt))
rotate right a count.Cl h c = (omega arith, operand (rotate_reg right) a (rotate_small right) h)

sized : (w : Width) (bs : List ℕ) → Bytes bs → Bytes (size w ++ bs)
sized w bs h = join (size w) bs (size_bytes w) h

extend : (signed : Bool) (from w : Width) (g : ℕ) (a : Rm) → g < 8 → rm_valid a ≡ true → Bytes (extend_bytes signed from w g a)
extend false B8 w g a l h = sized w (0x0F ∷ 0xB6 ∷ operand_bytes g a) (omega arith, (omega arith, operand g a l h))
extend true B8 w g a l h = sized w (0x0F ∷ 0xBE ∷ operand_bytes g a) (omega arith, (omega arith, operand g a l h))
extend false B16 w g a l h = (omega arith, (omega arith, operand g a l h))
extend false B32 w g a l h = (omega arith, (omega arith, operand g a l h))
extend true B16 w g a l h = (omega arith, (omega arith, operand g a l h))
extend true B32 w g a l h = (omega arith, (omega arith, operand g a l h))

width_small : (w : Width) (o : ℕ) → o < 255 → of_width w o < 256
width_small B8 o h = omega (arith, h)
width_small B16 o h = omega (arith, h)
width_small B32 o h = omega (arith, h)

string : (o : ℕ) (w : Width) (rep : Bool) → o < 255 → Bytes (string_bytes o w rep)
string o w false h = sized w (of_width w o ∷ []) (width_small w o h, tt)
string o B8 true h = (omega arith, (omega (arith, h), tt))
string o B16 true h = (omega arith, (omega arith, (omega (arith, h), tt)))
string o B32 true h = (omega arith, (omega (arith, h), tt))

-- of each instruction
pub inst_bytes : (i : Inst) → valid_of i ≡ true → Bytes (canonical i)
inst_bytes (Alu k w a s) h = alu k w a s (ltb-true k 8 (and_left (nat_lt k 8) _ h)) (and_right (nat_lt k 8) _ h)
inst_bytes (Test w a s) h = test w a s h
inst_bytes (Mov w a s) h = mov w a s h
inst_bytes (Lea w g a) h =
    let p = and_right (is_long w) (nat_lt g 8 && address_valid a) h in
    sized w (0x8D ∷ operand_bytes g (Mem a)) (omega arith, operand g (Mem a) (ltb-true g 8 (and_left (nat_lt g 8) _ p)) (and_right (nat_lt g 8) _ p))
inst_bytes (Xchg w a g) h = with_operand w 0x86 g a (omega arith) (ltb-true g 8 (and_right (rm_valid a) _ h)) (and_left (rm_valid a) _ h)
inst_bytes (Inc w a) h = step 0x40 0 w a (omega arith) (omega arith) h
inst_bytes (Dec w a) h = step 0x48 1 w a (omega arith) (omega arith) h
inst_bytes (Not w a) h = with_operand w 0xF6 2 a (omega arith) (omega arith) h
inst_bytes (Neg w a) h = with_operand w 0xF6 3 a (omega arith) (omega arith) h
inst_bytes (Push s) h = push s h
inst_bytes (Pop a) h = pop a h
inst_bytes (MulDiv k a) h =
    let p = and_left (nat_lt 3 k && nat_lt k 8) (rm_valid a) h in
    (omega arith, operand k a (ltb-true k 8 (and_right (nat_lt 3 k) _ p)) (and_right (nat_lt 3 k && nat_lt k 8) _ h))
inst_bytes (Imul g a by) h =
    let p = and_right (nat_lt g 8) (rm_valid a && by_valid by) h in
    imul g a by (ltb-true g 8 (and_left (nat_lt g 8) _ h)) (and_left (rm_valid a) _ p)
inst_bytes (Shift op w a n) h = shift op w a n (and_left (rm_valid a) _ h) (and_right (rm_valid a) _ h)
inst_bytes (Rotate right a n) h = rotate right a n (and_left (rm_valid a) _ h) (and_right (rm_valid a) _ h)
inst_bytes Cwde h = (omega arith, tt)
inst_bytes Cdq h = (omega arith, tt)
inst_bytes (Extend signed from to g a) h =
    let p = and_right (widens from to) (nat_lt g 8 && rm_valid a) h in
    extend signed from to g a (ltb-true g 8 (and_left (nat_lt g 8) _ p)) (and_right (nat_lt g 8) _ p)
inst_bytes (Setcc c a) h =
    let l = ltb-true c 16 (and_left (nat_lt c 16) _ h) in
    (omega arith, (omega (arith, l), operand 0 a (omega arith) (and_right (nat_lt c 16) _ h)))
inst_bytes (Cmov c g a) h =
    let l = ltb-true c 16 (and_left (nat_lt c 16) _ h) in
    let p = and_right (nat_lt c 16) (nat_lt g 8 && rm_valid a) h in
    (omega arith, (omega (arith, l), operand g a (ltb-true g 8 (and_left (nat_lt g 8) _ p)) (and_right (nat_lt g 8) _ p)))
inst_bytes (Jcc c n) h = let l = ltb-true c 16 (and_left (nat_lt c 16) _ h) in (omega arith, (omega (arith, l), four_bytes n))
inst_bytes (Jmp n) h = (omega arith, four_bytes n)
inst_bytes (JmpRm a) h = (omega arith, operand 4 a (omega arith) h)
inst_bytes (Call n) h = (omega arith, four_bytes n)
inst_bytes (CallRm a) h = (omega arith, operand 2 a (omega arith) h)
inst_bytes (Ret n) h = choose (n == 0) (0xC3 ∷ []) (0xC2 ∷ two n) (omega arith, tt) (omega arith, two_bytes n)
inst_bytes Leave h = (omega arith, tt)
inst_bytes (Movs w rep) h = string 0xA4 w rep (omega arith)
inst_bytes (Stos w rep) h = string 0xAA w rep (omega arith)
inst_bytes Cld h = (omega arith, tt)
inst_bytes Std h = (omega arith, tt)
inst_bytes Sahf h = (omega arith, tt)
inst_bytes Int80 h = (omega arith, (omega arith, tt))
inst_bytes Nop h = (omega arith, tt)
