-- Which instructions have a spelling, and which of their spellings is written.
use Rattle.std.specs.Prelude.{ℕ, ◌+◌, ◌*◌, ◌%◌, ◌==◌, ◌||◌, ◌&&◌, not, Bool, true, false, List, [], ◌∷◌, ◌++◌, Option, Some, None, if◌then◌else◌, nat_lt}
use Rattle.ia_inst.specs.declared.inst.Addr.{Addr}
use Rattle.ia_inst.specs.declared.inst.Rm.{Rm}
use Rattle.ia_inst.specs.declared.inst.Rm.TheVariants.{Reg, Mem}
use Rattle.ia_inst.specs.declared.inst.Src.{Src}
use Rattle.ia_inst.specs.declared.inst.Src.TheVariants as src
use Rattle.ia_inst.specs.declared.inst.Count.{Count}
use Rattle.ia_inst.specs.declared.inst.Count.TheVariants as count
use Rattle.br_word.specs.declared.types.ShiftOp.{ShiftOp}
use Rattle.br_word.specs.declared.types.ShiftOp.TheVariants.{Shl, Shr, Sar}
use Rattle.br_word.specs.declared.types.Width.{Width}
use Rattle.br_word.specs.declared.types.Width.TheVariants.{B8, B16, B32}
use Rattle.ia_inst.specs.declared.inst.Inst.{Inst}
use Rattle.ia_inst.specs.declared.inst.Inst.TheVariants.{Alu, Test, Mov, Lea, Xchg, Inc, Dec, Not, Neg, Push, Pop, MulDiv, Imul, Shift, Rotate, Cwde, Cdq, Extend, Setcc, Cmov, Jcc, Jmp, JmpRm, Call, CallRm, Ret, Leave, Movs, Stos, Cld, Std, Sahf, Int80, Nop}
use Rattle.ia_inst.specs.Operands.{two, four, fields}
use Rattle.ia_inst.specs.Spells.{size, pair, imm, of_width}

-- ---- valid

-- an immediate of a width
abbrev pub imm_valid : Width → ℕ → Bool
imm_valid B8 n = nat_lt n 256
imm_valid B16 n = nat_lt n 65536
imm_valid B32 n = nat_lt n 4294967296

-- a base register
abbrev pub base_valid : Option ℕ → Bool
base_valid None = true
base_valid (Some r) = nat_lt r 8

-- an index register, not esp, and its scale (SDM volume 1, 3.7.5)
abbrev pub index_valid : Option (ℕ × ℕ) → Bool
index_valid None = true
index_valid (Some x) = (nat_lt x.0 8 && not (x.0 == 4)) && ((x.1 == 1) || ((x.1 == 2) || ((x.1 == 4) || (x.1 == 8))))

-- an address
abbrev pub address_valid : Addr → Bool
address_valid a = base_valid a.base && (index_valid a.index && imm_valid B32 a.disp)

-- a register or an address
abbrev pub rm_valid : Rm → Bool
rm_valid (Reg r) = nat_lt r 8
rm_valid (Mem a) = address_valid a

-- a destination and a source, not both in memory
abbrev pub move_valid : Width → Rm → Src → Bool
move_valid w a (src.Imm n) = rm_valid a && imm_valid w n
move_valid w a (src.Rm (Reg r)) = rm_valid a && nat_lt r 8
move_valid w (Reg r) (src.Rm (Mem b)) = nat_lt r 8 && address_valid b
move_valid w (Mem a) (src.Rm (Mem b)) = false

-- the operands of a TEST: the second is a register or an immediate
abbrev pub test_valid : Width → Rm → Src → Bool
test_valid w a (src.Imm n) = rm_valid a && imm_valid w n
test_valid w a (src.Rm (Reg r)) = rm_valid a && nat_lt r 8
test_valid w a (src.Rm (Mem b)) = false

-- 16 or 32 bits
abbrev pub is_long : Width → Bool
is_long B8 = false
is_long B16 = true
is_long B32 = true

-- what is pushed
abbrev pub source_valid : Src → Bool
source_valid (src.Rm a) = rm_valid a
source_valid (src.Imm n) = imm_valid B32 n

-- by how much a shift or a rotation goes
abbrev pub count_valid : Count → Bool
count_valid (count.Imm n) = imm_valid B8 n
count_valid count.Cl = true

-- the literal factor of an IMUL, if it has one
abbrev pub by_valid : Option ℕ → Bool
by_valid None = true
by_valid (Some n) = imm_valid B32 n

-- the extensions from one width to another
abbrev pub widens : Width → Width → Bool
widens B8 B16 = true
widens B8 B32 = true
widens B16 B32 = true
widens _ _ = false

-- whether an instruction has a spelling
abbrev pub valid_of : Inst → Bool
valid_of (Alu k w a s) = nat_lt k 8 && move_valid w a s
valid_of (Test w a s) = test_valid w a s
valid_of (Mov w a s) = move_valid w a s
valid_of (Lea w g a) = is_long w && (nat_lt g 8 && address_valid a)
valid_of (Xchg w a g) = rm_valid a && nat_lt g 8
valid_of (Inc w a) = rm_valid a
valid_of (Dec w a) = rm_valid a
valid_of (Not w a) = rm_valid a
valid_of (Neg w a) = rm_valid a
valid_of (Push s) = source_valid s
valid_of (Pop a) = rm_valid a
valid_of (MulDiv k a) = (nat_lt 3 k && nat_lt k 8) && rm_valid a
valid_of (Imul g a by) = nat_lt g 8 && (rm_valid a && by_valid by)
valid_of (Shift op w a n) = rm_valid a && count_valid n
valid_of (Rotate right a n) = rm_valid a && count_valid n
valid_of (Extend signed from to g a) = widens from to && (nat_lt g 8 && rm_valid a)
valid_of (Setcc c a) = nat_lt c 16 && rm_valid a
valid_of (Cmov c g a) = nat_lt c 16 && (nat_lt g 8 && rm_valid a)
valid_of (Jcc c n) = nat_lt c 16 && imm_valid B32 n
valid_of (Jmp n) = imm_valid B32 n
valid_of (Call n) = imm_valid B32 n
valid_of (Ret n) = imm_valid B16 n
valid_of (JmpRm a) = rm_valid a
valid_of (CallRm a) = rm_valid a
valid_of _ = true

-- ---- the form of an address

-- where a displacement fits a signed byte
abbrev pub fits_byte : ℕ → Bool
fits_byte d = nat_lt d 0x80 || nat_lt 0xFFFFFF7F d

-- mod, for a base and a displacement
abbrev pub mode : ℕ → ℕ → ℕ
mode r d = if (d == 0) && not (r == 5) then 0 else (if fits_byte d then 1 else 2)

-- what the mod field has follow
abbrev pub displacement : ℕ → ℕ → List ℕ
displacement r d = if (d == 0) && not (r == 5) then [] else (if fits_byte d then (d % 256) ∷ [] else four d)

-- the scale field
-- the field of a scale
abbrev pub log : ℕ → ℕ
log s = if s == 1 then 0 else (if s == 2 then 1 else (if s == 4 then 2 else 3))

-- behind a base register, with a SIB byte where there is an index or the base is esp
abbrev pub based_bytes : ℕ → ℕ → Option (ℕ × ℕ) → ℕ → List ℕ
based_bytes g r None d =
    if r == 4 then fields (mode r d) g 4 ∷ fields 0 4 r ∷ displacement r d
    else fields (mode r d) g r ∷ displacement r d
based_bytes g r (Some x) d = fields (mode r d) g 4 ∷ fields (log x.1) x.0 r ∷ displacement r d

-- an address, from its ModRM byte on
abbrev pub memory_bytes : ℕ → Option ℕ → Option (ℕ × ℕ) → ℕ → List ℕ
memory_bytes g None None d = fields 0 g 5 ∷ four d
memory_bytes g None (Some x) d = fields 0 g 4 ∷ fields (log x.1) x.0 5 ∷ four d
memory_bytes g (Some r) index d = based_bytes g r index d

-- a register or an address, with the number in the reg field
abbrev pub operand_bytes : ℕ → Rm → List ℕ
operand_bytes g (Reg r) = fields 3 g r ∷ []
operand_bytes g (Mem a) = memory_bytes g a.base a.index a.disp

-- ---- the spelling that is written: the first row that fits, of those that are written

-- an immediate that is a sign extended byte at its width
abbrev pub fits_extended : Width → ℕ → Bool
fits_extended B8 n = false
fits_extended B16 n = nat_lt n 0x80 || nat_lt 0xFF7F n
fits_extended B32 n = fits_byte n

-- rows 1, 2 and 4 to 6
abbrev pub alu_bytes : ℕ → Width → Rm → Src → List ℕ
alu_bytes k w a (src.Rm (Reg r)) = pair w (8 * k) ++ operand_bytes r a
alu_bytes k w (Reg r) (src.Rm (Mem b)) = pair w (8 * k + 2) ++ operand_bytes r (Mem b)
alu_bytes k w (Mem a) (src.Rm (Mem b)) = []
alu_bytes k B8 a (src.Imm n) = 0x80 ∷ operand_bytes k a ++ n ∷ []
alu_bytes k B16 a (src.Imm n) =
    if fits_extended B16 n then size B16 ++ 0x83 ∷ operand_bytes k a ++ (n % 256) ∷ []
    else size B16 ++ 0x81 ∷ operand_bytes k a ++ imm B16 n
alu_bytes k B32 a (src.Imm n) =
    if fits_extended B32 n then size B32 ++ 0x83 ∷ operand_bytes k a ++ (n % 256) ∷ []
    else size B32 ++ 0x81 ∷ operand_bytes k a ++ imm B32 n

-- rows 7 and 9
abbrev pub test_bytes : Width → Rm → Src → List ℕ
test_bytes w a (src.Rm (Reg r)) = pair w 0x84 ++ operand_bytes r a
test_bytes w a (src.Rm (Mem b)) = []
test_bytes w a (src.Imm n) = pair w 0xF6 ++ operand_bytes 0 a ++ imm w n

-- rows 10 to 13
abbrev pub mov_bytes : Width → Rm → Src → List ℕ
mov_bytes w a (src.Rm (Reg r)) = pair w 0x88 ++ operand_bytes r a
mov_bytes w (Reg r) (src.Rm (Mem b)) = pair w 0x8A ++ operand_bytes r (Mem b)
mov_bytes w (Mem a) (src.Rm (Mem b)) = []
mov_bytes B8 (Reg r) (src.Imm n) = (0xB0 + r) ∷ n ∷ []
mov_bytes B16 (Reg r) (src.Imm n) = size B16 ++ (0xB8 + r) ∷ imm B16 n
mov_bytes B32 (Reg r) (src.Imm n) = size B32 ++ (0xB8 + r) ∷ imm B32 n
mov_bytes w (Mem a) (src.Imm n) = pair w 0xC6 ++ operand_bytes 0 (Mem a) ++ imm w n

-- rows 18 and 19
abbrev pub step_bytes : ℕ → ℕ → Width → Rm → List ℕ
step_bytes o g B16 (Reg r) = size B16 ++ (o + r) ∷ []
step_bytes o g B32 (Reg r) = size B32 ++ (o + r) ∷ []
step_bytes o g B8 (Reg r) = pair B8 0xFE ++ operand_bytes g (Reg r)
step_bytes o g w (Mem a) = pair w 0xFE ++ operand_bytes g (Mem a)

-- rows 21 to 24
abbrev pub push_bytes : Src → List ℕ
push_bytes (src.Rm (Reg r)) = (0x50 + r) ∷ []
push_bytes (src.Rm (Mem a)) = 0xFF ∷ operand_bytes 6 (Mem a)
push_bytes (src.Imm n) = if fits_byte n then 0x6A ∷ (n % 256) ∷ [] else 0x68 ∷ four n

-- rows 25 and 26
abbrev pub pop_bytes : Rm → List ℕ
pop_bytes (Reg r) = (0x58 + r) ∷ []
pop_bytes (Mem a) = 0x8F ∷ operand_bytes 0 (Mem a)

-- rows 28 to 30
abbrev pub imul_bytes : ℕ → Rm → Option ℕ → List ℕ
imul_bytes g a None = 0x0F ∷ 0xAF ∷ operand_bytes g a
imul_bytes g a (Some n) = if fits_byte n then 0x6B ∷ operand_bytes g a ++ (n % 256) ∷ [] else 0x69 ∷ operand_bytes g a ++ four n

-- the reg field of a shift
abbrev pub shift_reg : ShiftOp → ℕ
shift_reg Shl = 4
shift_reg Shr = 5
shift_reg Sar = 7

-- rows 31 to 33
abbrev pub shift_bytes : ShiftOp → Width → Rm → Count → List ℕ
shift_bytes op w a (count.Imm n) =
    if n == 1 then pair w 0xD0 ++ operand_bytes (shift_reg op) a
    else pair w 0xC0 ++ operand_bytes (shift_reg op) a ++ n ∷ []
shift_bytes op w a count.Cl = pair w 0xD2 ++ operand_bytes (shift_reg op) a

-- the reg field of a rotation
abbrev pub rotate_reg : Bool → ℕ
rotate_reg false = 0
rotate_reg true = 1

-- row 34
abbrev pub rotate_bytes : Bool → Rm → Count → List ℕ
rotate_bytes right a (count.Imm n) =
    if n == 1 then 0xD1 ∷ operand_bytes (rotate_reg right) a
    else 0xC1 ∷ operand_bytes (rotate_reg right) a ++ n ∷ []
rotate_bytes right a count.Cl = 0xD3 ∷ operand_bytes (rotate_reg right) a

-- rows 36 and 37
abbrev pub extend_bytes : Bool → Width → Width → ℕ → Rm → List ℕ
extend_bytes false B8 w g a = size w ++ 0x0F ∷ 0xB6 ∷ operand_bytes g a
extend_bytes true B8 w g a = size w ++ 0x0F ∷ 0xBE ∷ operand_bytes g a
extend_bytes false _ w g a = 0x0F ∷ 0xB7 ∷ operand_bytes g a
extend_bytes true _ w g a = 0x0F ∷ 0xBF ∷ operand_bytes g a

-- rows 50 and 51
abbrev pub string_bytes : ℕ → Width → Bool → List ℕ
string_bytes o w false = size w ++ of_width w o ∷ []
string_bytes o B8 true = 0xF3 ∷ o ∷ []
string_bytes o B16 true = 0x66 ∷ 0xF3 ∷ (o + 1) ∷ []
string_bytes o B32 true = 0xF3 ∷ (o + 1) ∷ []

-- the canonical spelling: that of the first row of the table that fits, which is not always the shortest
abbrev pub canonical : Inst → List ℕ
canonical (Alu k w a s) = alu_bytes k w a s
canonical (Test w a s) = test_bytes w a s
canonical (Mov w a s) = mov_bytes w a s
canonical (Lea w g a) = size w ++ 0x8D ∷ operand_bytes g (Mem a)
canonical (Xchg w a g) = pair w 0x86 ++ operand_bytes g a
canonical (Inc w a) = step_bytes 0x40 0 w a
canonical (Dec w a) = step_bytes 0x48 1 w a
canonical (Not w a) = pair w 0xF6 ++ operand_bytes 2 a
canonical (Neg w a) = pair w 0xF6 ++ operand_bytes 3 a
canonical (Push s) = push_bytes s
canonical (Pop a) = pop_bytes a
canonical (MulDiv k a) = 0xF7 ∷ operand_bytes k a
canonical (Imul g a by) = imul_bytes g a by
canonical (Shift op w a n) = shift_bytes op w a n
canonical (Rotate right a n) = rotate_bytes right a n
canonical Cwde = 0x98 ∷ []
canonical Cdq = 0x99 ∷ []
canonical (Extend signed from to g a) = extend_bytes signed from to g a
canonical (Setcc c a) = 0x0F ∷ (0x90 + c) ∷ operand_bytes 0 a
canonical (Cmov c g a) = 0x0F ∷ (0x40 + c) ∷ operand_bytes g a
canonical (Jcc c n) = 0x0F ∷ (0x80 + c) ∷ four n
canonical (Jmp n) = 0xE9 ∷ four n
canonical (JmpRm a) = 0xFF ∷ operand_bytes 4 a
canonical (Call n) = 0xE8 ∷ four n
canonical (CallRm a) = 0xFF ∷ operand_bytes 2 a
canonical (Ret n) = if n == 0 then 0xC3 ∷ [] else 0xC2 ∷ two n
canonical Leave = 0xC9 ∷ []
canonical (Movs w rep) = string_bytes 0xA4 w rep
canonical (Stos w rep) = string_bytes 0xAA w rep
canonical Cld = 0xFC ∷ []
canonical Std = 0xFD ∷ []
canonical Sahf = 0x9E ∷ []
canonical Int80 = 0xCD ∷ 0x80 ∷ []
canonical Nop = 0x90 ∷ []
