-- Which lists of bytes spell an instruction: a case for each row of the table.
use Rattle.std.specs.Prelude.{ℕ, ◌+◌, ◌*◌, ◌^◌, ◌<◌, ◌≤◌, Bool, true, false, List, [], ◌∷◌, ◌++◌, length, Some, None, if◌then◌else◌, nat_lt}
use Rattle.ia_inst.specs.declared.inst.Addr.{Addr}
use Rattle.ia_inst.specs.declared.inst.Rm.{Rm}
use Rattle.ia_inst.specs.declared.inst.Rm.TheVariants.{Reg, Mem}
use Rattle.ia_inst.specs.declared.inst.Src.TheVariants as src
use Rattle.ia_inst.specs.declared.inst.Count.TheVariants as count
use Rattle.br_word.specs.declared.types.ShiftOp.{ShiftOp}
use Rattle.br_word.specs.declared.types.ShiftOp.TheVariants.{Shl, Shr, Sar}
use Rattle.br_word.specs.declared.types.Width.{Width}
use Rattle.br_word.specs.declared.types.Width.TheVariants.{B8, B16, B32}
use Rattle.ia_inst.specs.declared.inst.Inst.{Inst}
use Rattle.ia_inst.specs.declared.inst.Inst.TheVariants.{Alu, Test, Mov, Lea, Xchg, Inc, Dec, Not, Neg, Push, Pop, MulDiv, Imul, Shift, Rotate, Cwde, Cdq, Extend, Setcc, Cmov, Jcc, Jmp, JmpRm, Call, CallRm, Ret, Leave, Movs, Stos, Cld, Std, Sahf, Int80, Nop}
use Rattle.ia_inst.specs.Operands.{two, four, extended, address, Operand}

-- the prefix 66 where the width is 16
abbrev pub size : Width → List ℕ
size B8 = []
size B16 = 0x66 ∷ []
size B32 = []

-- of a pair of opcodes the first is of width 8, the second of the others
abbrev pub pair : Width → ℕ → List ℕ
pair B8 o = o ∷ []
pair B16 o = 0x66 ∷ (o + 1) ∷ []
pair B32 o = (o + 1) ∷ []

-- 32, or 16
abbrev pub IsLong : Width → Type 0
IsLong B8 = ⊥
IsLong B16 = Unit {0}
IsLong B32 = Unit {0}

-- an immediate of a width, and what it can be
abbrev pub imm : Width → ℕ → List ℕ
imm B8 n = n ∷ []
imm B16 n = two n
imm B32 n = four n

-- the numbers of a width are below it
abbrev pub limit : Width → ℕ
limit B8 = 2 ^ 8
limit B16 = 2 ^ 16
limit B32 = 2 ^ 32

-- a sign extended byte, modulo 2 to the width
abbrev pub extended_to : Width → ℕ → ℕ
extended_to B8 d = d
extended_to B16 d = if nat_lt d 128 then d else d + 0xff00
extended_to B32 d = extended d

-- any number of 66 and 2E in any order, and whether there is a 66
pub data Padding : List ℕ → Bool → Type 0 where
  end : Padding [] false
  with_66 : (p : List ℕ) (wide : Bool) → Padding p wide → Padding (0x66 ∷ p) true
  with_2E : (p : List ℕ) (wide : Bool) → Padding p wide → Padding (0x2E ∷ p) wide

-- at most one prefix
pub data AtMost (prefix : ℕ) : List ℕ → Type 0 where
  absent : AtMost prefix []
  present : AtMost prefix (prefix ∷ [])

-- the prefixes of a string instruction: F3 where it repeats, 66 for width 16, in either order
pub data StringPrefix : Width → Bool → List ℕ → Type 0 where
  once : (w : Width) → StringPrefix w false (size w)
  repeated : (w : Width) → StringPrefix w true (0xF3 ∷ size w)
  turned : StringPrefix B16 true (0x66 ∷ 0xF3 ∷ [])

-- the opcode of a pair
abbrev pub of_width : Width → ℕ → ℕ
of_width B8 o = o
of_width B16 o = o + 1
of_width B32 o = o + 1

-- reg fields 4, 5 and 7 of the shifts
pub data ShiftField : ℕ → ShiftOp → Type 0 where
  shl : ShiftField 4 Shl
  shr : ShiftField 5 Shr
  sar : ShiftField 7 Sar

-- reg fields 0 and 1 of the rotations, left and right
pub data RotateField : ℕ → Bool → Type 0 where
  left : RotateField 0 false
  right : RotateField 1 true

-- The row of the table stands above each case. m spells the operand a with the reg field g.
pub data Row : List ℕ → Inst → Type 0 where
  -- 00+8k, 01+8k /r, 66: Alu k, dst rm, src reg
  row1 : (k g : ℕ) (w : Width) (m : List ℕ) (a : Rm) → k < 8 → Operand m g a → Row (pair w (8 * k) ++ m) (Alu k w a (src.Rm (Reg g)))
  -- 02+8k, 03+8k /r, 66: Alu k, dst reg, src rm
  row2 : (k g : ℕ) (w : Width) (m : List ℕ) (a : Rm) → k < 8 → Operand m g a → Row (pair w (8 * k + 2) ++ m) (Alu k w (Reg g) (src.Rm a))
  -- 04+8k ib, 05+8k iz, 66: Alu k, dst register 0, imm
  row3 : (k n : ℕ) (w : Width) → k < 8 → n < limit w → Row (pair w (8 * k + 4) ++ imm w n) (Alu k w (Reg 0) (src.Imm n))
  -- 80 /k ib: Alu k, width 8, imm
  row4 : (k n : ℕ) (m : List ℕ) (a : Rm) → Operand m k a → n < 256 → Row (0x80 ∷ m ++ n ∷ []) (Alu k B8 a (src.Imm n))
  -- 83 /k ib, 66: Alu k, width 16 or 32, imm sign extended
  row5 : (k d : ℕ) (w : Width) (m : List ℕ) (a : Rm)
      → IsLong w → Operand m k a → d < 256 → Row (size w ++ 0x83 ∷ m ++ d ∷ []) (Alu k w a (src.Imm (extended_to w d)))
  -- 81 /k iz, 66: Alu k, imm
  row6 : (k n : ℕ) (w : Width) (m : List ℕ) (a : Rm)
      → IsLong w → Operand m k a → n < limit w → Row (size w ++ 0x81 ∷ m ++ imm w n) (Alu k w a (src.Imm n))
  -- 84, 85 /r, 66: Test rm, reg
  row7 : (g : ℕ) (w : Width) (m : List ℕ) (a : Rm) → Operand m g a → Row (pair w 0x84 ++ m) (Test w a (src.Rm (Reg g)))
  -- A8 ib, A9 iz, 66: Test register 0, imm
  row8 : (n : ℕ) (w : Width) → n < limit w → Row (pair w 0xA8 ++ imm w n) (Test w (Reg 0) (src.Imm n))
  -- F6 /0 ib, F7 /0 iz, 66: Test rm, imm
  row9 : (n : ℕ) (w : Width) (m : List ℕ) (a : Rm) → Operand m 0 a → n < limit w → Row (pair w 0xF6 ++ m ++ imm w n) (Test w a (src.Imm n))
  -- 88, 89 /r, 66: Mov rm, reg
  row10 : (g : ℕ) (w : Width) (m : List ℕ) (a : Rm) → Operand m g a → Row (pair w 0x88 ++ m) (Mov w a (src.Rm (Reg g)))
  -- 8A, 8B /r, 66: Mov reg, rm
  row11 : (g : ℕ) (w : Width) (m : List ℕ) (a : Rm) → Operand m g a → Row (pair w 0x8A ++ m) (Mov w (Reg g) (src.Rm a))
  -- B0+r ib, B8+r iz, 66: Mov reg, imm
  row12_byte : (r n : ℕ) → r < 8 → n < 256 → Row ((0xB0 + r) ∷ n ∷ []) (Mov B8 (Reg r) (src.Imm n))
  row12 : (r n : ℕ) (w : Width) → IsLong w → r < 8 → n < limit w → Row (size w ++ (0xB8 + r) ∷ imm w n) (Mov w (Reg r) (src.Imm n))
  -- C6 /0 ib, C7 /0 iz, 66: Mov rm, imm
  row13 : (n : ℕ) (w : Width) (m : List ℕ) (a : Rm) → Operand m 0 a → n < limit w → Row (pair w 0xC6 ++ m ++ imm w n) (Mov w a (src.Imm n))
  -- A0, A1 id, 66; A2, A3 id, 66: Mov register 0, [id]; Mov [id], register 0
  row14_load : (d : ℕ) (w : Width) → d < 2 ^ 32 → Row (pair w 0xA0 ++ four d) (Mov w (Reg 0) (src.Rm (Mem (address None None d))))
  row14_store : (d : ℕ) (w : Width) → d < 2 ^ 32 → Row (pair w 0xA2 ++ four d) (Mov w (Mem (address None None d)) (src.Rm (Reg 0)))
  -- 8D /r, memory only, 66: Lea, width 32 or 16
  row15 : (g : ℕ) (wide : Bool) (p m : List ℕ) (a : Addr)
      → Padding p wide → Operand m g (Mem a) → Row (p ++ 0x8D ∷ m) (Lea (if wide then B16 else B32) g a)
  -- 86, 87 /r, 66: Xchg rm, reg
  row16 : (g : ℕ) (w : Width) (m : List ℕ) (a : Rm) → Operand m g a → Row (pair w 0x86 ++ m) (Xchg w a g)
  -- 90+r, r 1 to 7, 66: Xchg dst r, reg 0, width 32 or 16
  row17 : (r : ℕ) (w : Width) → IsLong w → 1 ≤ r → r < 8 → Row (size w ++ (0x90 + r) ∷ []) (Xchg w (Reg r) 0)
  -- 40+r; 48+r, 66: Inc; Dec, width 32 or 16
  row18_inc : (r : ℕ) (w : Width) → IsLong w → r < 8 → Row (size w ++ (0x40 + r) ∷ []) (Inc w (Reg r))
  row18_dec : (r : ℕ) (w : Width) → IsLong w → r < 8 → Row (size w ++ (0x48 + r) ∷ []) (Dec w (Reg r))
  -- FE, FF /0; FE, FF /1, 66: Inc; Dec
  row19_inc : (w : Width) (m : List ℕ) (a : Rm) → Operand m 0 a → Row (pair w 0xFE ++ m) (Inc w a)
  row19_dec : (w : Width) (m : List ℕ) (a : Rm) → Operand m 1 a → Row (pair w 0xFE ++ m) (Dec w a)
  -- F6, F7 /2; F6, F7 /3, 66: Not; Neg
  row20_not : (w : Width) (m : List ℕ) (a : Rm) → Operand m 2 a → Row (pair w 0xF6 ++ m) (Not w a)
  row20_neg : (w : Width) (m : List ℕ) (a : Rm) → Operand m 3 a → Row (pair w 0xF6 ++ m) (Neg w a)
  -- 50+r: Push reg
  row21 : (r : ℕ) → r < 8 → Row ((0x50 + r) ∷ []) (Push (src.Rm (Reg r)))
  -- 6A ib, sign extended: Push imm
  row22 : (d : ℕ) → d < 256 → Row (0x6A ∷ d ∷ []) (Push (src.Imm (extended d)))
  -- 68 id: Push imm
  row23 : (n : ℕ) → n < 2 ^ 32 → Row (0x68 ∷ four n) (Push (src.Imm n))
  -- FF /6: Push rm
  row24 : (m : List ℕ) (a : Rm) → Operand m 6 a → Row (0xFF ∷ m) (Push (src.Rm a))
  -- 58+r: Pop reg
  row25 : (r : ℕ) → r < 8 → Row ((0x58 + r) ∷ []) (Pop (Reg r))
  -- 8F /0: Pop rm
  row26 : (m : List ℕ) (a : Rm) → Operand m 0 a → Row (0x8F ∷ m) (Pop a)
  -- F7 /4 to /7: MulDiv 4 MUL, 5 IMUL, 6 DIV, 7 IDIV
  row27 : (g : ℕ) (m : List ℕ) (a : Rm) → 4 ≤ g → Operand m g a → Row (0xF7 ∷ m) (MulDiv g a)
  -- 0F AF /r: Imul reg, rm
  row28 : (g : ℕ) (m : List ℕ) (a : Rm) → Operand m g a → Row (0x0F ∷ 0xAF ∷ m) (Imul g a None)
  -- 6B /r ib, sign extended: Imul reg, rm, imm
  row29 : (g d : ℕ) (m : List ℕ) (a : Rm) → Operand m g a → d < 256 → Row (0x6B ∷ m ++ d ∷ []) (Imul g a (Some (extended d)))
  -- 69 /r id: Imul reg, rm, imm
  row30 : (g n : ℕ) (m : List ℕ) (a : Rm) → Operand m g a → n < 2 ^ 32 → Row (0x69 ∷ m ++ four n) (Imul g a (Some n))
  -- D0, D1 /4 /5 /7, 66: Shift Shl Shr Sar by 1
  row31 : (g : ℕ) (op : ShiftOp) (w : Width) (m : List ℕ) (a : Rm)
      → ShiftField g op → Operand m g a → Row (pair w 0xD0 ++ m) (Shift op w a (count.Imm 1))
  -- C0, C1 /4 /5 /7 ib, 66: Shift by ib
  row32 : (g n : ℕ) (op : ShiftOp) (w : Width) (m : List ℕ) (a : Rm)
      → ShiftField g op → Operand m g a → n < 256 → Row (pair w 0xC0 ++ m ++ n ∷ []) (Shift op w a (count.Imm n))
  -- D2, D3 /4 /5 /7, 66: Shift by cl
  row33 : (g : ℕ) (op : ShiftOp) (w : Width) (m : List ℕ) (a : Rm)
      → ShiftField g op → Operand m g a → Row (pair w 0xD2 ++ m) (Shift op w a count.Cl)
  -- D1 /0 /1; C1 /0 /1 ib; D3 /0 /1: Rotate left, right by 1; ib; cl
  row34_one : (g : ℕ) (right : Bool) (m : List ℕ) (a : Rm)
      → RotateField g right → Operand m g a → Row (0xD1 ∷ m) (Rotate right a (count.Imm 1))
  row34_byte : (g n : ℕ) (right : Bool) (m : List ℕ) (a : Rm)
      → RotateField g right → Operand m g a → n < 256 → Row (0xC1 ∷ m ++ n ∷ []) (Rotate right a (count.Imm n))
  row34_cl : (g : ℕ) (right : Bool) (m : List ℕ) (a : Rm) → RotateField g right → Operand m g a → Row (0xD3 ∷ m) (Rotate right a count.Cl)
  -- 98; 99: Cwde; Cdq
  row35_cwde : Row (0x98 ∷ []) Cwde
  row35_cdq : Row (0x99 ∷ []) Cdq
  -- 0F B6, 0F BE /r, 66: Extend from 8, zero or signed, to 32 or 16
  row36_zero : (g : ℕ) (w : Width) (m : List ℕ) (a : Rm)
      → IsLong w → Operand m g a → Row (size w ++ 0x0F ∷ 0xB6 ∷ m) (Extend false B8 w g a)
  row36_signed : (g : ℕ) (w : Width) (m : List ℕ) (a : Rm)
      → IsLong w → Operand m g a → Row (size w ++ 0x0F ∷ 0xBE ∷ m) (Extend true B8 w g a)
  -- 0F B7, 0F BF /r: Extend from 16, zero or signed, to 32
  row37_zero : (g : ℕ) (m : List ℕ) (a : Rm) → Operand m g a → Row (0x0F ∷ 0xB7 ∷ m) (Extend false B16 B32 g a)
  row37_signed : (g : ℕ) (m : List ℕ) (a : Rm) → Operand m g a → Row (0x0F ∷ 0xBF ∷ m) (Extend true B16 B32 g a)
  -- 0F 90+c, reg field any: Setcc
  row38 : (c g : ℕ) (m : List ℕ) (a : Rm) → c < 16 → Operand m g a → Row (0x0F ∷ (0x90 + c) ∷ m) (Setcc c a)
  -- 0F 40+c /r: Cmov
  row39 : (c g : ℕ) (m : List ℕ) (a : Rm) → c < 16 → Operand m g a → Row (0x0F ∷ (0x40 + c) ∷ m) (Cmov c g a)
  -- 0F 80+c id: Jcc
  row40 : (c n : ℕ) → c < 16 → n < 2 ^ 32 → Row (0x0F ∷ (0x80 + c) ∷ four n) (Jcc c n)
  -- 70+c ib: Jcc
  row41 : (c d : ℕ) → c < 16 → d < 256 → Row ((0x70 + c) ∷ d ∷ []) (Jcc c (extended d))
  -- E9 id: Jmp
  row42 : (n : ℕ) → n < 2 ^ 32 → Row (0xE9 ∷ four n) (Jmp n)
  -- EB ib: Jmp
  row43 : (d : ℕ) → d < 256 → Row (0xEB ∷ d ∷ []) (Jmp (extended d))
  -- FF /4, before it at most one 3E: JmpRm
  row44 : (p m : List ℕ) (a : Rm) → AtMost 0x3E p → Operand m 4 a → Row (p ++ 0xFF ∷ m) (JmpRm a)
  -- E8 id: Call
  row45 : (n : ℕ) → n < 2 ^ 32 → Row (0xE8 ∷ four n) (Call n)
  -- FF /2, before it at most one 3E: CallRm
  row46 : (p m : List ℕ) (a : Rm) → AtMost 0x3E p → Operand m 2 a → Row (p ++ 0xFF ∷ m) (CallRm a)
  -- C3, before it at most one F3: Ret 0
  row47 : (p : List ℕ) → AtMost 0xF3 p → Row (p ++ 0xC3 ∷ []) (Ret 0)
  -- C2 iw: Ret iw
  row48 : (n : ℕ) → n < 2 ^ 16 → Row (0xC2 ∷ two n) (Ret n)
  -- C9: Leave
  row49 : Row (0xC9 ∷ []) Leave
  -- A4, A5, 66, F3: Movs
  row50 : (w : Width) (rep : Bool) (p : List ℕ) → StringPrefix w rep p → Row (p ++ of_width w 0xA4 ∷ []) (Movs w rep)
  -- AA, AB, 66, F3: Stos
  row51 : (w : Width) (rep : Bool) (p : List ℕ) → StringPrefix w rep p → Row (p ++ of_width w 0xAA ∷ []) (Stos w rep)
  -- FC; FD; 9E: Cld; Std; Sahf
  row52_cld : Row (0xFC ∷ []) Cld
  row52_std : Row (0xFD ∷ []) Std
  row52_sahf : Row (0x9E ∷ []) Sahf
  -- CD 80: Int80
  row53 : Row (0xCD ∷ 0x80 ∷ []) Int80
  -- 90: Nop
  row54 : Row (0x90 ∷ []) Nop
  -- 66 90; F3 90; 0F 1F /0; F3 0F 1E FB: Nop
  row55_size : Row (0x66 ∷ 0x90 ∷ []) Nop
  row55_pause : Row (0xF3 ∷ 0x90 ∷ []) Nop
  row55_long : (wide : Bool) (p m : List ℕ) (a : Rm) → Padding p wide → Operand m 0 a → Row (p ++ 0x0F ∷ 0x1F ∷ m) Nop
  row55_end : Row (0xF3 ∷ 0x0F ∷ 0x1E ∷ 0xFB ∷ []) Nop

-- The whole list is a spelling of the instruction. A spelling has at most 15 bytes.
pub record Spells (bytes : List ℕ) (inst : Inst) : Type 0 where
  pub row : Row bytes inst
  pub short : length bytes ≤ 15
