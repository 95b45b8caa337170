-- What is read behind the prefixes and the opcode (SDM volume 2, appendix A).
use Rattle.std.specs.Prelude.{ℕ, ◌-◌, Bool, true, false, not, ◌&&◌, List, [], ◌∷◌, length, Option, Some, None, ◌==◌, if◌then◌else◌, nat_lt}
use Rattle.std.specs.Int.{w16, from_le_bytes}
use Rattle.ia_inst.specs.declared.inst.Addr.{Addr}
use Rattle.ia_inst.specs.declared.inst.Rm.{Rm}
use Rattle.ia_inst.specs.declared.inst.Rm.TheVariants.{Reg, Mem}
use Rattle.ia_inst.specs.declared.inst.Src.TheVariants as src
use Rattle.ia_inst.specs.declared.inst.Count.{Count}
use Rattle.ia_inst.specs.declared.inst.Count.TheVariants as count
use Rattle.br_word.specs.declared.types.ShiftOp.{ShiftOp}
use Rattle.br_word.specs.declared.types.ShiftOp.TheVariants.{Shl, Shr, Sar}
use Rattle.br_word.specs.declared.types.Width.{Width}
use Rattle.br_word.specs.declared.types.Width.TheVariants.{B8, B16, B32}
use Rattle.ia_inst.specs.declared.inst.Inst.{Inst}
use Rattle.ia_inst.specs.declared.inst.Inst.TheVariants as inst
use Rattle.ia_inst.specs.Operands.{extended, address}
use Rattle.ia_inst.specs.Spells.{extended_to}
use Rattle.ia_inst.specs.declared.prefixes.Prefixes.{Prefixes}
use Rattle.ia_inst.specs.declared.prefixes.Prefixes.TheVariants.{Bare, Repeat}
use Rattle.ia_inst.specs.declared.opcode.Opcode.{Opcode}
use Rattle.ia_inst.specs.declared.opcode.Opcode.TheVariants as opcode
use Rattle.ia_inst.specs.declared.opcode.Binary.{Binary}
use Rattle.ia_inst.specs.declared.opcode.Binary.TheVariants as binary
use Rattle.ia_inst.specs.declared.opcode.Constant.{Constant}
use Rattle.ia_inst.specs.declared.opcode.Constant.TheVariants as constant
use Rattle.ia_inst.specs.declared.opcode.Simple.{Simple}
use Rattle.ia_inst.specs.declared.opcode.Simple.TheVariants as simple
use Rattle.ia_inst.specs.declared.opcode.By.{By}
use Rattle.ia_inst.specs.declared.opcode.By.TheVariants as by
use Rattle.ia_inst.specs.declared.opcode.Second.{Second}
use Rattle.ia_inst.specs.declared.opcode.Second.TheVariants as second
use Rattle.ia_inst.specs.Reading.{◌>>=◌, byte_at, four_at, operand_at}
use Rattle.ia_inst.specs.Prefixes.{is_bare, is_near, is_return, is_nop, padding_of, width_of, string_of, prefixes_at}
use Rattle.ia_inst.specs.Opcodes.{opcode_of, second_of}

-- an instruction, and the rest
abbrev pub Done : Type 0
Done = Inst × List ℕ

-- two bytes, the lowest first
unfoldable pub two_at : List ℕ → Option (ℕ × List ℕ)
two_at (a ∷ b ∷ rest) = Some (from_le_bytes w16 (a ∷ b ∷ []), rest)
two_at _ = None

-- an immediate of a width
unfoldable pub imm_at : Width → List ℕ → Option (ℕ × List ℕ)
imm_at B8 bytes = byte_at bytes
imm_at B16 bytes = two_at bytes
imm_at B32 bytes = four_at bytes

-- /r behind a pair of opcodes
abbrev pub binary_is : Binary → Width → ℕ → Rm → Inst
binary_is (binary.AluTo k) w g a = inst.Alu k w a (src.Rm (Reg g))
binary_is (binary.AluFrom k) w g a = inst.Alu k w (Reg g) (src.Rm a)
binary_is binary.Test w g a = inst.Test w a (src.Rm (Reg g))
binary_is binary.MovTo w g a = inst.Mov w a (src.Rm (Reg g))
binary_is binary.MovFrom w g a = inst.Mov w (Reg g) (src.Rm a)
binary_is binary.Xchg w g a = inst.Xchg w a g

-- an operand and a register
unfoldable pub binary_at : Prefixes → Binary → Bool → List ℕ → Option Done
binary_at c op byte bytes = do
  w ← width_of c byte
  x ← operand_at bytes
  Some (binary_is op w x.0 x.1, x.2)

-- an immediate behind a pair of opcodes
abbrev pub constant_is : Constant → Width → ℕ → Inst
constant_is (constant.Alu k) w n = inst.Alu k w (Reg 0) (src.Imm n)
constant_is constant.Test w n = inst.Test w (Reg 0) (src.Imm n)
constant_is (constant.Mov r) w n = inst.Mov w (Reg r) (src.Imm n)

-- register 0 or the opcode's, and an immediate
unfoldable pub constant_at : Prefixes → Constant → Bool → List ℕ → Option Done
constant_at c op byte bytes = do
  w ← width_of c byte
  n ← imm_at w bytes
  Some (constant_is op w n.0, n.1)

-- 81 and 83: the reg field says which ALU instruction
unfoldable pub alu_constant_at : Prefixes → Bool → List ℕ → Option Done
alu_constant_at c extended bytes = do
  w ← width_of c false
  x ← operand_at bytes
  if extended then (byte_at x.2 >>= λ n. Some (inst.Alu x.0 w x.1 (src.Imm (extended_to w n.0)), n.1))
      else (imm_at w x.2 >>= λ n. Some (inst.Alu x.0 w x.1 (src.Imm n.0), n.1))

-- C6 and C7: the reg field is 0
unfoldable pub mov_constant_at : Prefixes → Bool → List ℕ → Option Done
mov_constant_at c byte bytes = do
  w ← width_of c byte
  x ← operand_at bytes
  if x.0 == 0 then (imm_at w x.2 >>= λ n. Some (inst.Mov w x.1 (src.Imm n.0), n.1)) else None

-- A0 to A3: an address of four bytes
unfoldable pub absolute_at : Prefixes → Bool → Bool → List ℕ → Option Done
absolute_at c store byte bytes = do
  w ← width_of c byte
  d ← four_at bytes
  let m = Mem (address None None d.0) in
      Some ((if store then inst.Mov w m (src.Rm (Reg 0)) else inst.Mov w (Reg 0) (src.Rm m)), d.1)

-- an address, and no register
abbrev pub memory_of : Rm → Option Addr
memory_of (Reg r) = None
memory_of (Mem a) = Some a

-- 8D: in memory alone
unfoldable pub lea_at : Prefixes → List ℕ → Option Done
lea_at c bytes = do
  wide ← padding_of c
  x ← operand_at bytes
  a ← memory_of x.1
  Some (inst.Lea (if wide then B16 else B32) x.0 a, x.2)

-- F6 and F7, by the reg field: TEST, NOT, NEG; MUL, IMUL, DIV, IDIV of 32 bits
unfoldable pub unary_at : Prefixes → Bool → List ℕ → Option Done
unary_at c byte bytes = do
  x ← operand_at bytes
  if nat_lt 3 x.0 then (if not byte && is_bare c then Some (inst.MulDiv x.0 x.1, x.2) else None)
      else (width_of c byte >>= λ w. if x.0 == 0 then (imm_at w x.2 >>= λ n. Some (inst.Test w x.1 (src.Imm n.0), n.1))
      else (if x.0 == 2 then Some (inst.Not w x.1, x.2) else (if x.0 == 3 then Some (inst.Neg w x.1, x.2) else None)))

-- FE and FF, by the reg field: INC, DEC; CALL, JMP, PUSH of 32 bits
unfoldable pub step_at : Prefixes → Bool → List ℕ → Option Done
step_at c byte bytes = do
  x ← operand_at bytes
  if x.0 == 0 then (width_of c byte >>= λ w. Some (inst.Inc w x.1, x.2))
      else (if x.0 == 1 then (width_of c byte >>= λ w. Some (inst.Dec w x.1, x.2))
      else (if byte then None
      else (if x.0 == 2 then (if is_near c then Some (inst.CallRm x.1, x.2) else None)
      else (if x.0 == 4 then (if is_near c then Some (inst.JmpRm x.1, x.2) else None)
      else (if x.0 == 6 then (if is_bare c then Some (inst.Push (src.Rm x.1), x.2) else None) else None)))))

-- how far a shift or a rotation goes
unfoldable pub by_at : By → List ℕ → Option (Count × List ℕ)
by_at by.One bytes = Some (count.Imm 1, bytes)
by_at by.Byte bytes = byte_at bytes >>= λ n. Some (count.Imm n.0, n.1)
by_at by.Cl bytes = Some (count.Cl, bytes)

-- SHL, SHR and SAR by the reg field
abbrev pub shift_of : ℕ → Option ShiftOp
shift_of g = if g == 4 then Some Shl else (if g == 5 then Some Shr else (if g == 7 then Some Sar else None))

-- C0, C1 and D0 to D3, by the reg field: ROL, ROR of 32 bits; SHL, SHR, SAR
unfoldable pub shift_at : Prefixes → By → Bool → List ℕ → Option Done
shift_at c way byte bytes = do
  x ← operand_at bytes
  n ← by_at way x.2
  if nat_lt x.0 2 then (if not byte && is_bare c then Some (inst.Rotate (x.0 == 1) x.1 n.0, n.1) else None)
      else (width_of c byte >>= λ w. shift_of x.0 >>= λ op. Some (inst.Shift op w x.1 n.0, n.1))

-- 69 and 6B: IMUL of three operands
unfoldable pub multiply_at : Bool → List ℕ → Option Done
multiply_at byte bytes = do
  x ← operand_at bytes
  if byte then (byte_at x.2 >>= λ n. Some (inst.Imul x.0 x.1 (Some (extended n.0)), n.1))
      else (four_at x.2 >>= λ n. Some (inst.Imul x.0 x.1 (Some n.0), n.1))

-- 80: the reg field says which ALU instruction
unfoldable pub alu_byte_at : List ℕ → Option Done
alu_byte_at bytes = do
  x ← operand_at bytes
  n ← byte_at x.2
  Some (inst.Alu x.0 B8 x.1 (src.Imm n.0), n.1)

-- 8F: the reg field is 0
unfoldable pub pop_at : List ℕ → Option Done
pop_at bytes = do
  x ← operand_at bytes
  if x.0 == 0 then Some (inst.Pop x.1, x.2) else None

-- behind an opcode before which no prefix stands
unfoldable pub simple_at : Simple → List ℕ → Option Done
simple_at (simple.Whole i) bytes = Some (i, bytes)
simple_at simple.PushByte bytes = byte_at bytes >>= λ n. Some (inst.Push (src.Imm (extended n.0)), n.1)
simple_at simple.PushWord bytes = four_at bytes >>= λ n. Some (inst.Push (src.Imm n.0), n.1)
simple_at simple.PopOperand bytes = pop_at bytes
simple_at (simple.Multiply byte) bytes = multiply_at byte bytes
simple_at simple.AluByte bytes = alu_byte_at bytes
simple_at (simple.ShortJcc c) bytes = byte_at bytes >>= λ n. Some (inst.Jcc c (extended n.0), n.1)
simple_at simple.Jmp bytes = four_at bytes >>= λ n. Some (inst.Jmp n.0, n.1)
simple_at simple.ShortJmp bytes = byte_at bytes >>= λ n. Some (inst.Jmp (extended n.0), n.1)
simple_at simple.Call bytes = four_at bytes >>= λ n. Some (inst.Call n.0, n.1)
simple_at simple.RetPop bytes = two_at bytes >>= λ n. Some (inst.Ret n.0, n.1)
simple_at simple.Interrupt bytes = byte_at bytes >>= λ n. if n.0 == 0x80 then Some (inst.Int80, n.1) else None

-- 0F 1F: the reg field is 0
unfoldable pub hint_at : Prefixes → List ℕ → Option Done
hint_at c bytes = do
  wide ← padding_of c
  x ← operand_at bytes
  if x.0 == 0 then Some (inst.Nop, x.2) else None

-- one F3
abbrev pub is_repeat : Prefixes → Bool
is_repeat Repeat = true
is_repeat _ = false

-- F3 0F 1E FB, ENDBR32
unfoldable pub end_branch_at : Prefixes → List ℕ → Option Done
end_branch_at c bytes = byte_at bytes >>= λ n. if is_repeat c && (n.0 == 0xFB) then Some (inst.Nop, n.1) else None

-- 0F B6 and BE: MOVZX and MOVSX from 8 bits
unfoldable pub extend_at : Prefixes → Bool → List ℕ → Option Done
extend_at c signed bytes = do
  w ← width_of c false
  x ← operand_at bytes
  Some (inst.Extend signed B8 w x.0 x.1, x.2)

-- behind the second byte of an opcode
unfoldable pub second_at : Prefixes → Second → List ℕ → Option Done
second_at c second.Hint bytes = hint_at c bytes
second_at c second.EndBranch bytes = end_branch_at c bytes
second_at c (second.ExtendByte signed) bytes = extend_at c signed bytes
second_at c (second.ExtendWord signed) bytes =
    if is_bare c then (operand_at bytes >>= λ x. Some (inst.Extend signed B16 B32 x.0 x.1, x.2)) else None
second_at c (second.Cmov cond) bytes = if is_bare c then (operand_at bytes >>= λ x. Some (inst.Cmov cond x.0 x.1, x.2)) else None
second_at c (second.Setcc cond) bytes = if is_bare c then (operand_at bytes >>= λ x. Some (inst.Setcc cond x.1, x.2)) else None
second_at c second.Imul bytes = if is_bare c then (operand_at bytes >>= λ x. Some (inst.Imul x.0 x.1 None, x.2)) else None
second_at c (second.Jcc cond) bytes = if is_bare c then (four_at bytes >>= λ n. Some (inst.Jcc cond n.0, n.1)) else None

-- behind 0F
unfoldable pub escape_at : Prefixes → List ℕ → Option Done
escape_at c bytes = do
  b ← byte_at bytes
  o ← second_of b.0
  second_at c o b.1

-- behind the first byte of an opcode
unfoldable pub opcode_at : Prefixes → Opcode → List ℕ → Option Done
opcode_at c (opcode.Simple o) bytes = if is_bare c then simple_at o bytes else None
opcode_at c (opcode.Binary op byte) bytes = binary_at c op byte bytes
opcode_at c (opcode.Constant op byte) bytes = constant_at c op byte bytes
opcode_at c (opcode.AluConstant extended) bytes = alu_constant_at c extended bytes
opcode_at c (opcode.MovConstant byte) bytes = mov_constant_at c byte bytes
opcode_at c (opcode.Absolute store byte) bytes = absolute_at c store byte bytes
opcode_at c opcode.Lea bytes = lea_at c bytes
opcode_at c (opcode.Exchange r) bytes = width_of c false >>= λ w. Some (inst.Xchg w (Reg r) 0, bytes)
opcode_at c (opcode.Inc r) bytes = width_of c false >>= λ w. Some (inst.Inc w (Reg r), bytes)
opcode_at c (opcode.Dec r) bytes = width_of c false >>= λ w. Some (inst.Dec w (Reg r), bytes)
opcode_at c (opcode.Unary byte) bytes = unary_at c byte bytes
opcode_at c (opcode.Step byte) bytes = step_at c byte bytes
opcode_at c (opcode.Shift way byte) bytes = shift_at c way byte bytes
opcode_at c opcode.Ret bytes = if is_return c then Some (inst.Ret 0, bytes) else None
opcode_at c (opcode.Movs byte) bytes = string_of c byte >>= λ w. Some (inst.Movs w.0 w.1, bytes)
opcode_at c (opcode.Stos byte) bytes = string_of c byte >>= λ w. Some (inst.Stos w.0 w.1, bytes)
opcode_at c opcode.Nop bytes = if is_nop c then Some (inst.Nop, bytes) else None
opcode_at c opcode.Escape bytes = escape_at c bytes

-- what stands behind the prefixes
unfoldable pub behind_at : Prefixes × List ℕ → Option Done
behind_at s = do
  b ← byte_at s.1
  o ← opcode_of b.0
  opcode_at s.0 o b.1

-- an instruction, and the rest
unfoldable pub inst_at : List ℕ → Option Done
inst_at bytes = behind_at (prefixes_at Bare bytes)

-- the instruction, and its length: at most 15 bytes (SDM volume 2, 2.3.11)
unfoldable pub decode_of : List ℕ → Option (Inst × ℕ)
decode_of bytes =
    inst_at bytes >>= λ x. if nat_lt 15 (length bytes - length x.1) then None else Some (x.0, length bytes - length x.1)
