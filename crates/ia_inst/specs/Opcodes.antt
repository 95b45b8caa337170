-- Which opcode a byte is (SDM volume 2, appendix A, one-byte and two-byte opcode maps).
use Rattle.std.specs.Prelude.{ℕ, ◌/◌, ◌%◌, ◌==◌, ◌&&◌, ◌||◌, true, false, Option, Some, None, if◌then◌else◌, nat_lt}
use Rattle.ia_inst.specs.declared.inst.Inst.TheVariants as inst
use Rattle.ia_inst.specs.declared.inst.Rm.TheVariants.{Reg}
use Rattle.ia_inst.specs.declared.inst.Src.TheVariants as src
use Rattle.ia_inst.specs.declared.opcode.Opcode.{Opcode}
use Rattle.ia_inst.specs.declared.opcode.Opcode.TheVariants as opcode
use Rattle.ia_inst.specs.declared.opcode.Binary.TheVariants as binary
use Rattle.ia_inst.specs.declared.opcode.Constant.TheVariants as constant
use Rattle.ia_inst.specs.declared.opcode.Simple.TheVariants as simple
use Rattle.ia_inst.specs.declared.opcode.By.TheVariants as by
use Rattle.ia_inst.specs.declared.opcode.Second.{Second}
use Rattle.ia_inst.specs.declared.opcode.Second.TheVariants as second

-- the first six of each row of eight below 40: ALU instructions by their low three bits
abbrev pub alu_of : ℕ → ℕ → Option Opcode
alu_of op low =
    if low == 0 then Some (opcode.Binary (binary.AluTo op) true) else (
    if low == 1 then Some (opcode.Binary (binary.AluTo op) false) else (
    if low == 2 then Some (opcode.Binary (binary.AluFrom op) true) else (
    if low == 3 then Some (opcode.Binary (binary.AluFrom op) false) else (
    if low == 4 then Some (opcode.Constant (constant.Alu op) true) else (
    if low == 5 then Some (opcode.Constant (constant.Alu op) false) else
    None)))))

-- the opcodes below A0 that hold no register
abbrev pub low_single_of : ℕ → Option Opcode
low_single_of b =
    if b == 0x68 then Some (opcode.Simple simple.PushWord) else (
    if b == 0x69 then Some (opcode.Simple (simple.Multiply false)) else (
    if b == 0x6a then Some (opcode.Simple simple.PushByte) else (
    if b == 0x6b then Some (opcode.Simple (simple.Multiply true)) else (
    if b == 0x80 then Some (opcode.Simple simple.AluByte) else (
    if b == 0x81 then Some (opcode.AluConstant false) else (
    if b == 0x83 then Some (opcode.AluConstant true) else (
    if b == 0x84 then Some (opcode.Binary binary.Test true) else (
    if b == 0x85 then Some (opcode.Binary binary.Test false) else (
    if b == 0x86 then Some (opcode.Binary binary.Xchg true) else (
    if b == 0x87 then Some (opcode.Binary binary.Xchg false) else (
    if b == 0x88 then Some (opcode.Binary binary.MovTo true) else (
    if b == 0x89 then Some (opcode.Binary binary.MovTo false) else (
    if b == 0x8a then Some (opcode.Binary binary.MovFrom true) else (
    if b == 0x8b then Some (opcode.Binary binary.MovFrom false) else (
    if b == 0x8d then Some opcode.Lea else (
    if b == 0x8f then Some (opcode.Simple simple.PopOperand) else (
    if b == 0x98 then Some (opcode.Simple (simple.Whole inst.Cwde)) else (
    if b == 0x99 then Some (opcode.Simple (simple.Whole inst.Cdq)) else (
    if b == 0x9e then Some (opcode.Simple (simple.Whole inst.Sahf)) else
    None)))))))))))))))))))

-- the opcodes from A0 on that hold no register
abbrev pub high_single_of : ℕ → Option Opcode
high_single_of b =
    if b == 0xa0 then Some (opcode.Absolute false true) else (
    if b == 0xa1 then Some (opcode.Absolute false false) else (
    if b == 0xa2 then Some (opcode.Absolute true true) else (
    if b == 0xa3 then Some (opcode.Absolute true false) else (
    if b == 0xa4 then Some (opcode.Movs true) else (
    if b == 0xa5 then Some (opcode.Movs false) else (
    if b == 0xa8 then Some (opcode.Constant constant.Test true) else (
    if b == 0xa9 then Some (opcode.Constant constant.Test false) else (
    if b == 0xaa then Some (opcode.Stos true) else (
    if b == 0xab then Some (opcode.Stos false) else (
    if b == 0xc0 then Some (opcode.Shift by.Byte true) else (
    if b == 0xc1 then Some (opcode.Shift by.Byte false) else (
    if b == 0xc2 then Some (opcode.Simple simple.RetPop) else (
    if b == 0xc3 then Some opcode.Ret else (
    if b == 0xc6 then Some (opcode.MovConstant true) else (
    if b == 0xc7 then Some (opcode.MovConstant false) else (
    if b == 0xc9 then Some (opcode.Simple (simple.Whole inst.Leave)) else (
    if b == 0xcd then Some (opcode.Simple simple.Interrupt) else (
    if b == 0xd0 then Some (opcode.Shift by.One true) else (
    if b == 0xd1 then Some (opcode.Shift by.One false) else (
    if b == 0xd2 then Some (opcode.Shift by.Cl true) else (
    if b == 0xd3 then Some (opcode.Shift by.Cl false) else (
    if b == 0xe8 then Some (opcode.Simple simple.Call) else (
    if b == 0xe9 then Some (opcode.Simple simple.Jmp) else (
    if b == 0xeb then Some (opcode.Simple simple.ShortJmp) else (
    if b == 0xf6 then Some (opcode.Unary true) else (
    if b == 0xf7 then Some (opcode.Unary false) else (
    if b == 0xfc then Some (opcode.Simple (simple.Whole inst.Cld)) else (
    if b == 0xfd then Some (opcode.Simple (simple.Whole inst.Std)) else (
    if b == 0xfe then Some (opcode.Step true) else (
    if b == 0xff then Some (opcode.Step false) else
    None))))))))))))))))))))))))))))))

-- the opcodes that hold no register
abbrev pub single_of : ℕ → Option Opcode
single_of b = if nat_lt b 0xa0 then low_single_of b else high_single_of b

-- a byte as the first of an opcode; some hold a register, an ALU instruction or a condition in their low bits
abbrev pub opcode_of : ℕ → Option Opcode
opcode_of b =
    if ((b / 8) == 1) && ((b % 8) == 7) then Some opcode.Escape else (
    if nat_lt (b / 8) 8 then alu_of (b / 8) (b % 8) else (
    if (b / 8) == 8 then Some (opcode.Inc (b % 8)) else (
    if (b / 8) == 9 then Some (opcode.Dec (b % 8)) else (
    if (b / 8) == 10 then Some (opcode.Simple (simple.Whole (inst.Push (src.Rm (Reg (b % 8)))))) else (
    if (b / 8) == 11 then Some (opcode.Simple (simple.Whole (inst.Pop (Reg (b % 8))))) else (
    if ((b / 8) == 14) || ((b / 8) == 15) then Some (opcode.Simple (simple.ShortJcc (b % 16))) else (
    if (b / 8) == 18 then (if (b % 8) == 0 then Some opcode.Nop else Some (opcode.Exchange (b % 8))) else (
    if (b / 8) == 22 then Some (opcode.Constant (constant.Mov (b % 8)) true) else (
    if (b / 8) == 23 then Some (opcode.Constant (constant.Mov (b % 8)) false) else single_of b)))))))))

-- a byte as the second of an opcode, behind 0F
abbrev pub second_of : ℕ → Option Second
second_of b =
    if (b / 16) == 4 then Some (second.Cmov (b % 16)) else (
    if (b / 16) == 8 then Some (second.Jcc (b % 16)) else (
    if (b / 16) == 9 then Some (second.Setcc (b % 16)) else (
    if b == 0x1E then Some second.EndBranch else (
    if b == 0x1F then Some second.Hint else (
    if b == 0xAF then Some second.Imul else (
    if b == 0xB6 then Some (second.ExtendByte false) else (
    if b == 0xB7 then Some (second.ExtendWord false) else (
    if b == 0xBE then Some (second.ExtendByte true) else (
    if b == 0xBF then Some (second.ExtendWord true) else None)))))))))
