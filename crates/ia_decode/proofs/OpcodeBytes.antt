-- Which byte an opcode is: computed for all bytes.
use Rattle.std.proofs.Common.{◌≡◌, ℕ, ◌+◌, ◌*◌, ◌<◌, Bool, true, false, ◌==◌, ◌&&◌, Option, Some, None, refl, subst}
use Rattle.std.specs.Prelude.{nat_lt}
use Rattle.std.proofs.lemmas.Bool.{agree_below_at}
use Rattle.ia_inst.specs.declared.inst.Inst.{Inst}
use Rattle.ia_inst.specs.declared.inst.Inst.TheVariants as inst
use Rattle.ia_inst.specs.declared.inst.Rm.TheVariants.{Reg}
use Rattle.ia_inst.specs.declared.inst.Src.TheVariants as src
use Rattle.ia_inst.specs.declared.opcode.Opcode.{Opcode}
use Rattle.ia_inst.specs.declared.opcode.Opcode.TheVariants as opcode
use Rattle.ia_inst.specs.declared.opcode.Binary.TheVariants as binary
use Rattle.ia_inst.specs.declared.opcode.Constant.TheVariants as constant
use Rattle.ia_inst.specs.declared.opcode.Simple.{Simple}
use Rattle.ia_inst.specs.declared.opcode.Simple.TheVariants as simple
use Rattle.ia_inst.specs.declared.opcode.By.{By}
use Rattle.ia_inst.specs.declared.opcode.By.TheVariants as by
use Rattle.ia_inst.specs.declared.opcode.Second.{Second}
use Rattle.ia_inst.specs.declared.opcode.Second.TheVariants as second
use Rattle.ia_inst.specs.Opcodes.{opcode_of, second_of}

-- a byte of a pair
abbrev pub of_byte : Bool → ℕ → ℕ
of_byte true o = o
of_byte false o = o + 1

abbrev pub whole_test : Inst → ℕ → Bool
whole_test (inst.Push (src.Rm (Reg r))) b = nat_lt r 8 && (b == 0x50 + r)
whole_test (inst.Pop (Reg r)) b = nat_lt r 8 && (b == 0x58 + r)
whole_test inst.Cwde b = b == 0x98
whole_test inst.Cdq b = b == 0x99
whole_test inst.Sahf b = b == 0x9E
whole_test inst.Leave b = b == 0xC9
whole_test inst.Cld b = b == 0xFC
whole_test inst.Std b = b == 0xFD
whole_test _ b = false

abbrev pub simple_test : Simple → ℕ → Bool
simple_test (simple.Whole i) b = whole_test i b
simple_test simple.PushByte b = b == 0x6A
simple_test simple.PushWord b = b == 0x68
simple_test simple.PopOperand b = b == 0x8F
simple_test (simple.Multiply true) b = b == 0x6B
simple_test (simple.Multiply false) b = b == 0x69
simple_test simple.AluByte b = b == 0x80
simple_test (simple.ShortJcc c) b = nat_lt c 16 && (b == 0x70 + c)
simple_test simple.Jmp b = b == 0xE9
simple_test simple.ShortJmp b = b == 0xEB
simple_test simple.Call b = b == 0xE8
simple_test simple.RetPop b = b == 0xC2
simple_test simple.Interrupt b = b == 0xCD

-- the first of the pair
abbrev pub first_by : By → ℕ
first_by by.One = 0xD0
first_by by.Byte = 0xC0
first_by by.Cl = 0xD2

abbrev pub opcode_test : Opcode → ℕ → Bool
opcode_test (opcode.Simple o) b = simple_test o b
opcode_test (opcode.Binary (binary.AluTo k) byte) b = nat_lt k 8 && (b == of_byte byte (8 * k))
opcode_test (opcode.Binary (binary.AluFrom k) byte) b = nat_lt k 8 && (b == of_byte byte (8 * k + 2))
opcode_test (opcode.Binary binary.Test byte) b = b == of_byte byte 0x84
opcode_test (opcode.Binary binary.MovTo byte) b = b == of_byte byte 0x88
opcode_test (opcode.Binary binary.MovFrom byte) b = b == of_byte byte 0x8A
opcode_test (opcode.Binary binary.Xchg byte) b = b == of_byte byte 0x86
opcode_test (opcode.Constant (constant.Alu k) byte) b = nat_lt k 8 && (b == of_byte byte (8 * k + 4))
opcode_test (opcode.Constant constant.Test byte) b = b == of_byte byte 0xA8
opcode_test (opcode.Constant (constant.Mov r) true) b = nat_lt r 8 && (b == 0xB0 + r)
opcode_test (opcode.Constant (constant.Mov r) false) b = nat_lt r 8 && (b == 0xB8 + r)
opcode_test (opcode.AluConstant true) b = b == 0x83
opcode_test (opcode.AluConstant false) b = b == 0x81
opcode_test (opcode.MovConstant byte) b = b == of_byte byte 0xC6
opcode_test (opcode.Absolute true byte) b = b == of_byte byte 0xA2
opcode_test (opcode.Absolute false byte) b = b == of_byte byte 0xA0
opcode_test opcode.Lea b = b == 0x8D
opcode_test (opcode.Exchange r) b = nat_lt r 8 && (nat_lt 0 r && (b == 0x90 + r))
opcode_test (opcode.Inc r) b = nat_lt r 8 && (b == 0x40 + r)
opcode_test (opcode.Dec r) b = nat_lt r 8 && (b == 0x48 + r)
opcode_test (opcode.Unary byte) b = b == of_byte byte 0xF6
opcode_test (opcode.Step byte) b = b == of_byte byte 0xFE
opcode_test (opcode.Shift way byte) b = b == of_byte byte (first_by way)
opcode_test opcode.Ret b = b == 0xC3
opcode_test (opcode.Movs byte) b = b == of_byte byte 0xA4
opcode_test (opcode.Stos byte) b = b == of_byte byte 0xAA
opcode_test opcode.Nop b = b == 0x90
opcode_test opcode.Escape b = b == 0x0F

abbrev pub second_test : Second → ℕ → Bool
second_test (second.Cmov c) b = nat_lt c 16 && (b == 0x40 + c)
second_test (second.Jcc c) b = nat_lt c 16 && (b == 0x80 + c)
second_test (second.Setcc c) b = nat_lt c 16 && (b == 0x90 + c)
second_test second.Imul b = b == 0xAF
second_test (second.ExtendByte false) b = b == 0xB6
second_test (second.ExtendByte true) b = b == 0xBE
second_test (second.ExtendWord false) b = b == 0xB7
second_test (second.ExtendWord true) b = b == 0xBF
second_test second.Hint b = b == 0x1F
second_test second.EndBranch b = b == 0x1E

abbrev on : {A : Type 0} → (A → ℕ → Bool) → Option A → ℕ → Bool
on test None b = true
on test (Some o) b = test o b

abbrev only_true : ℕ → Bool
only_true b = true

pub opcode_is : (b : ℕ) (o : Opcode) → b < 256 → opcode_of b ≡ Some o → opcode_test o b ≡ true
opcode_is b o lt e = subst (λ (x : Option Opcode). on opcode_test x b ≡ true) e (agree_below_at (λ b. on opcode_test (opcode_of b) b) only_true 256 b refl lt)

pub second_is : (b : ℕ) (o : Second) → b < 256 → second_of b ≡ Some o → second_test o b ≡ true
second_is b o lt e = subst (λ (x : Option Second). on second_test x b ≡ true) e (agree_below_at (λ b. on second_test (second_of b) b) only_true 256 b refl lt)
