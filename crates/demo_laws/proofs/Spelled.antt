-- The spellings of the demonstration are read again, whatever follows them.
use Rattle.std.proofs.Common.{◌≡◌, ℕ, ◌+◌, ◌-◌, ◌^◌, ◌<◌, ◌≤◌, List, [], ◌∷◌, ◌++◌, length, Option, Some, None, refl, ap, ◌∙◌, arith}
use Rattle.std.specs.Prelude.{nat_lt, if◌then◌else◌}
use Rattle.std.specs.Int.{w32, from_le_bytes, to_le_bytes}
use Rattle.std.proofs.lemmas.Bool.{le-ltb}
use Rattle.std.proofs.lemmas.Nat.{from_le_bytes-to_le_bytes_4}
use Rattle.br_word.specs.declared.types.Width.TheVariants.{B32}
use Rattle.br_word.specs.Memory.{bytes_of}
use Rattle.ia_inst.specs.declared.inst.Inst.{Inst}
use Rattle.ia_inst.specs.declared.inst.Inst.TheVariants.{Alu, Mov, Not, Push, Jcc, Call, Ret, Int80}
use Rattle.ia_inst.specs.declared.inst.Rm.TheVariants.{Reg}
use Rattle.ia_inst.specs.declared.inst.Src.TheVariants.{Imm, Rm}
use Rattle.ia_inst.specs.Reading.{◌>>=◌, byte_at, four_at, operand_at, fields_at}
use Rattle.ia_inst.specs.Prefixes.{prefixes_at}
use Rattle.ia_inst.specs.Instructions.{Done, imm_at, constant_at, alu_constant_at, binary_at, unary_at, simple_at, opcode_at, behind_at, inst_at, decode_of}
use Rattle.elf_write.specs.File.{word}

decoded : (bytes rest : List ℕ) (i : Inst) (n : ℕ) → inst_at bytes ≡ Some (i, rest) → length bytes ≡ n + length rest → n ≤ 15 → decode_of bytes ≡ Some (i, n)
unfolding decode_of
decoded bytes rest i n e l s =
    let d : length bytes - length rest ≡ n = omega arith in
    ap (λ (o : Option Done). o >>= λ x. if nat_lt 15 (length bytes - length x.1) then None else Some (x.0, length bytes - length x.1)) e
    ∙ ap (λ m. if nat_lt 15 m then None else Some (i, m)) d
    ∙ ap (λ b. if b then None else Some (i, n)) (le-ltb 15 n s)

number : ℕ → ℕ
number v = from_le_bytes w32 (to_le_bytes w32 v)

number_is : (v : ℕ) → v < 2 ^ 32 → number v ≡ v
unfolding number
number_is v h = from_le_bytes-to_le_bytes_4 v h

read_move : (v : ℕ) (rest : List ℕ) → inst_at (0xB8 ∷ (word v ++ rest)) ≡ Some (Mov B32 (Reg 0) (Imm (number v)), rest)
unfolding number bytes_of inst_at prefixes_at behind_at byte_at opcode_at constant_at imm_at four_at
read_move v rest = refl

read_call : (v : ℕ) (rest : List ℕ) → inst_at (0xE8 ∷ (word v ++ rest)) ≡ Some (Call (number v), rest)
unfolding number bytes_of inst_at prefixes_at behind_at byte_at opcode_at simple_at four_at
read_call v rest = refl

read_add : (v : ℕ) (rest : List ℕ) → inst_at (0x81 ∷ 0xC0 ∷ (word v ++ rest)) ≡ Some (Alu 0 B32 (Reg 0) (Imm (number v)), rest)
unfolding number bytes_of inst_at prefixes_at behind_at byte_at opcode_at alu_constant_at operand_at fields_at imm_at four_at
read_add v rest = refl

word_behind : (v : ℕ) (rest : List ℕ) → length (word v ++ rest) ≡ 4 + length rest
unfolding bytes_of
word_behind v rest = omega arith

pub move_again : (v : ℕ) (rest : List ℕ) → v < 2 ^ 32 → decode_of (0xB8 ∷ (word v ++ rest)) ≡ Some (Mov B32 (Reg 0) (Imm v), 5)
move_again v rest h =
    let l = word_behind v rest in
    decoded (0xB8 ∷ (word v ++ rest)) rest (Mov B32 (Reg 0) (Imm v)) 5 (read_move v rest ∙ ap (λ v. Some (Mov B32 (Reg 0) (Imm v), rest)) (number_is v h)) (omega arith) (omega arith)

pub call_again : (v : ℕ) (rest : List ℕ) → v < 2 ^ 32 → decode_of (0xE8 ∷ (word v ++ rest)) ≡ Some (Call v, 5)
call_again v rest h =
    let l = word_behind v rest in
    decoded (0xE8 ∷ (word v ++ rest)) rest (Call v) 5 (read_call v rest ∙ ap (λ v. Some (Call v, rest)) (number_is v h)) (omega arith) (omega arith)

pub add_again : (v : ℕ) (rest : List ℕ) → v < 2 ^ 32 → decode_of (0x81 ∷ 0xC0 ∷ (word v ++ rest)) ≡ Some (Alu 0 B32 (Reg 0) (Imm v), 6)
add_again v rest h =
    let l = word_behind v rest in
    decoded (0x81 ∷ 0xC0 ∷ (word v ++ rest)) rest (Alu 0 B32 (Reg 0) (Imm v)) 6 (read_add v rest ∙ ap (λ v. Some (Alu 0 B32 (Reg 0) (Imm v), rest)) (number_is v h)) (omega arith) (omega arith)

-- a MOV of these four bytes to eax, ebx and edx
pub move_eax : (k : ℕ) (rest : List ℕ) → decode_of (0xB8 ∷ k ∷ 0 ∷ 0 ∷ 0 ∷ rest) ≡ Some (Mov B32 (Reg 0) (Imm (from_le_bytes w32 (k ∷ 0 ∷ 0 ∷ 0 ∷ []))), 5)
unfolding inst_at prefixes_at behind_at byte_at opcode_at constant_at imm_at four_at
move_eax k rest = decoded (0xB8 ∷ k ∷ 0 ∷ 0 ∷ 0 ∷ rest) rest (Mov B32 (Reg 0) (Imm (from_le_bytes w32 (k ∷ 0 ∷ 0 ∷ 0 ∷ [])))) 5 refl (omega arith) (omega arith)

pub move_ebx : (k : ℕ) (rest : List ℕ) → decode_of (0xBB ∷ k ∷ 0 ∷ 0 ∷ 0 ∷ rest) ≡ Some (Mov B32 (Reg 3) (Imm (from_le_bytes w32 (k ∷ 0 ∷ 0 ∷ 0 ∷ []))), 5)
unfolding inst_at prefixes_at behind_at byte_at opcode_at constant_at imm_at four_at
move_ebx k rest = decoded (0xBB ∷ k ∷ 0 ∷ 0 ∷ 0 ∷ rest) rest (Mov B32 (Reg 3) (Imm (from_le_bytes w32 (k ∷ 0 ∷ 0 ∷ 0 ∷ [])))) 5 refl (omega arith) (omega arith)

pub move_edx : (k : ℕ) (rest : List ℕ) → decode_of (0xBA ∷ k ∷ 0 ∷ 0 ∷ 0 ∷ rest) ≡ Some (Mov B32 (Reg 2) (Imm (from_le_bytes w32 (k ∷ 0 ∷ 0 ∷ 0 ∷ []))), 5)
unfolding inst_at prefixes_at behind_at byte_at opcode_at constant_at imm_at four_at
move_edx k rest = decoded (0xBA ∷ k ∷ 0 ∷ 0 ∷ 0 ∷ rest) rest (Mov B32 (Reg 2) (Imm (from_le_bytes w32 (k ∷ 0 ∷ 0 ∷ 0 ∷ [])))) 5 refl (omega arith) (omega arith)

pub push_eax : (rest : List ℕ) → decode_of (0x50 ∷ rest) ≡ Some (Push (Rm (Reg 0)), 1)
unfolding inst_at prefixes_at behind_at byte_at opcode_at simple_at
push_eax rest = decoded (0x50 ∷ rest) rest (Push (Rm (Reg 0))) 1 refl (omega arith) (omega arith)

pub move_esp : (rest : List ℕ) → decode_of (0x89 ∷ 0xE1 ∷ rest) ≡ Some (Mov B32 (Reg 1) (Rm (Reg 4)), 2)
unfolding inst_at prefixes_at behind_at byte_at opcode_at binary_at operand_at fields_at
move_esp rest = decoded (0x89 ∷ 0xE1 ∷ rest) rest (Mov B32 (Reg 1) (Rm (Reg 4))) 2 refl (omega arith) (omega arith)

pub system_call : (rest : List ℕ) → decode_of (0xCD ∷ 0x80 ∷ rest) ≡ Some (Int80, 2)
unfolding inst_at prefixes_at behind_at byte_at opcode_at simple_at
system_call rest = decoded (0xCD ∷ 0x80 ∷ rest) rest Int80 2 refl (omega arith) (omega arith)

pub jump_sign : (rest : List ℕ) → decode_of (0x78 ∷ 0x02 ∷ rest) ≡ Some (Jcc 8 2, 2)
unfolding inst_at prefixes_at behind_at byte_at opcode_at simple_at
jump_sign rest = decoded (0x78 ∷ 0x02 ∷ rest) rest (Jcc 8 2) 2 refl (omega arith) (omega arith)

pub invert_eax : (rest : List ℕ) → decode_of (0xF7 ∷ 0xD0 ∷ rest) ≡ Some (Not B32 (Reg 0), 2)
unfolding inst_at prefixes_at behind_at byte_at opcode_at unary_at operand_at fields_at
invert_eax rest = decoded (0xF7 ∷ 0xD0 ∷ rest) rest (Not B32 (Reg 0)) 2 refl (omega arith) (omega arith)

pub return : (rest : List ℕ) → decode_of (0xC3 ∷ rest) ≡ Some (Ret 0, 1)
unfolding inst_at prefixes_at behind_at byte_at opcode_at
return rest = decoded (0xC3 ∷ rest) rest (Ret 0) 1 refl (omega arith) (omega arith)
