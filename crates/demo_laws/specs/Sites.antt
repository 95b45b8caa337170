-- What stands in the code of the demonstration (SDM volume 2, MOV, CALL, PUSH, INT, ADD, Jcc, NOT, RET).
use Rattle.std.specs.Prelude.{ℕ, zero, suc, ◌+◌, ◌*◌, ◌<◌, ◌≤◌, List, [], ◌∷◌}
use Rattle.br_word.specs.declared.types.Width.TheVariants.{B32}
use Rattle.elf_read.specs.declared.exe.Exe.{Exe}
use Rattle.ia_inst.specs.declared.inst.Inst.{Inst}
use Rattle.ia_inst.specs.declared.inst.Inst.TheVariants.{Alu, Mov, Not, Push, Jcc, Call, Ret, Int80}
use Rattle.ia_inst.specs.declared.inst.Rm.TheVariants.{Reg}
use Rattle.ia_inst.specs.declared.inst.Src.TheVariants.{Imm, Rm}
use Rattle.block_cut.specs.Places.{Placed}
use Rattle.block_cut.specs.Blocks.{StandFrom}
use Rattle.elf_flat.specs.Flat.{flat_entry}
use Rattle.demo_gen.specs.Demonstration.{next_number}
use Rattle.demo_laws.specs.Accepted.{demo_of}

-- instructions with their lengths, one behind the other from an address on
abbrev pub placed : ℕ → List (Inst × ℕ) → List Placed
placed at [] = []
placed at (p ∷ ps) = record { at = at; inst = p.0; size = p.1 } ∷ placed (at + p.1) ps

-- they stand so in an executable
abbrev pub Stand : Exe → ℕ → List (Inst × ℕ) → Type 0
Stand exe at is = StandFrom exe at (placed at is)

-- ---- where the parts of the code begin

-- call i stands behind the MOV at the entry and i calls, and so does the return of call i - 1
abbrev pub call_site : ℕ → ℕ
call_site i = flat_entry + 5 + 5 * i

-- the write stands behind all calls
abbrev pub write_site : ℕ → ℕ
write_site count = call_site count

abbrev pub exit_site : ℕ → ℕ
exit_site count = write_site count + 20

-- function i
abbrev pub function_site : ℕ → ℕ → ℕ
function_site count i = exit_site count + 12 + 11 * i

-- ---- what stands there

-- the number that function i adds, by the number before that of the first
abbrev pub number_added : ℕ → ℕ → ℕ
number_added x zero = next_number x
number_added x (suc i) = number_added (next_number x) i

-- eax becomes the number of functions
abbrev pub entry_part : ℕ → List (Inst × ℕ)
entry_part count = (Mov B32 (Reg 0) (Imm count), 5) ∷ []

-- a call with this distance
abbrev pub call_part : ℕ → List (Inst × ℕ)
call_part distance = (Call distance, 5) ∷ []

-- write of the four bytes at esp, which are those of eax, to descriptor 1
abbrev pub write_part : List (Inst × ℕ)
write_part =
    (Push (Rm (Reg 0)), 1) ∷ (Mov B32 (Reg 0) (Imm 4), 5) ∷ (Mov B32 (Reg 3) (Imm 1), 5) ∷ (Mov B32 (Reg 1) (Rm (Reg 4)), 2)
    ∷ (Mov B32 (Reg 2) (Imm 4), 5) ∷ (Int80, 2) ∷ []

-- exit with 0
abbrev pub exit_part : List (Inst × ℕ)
exit_part = (Mov B32 (Reg 0) (Imm 1), 5) ∷ (Mov B32 (Reg 3) (Imm 0), 5) ∷ (Int80, 2) ∷ []

-- a number is added, and the sum inverted where it is not negative
abbrev pub function_part : ℕ → List (Inst × ℕ)
function_part number = (Alu 0 B32 (Reg 0) (Imm number), 6) ∷ (Jcc 8 2, 2) ∷ (Not B32 (Reg 0), 2) ∷ (Ret 0, 1) ∷ []

-- all of it
pub record HasDemoSites (count : ℕ) : Type 0 where
  pub entry : Stand (demo_of count) flat_entry (entry_part count)
  pub call : (i : ℕ) → i < count → Stand (demo_of count) (call_site i) (call_part (27 + 5 * count + 6 * i))
  pub write : Stand (demo_of count) (write_site count) write_part
  pub exit : Stand (demo_of count) (exit_site count) exit_part
  pub function : (i : ℕ) → i < count → Stand (demo_of count) (function_site count i) (function_part (number_added count i))

-- with any number of functions from 1 to 1000
abbrev pub DemoSites : Type 0
DemoSites = (count : ℕ) → 1 ≤ count → count ≤ 1000 → HasDemoSites count
