-- What stands at the addresses of an executable.
use Rattle.std.specs.Prelude.{ℕ, if◌then◌else◌, Option, Some, None}
use Rattle.elf_read.specs.declared.exe.Exe.{Exe}
use Rattle.elf_read.specs.Elf.{is_exec}
use Rattle.elf_read.specs.Code.{code_at}
use Rattle.ia_inst.specs.declared.inst.Inst.{Inst}
use Rattle.ia_inst.specs.Instructions.{decode_of}
use Rattle.ia_inst.specs.Step.{Found, NoCode, NoInst, There, found_from}

-- an instruction, its address, and how many bytes it has
pub record Placed : Type 0 where
  pub at : ℕ
  pub inst : Inst
  pub size : ℕ

-- it is read from the bytes of the executable segment that holds the address, from there on
unfoldable pub found_at : Exe → ℕ → Found
found_at exe at = if is_exec at exe.segments then found_from (decode_of (code_at at exe.segments)) else NoCode

-- the instruction that is found, and how many bytes it has
abbrev pub inst_found : Found → Option (Inst × ℕ)
inst_found NoCode = None
inst_found NoInst = None
inst_found (There i n) = Some (i, n)
