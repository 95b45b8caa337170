-- What an assembled file is read as.
use Rattle.std.specs.Prelude.{◌≡◌, ℕ, ◌+◌, ◌*◌, ◌≤◌, List, length, Contains, Option, Some, None, IfSome, Ok}
use Rattle.br_word.specs.Memory.{AreBytes}
use Rattle.ia_inst.specs.declared.inst.Inst.{Inst}
use Rattle.ia_inst.specs.Canonical.{canonical}
use Rattle.ia_inst.specs.Step.{There}
use Rattle.elf_read.specs.declared.exe.Exe.{Exe}
use Rattle.elf_read.specs.declared.exe.Reach.TheVariants.{Original}
use Rattle.elf_read.specs.Elf.{elf}
use Rattle.block_cut.specs.Places.{found_at}
use Rattle.asm_line.specs.Forms.{Form, Stands, Goes, instruction_of}
use Rattle.elf_flat.specs.Flat.{flat_entry}
use Rattle.asm_text.specs.declared.limits.TheConstants.{SOURCE_LIMIT}
use Rattle.asm_text.specs.Source.{Row, rows_in, goes_to, assembled}

-- the instruction of a form that stands at an address and goes to another, if it has one
abbrev pub inst_in : Option Form → ℕ → ℕ → Option Inst
inst_in (Some (Stands i)) at to = Some i
inst_in (Some (Goes kind name)) at to = Some (instruction_of kind at to)
inst_in _ at to = None

-- the instruction of one of all rows
abbrev pub inst_of_row : List Row → Row → Option Inst
inst_of_row all row = inst_in row.form row.at (goes_to all row.form)

-- the file is accepted as an original that begins behind its headers, and the instruction of each row is found at its address
pub record IsAssembled (source file : List ℕ) : Type 0 where
  pub exe : Exe
  pub bytes : AreBytes file
  pub short : length file ≤ 84 + 3 * length source
  pub reads : elf Original file ≡ Ok exe
  pub entry : exe.entry ≡ flat_entry
  pub finds : (row : Row) → Contains (rows_in source) row →
      IfSome (inst_of_row (rows_in source) row) (λ i. found_at exe row.at ≡ There i (length (canonical i)))

abbrev pub AsmLaw : Type 0
AsmLaw = (source file : List ℕ) → length source ≤ SOURCE_LIMIT → assembled source ≡ Ok file → IsAssembled source file
