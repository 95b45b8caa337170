-- What the reader answers.
use Rattle.std.specs.Prelude.{◌≡◌, ℕ, ◌+◌, ◌*◌, ◌≤◌, Bool, ◌&&◌, List, length, Option, Some, None, Result, Ok, Err}
use Rattle.elf_read.specs.declared.exe.Exe.{Exe}
use Rattle.elf_read.specs.declared.exe.Reach.{Reach}
use Rattle.elf_read.specs.declared.error.ElfError.{ElfError}
use Rattle.elf_read.specs.declared.error.ElfError.TheVariants as Answer
use Rattle.elf_read.specs.declared.header.Header.{Header}
use Rattle.elf_read.specs.declared.header.Table.{Table}
use Rattle.elf_read.specs.declared.check.Check.{Check}
use Rattle.elf_read.specs.declared.check.Check.TheVariants.{OtherKind, WritesCode, IsOutside, HasMoreBytes}
use Rattle.elf_read.specs.Elf.{field, table_of, loaded, first_where, is_other_kind, is_loaded, writes_code, is_outside, has_more_bytes, elf}
use Rattle.elf_read.specs.Elf as Spec

-- the answer is what the definition says of the file, or memory was wanting for one that is accepted
abbrev pub ReadsElf : Reach → List ℕ → Result Exe ElfError → Type 0
ReadsElf reach bytes (Ok exe) = elf reach bytes ≡ Ok exe
ReadsElf reach bytes (Err (Answer.Refused number place)) = elf reach bytes ≡ Err (record { number = number; place = place })
ReadsElf reach bytes (Err Answer.Memory) = (exe : Exe) × (elf reach bytes ≡ Ok exe)

-- an error is this refusal
abbrev pub Blames : ElfError → Option Spec.Refused → Type 0
Blames (Answer.Refused number place) refused = refused ≡ Some (record { number = number; place = place })
Blames Answer.Memory refused = ⊥

-- a check went well, or answered this refusal
abbrev pub Says : {X : Type 0} → Result X ElfError → Option Spec.Refused → Type 0
Says (Ok _) refused = refused ≡ None
Says (Err e) refused = Blames e refused

-- where the program headers of a file lie
pub record IsTable (bytes : List ℕ) (table : Table) : Type 0 where
  pub start : table.start ≡ field 4 28 bytes
  pub count : table.count ≡ field 2 44 bytes
  pub inside : table.start + 32 * table.count ≤ length bytes

-- the test of a check, for a file of so many bytes
abbrev pub fails : Check → ℕ → Header → Bool
fails OtherKind total h = is_other_kind h
fails WritesCode total h = is_loaded h && writes_code h
fails (IsOutside reach) total h = is_loaded h && is_outside reach total h
fails HasMoreBytes total h = has_more_bytes h

-- the place of the first header at which a check fails
abbrev pub failed_at : Check → List ℕ → Option ℕ
failed_at OtherKind bytes = first_where is_other_kind (table_of bytes)
failed_at WritesCode bytes = first_where writes_code (loaded bytes)
failed_at (IsOutside reach) bytes = first_where (is_outside reach (length bytes)) (loaded bytes)
failed_at HasMoreBytes bytes = first_where has_more_bytes (table_of bytes)
