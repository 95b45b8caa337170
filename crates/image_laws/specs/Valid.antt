-- The items of fragments have encodings, and the code is of bytes.
use Rattle.std.specs.Prelude.{ℕ, ◌<◌, List, get_or}
use Rattle.br_word.specs.Memory.{Region}
use Rattle.elf_read.specs.declared.exe.Exe.{Exe}
use Rattle.elf_read.specs.Elf.{IsGuest}
use Rattle.ia_encode.specs.Items.{AreValid}
use Rattle.run_model.specs.Edges.{Edge}
use Rattle.image_laws.specs.Coded.{start_items}
use Rattle.image_laws.specs.Linked.{BeginsLinked}
use Rattle.image_laws.specs.Serves.{HaveBytes}

-- those of each start
abbrev pub ItemsValid : Type 0
ItemsValid = (exe : Exe) (edges : List Edge) (x : ℕ) → IsGuest exe → HaveBytes exe → AreValid (start_items exe edges x)

-- where the segments of an executable are of bytes, so is the code
abbrev pub CodeIsBytes : Type 0
CodeIsBytes = (exe : Exe) (edges : List Edge) (out : ℕ → ℕ) (code : Region) → IsGuest exe → HaveBytes exe
    → BeginsLinked exe edges out code → (i : ℕ) → get_or code.bytes i 0 < 256
