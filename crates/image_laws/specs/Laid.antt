-- The file of an original and edges as it is laid out.
use Rattle.std.specs.Prelude.{◌+◌, ◌*◌, ◌≤◌, List, length}
use Rattle.elf_read.specs.declared.exe.Exe.{Exe}
use Rattle.elf_read.specs.Elf.{IsOriginal}
use Rattle.run_model.specs.Edges.{Edge}
use Rattle.code_layout.specs.declared.place.TheConstants.{MAX_CODE}
use Rattle.code_layout.specs.Linked.{code_of}
use Rattle.code_layout.specs.Image.{image}
use Rattle.sim_runs.specs.Recovered.{plan_of}
use Rattle.sim_runs.specs.Promised.{IsLaid}
use Rattle.image_laws.specs.Coded.{coded_of}

-- where the code has room, the file is read as the code, the private segment and the original's segments, and the own bytes of each
-- native instruction stand where they are said to
abbrev pub ImagesLaid : Type 0
ImagesLaid = (exe : Exe) (edges : List Edge) → IsOriginal exe → length (code_of exe edges) ≤ MAX_CODE
    → IsLaid exe (plan_of exe edges (coded_of exe edges)) (image exe edges)

-- the file has a header of 52 bytes, one of 32 for each segment, the code's and the private one with them, and the code
-- (ELF, the ELF header and the program header of 32 bits)
abbrev pub ImagesHold : Type 0
ImagesHold = (exe : Exe) (edges : List Edge)
    → 52 + 32 * (2 + length exe.segments) + length (code_of exe edges) ≤ length (image exe edges)
