-- The file of an original and edges has what the simulation asks for.
use Rattle.std.specs.Prelude.{ℕ, ◌≤◌, List, [], length}
use Rattle.elf_read.specs.declared.exe.Exe.{Exe}
use Rattle.elf_read.specs.Elf.{IsOriginal}
use Rattle.run_model.specs.Edges.{Edge}
use Rattle.code_layout.specs.declared.place.TheConstants.{MAX_CODE}
use Rattle.code_layout.specs.Linked.{code_of}
use Rattle.code_layout.specs.Image.{image}
use Rattle.sim_runs.specs.Promised.{FragmentRuns, Laws}
use Rattle.sim_runs.specs.Pieces.{FragmentsMade}
use Rattle.image_laws.specs.Coded.{coded_of, coding_at}
use Rattle.image_laws.specs.Serves.{HaveBytes}

-- where the code has room and its fragments run within as many steps as the file has bytes
abbrev pub ImagesMeet : Type 0
ImagesMeet = (exe : Exe) (edges : List Edge) (plain : ℕ) → IsOriginal exe → HaveBytes exe
    → length (code_of exe edges) ≤ MAX_CODE → plain ≤ length (image exe edges)
    → FragmentRuns exe edges (coded_of exe edges) (coding_at exe edges) plain
    → Laws exe edges [] (image exe edges) (coded_of exe edges)

-- or where they are made of pieces that do what they have to
abbrev pub ImagesMade : Type 0
ImagesMade = (exe : Exe) (edges : List Edge) → IsOriginal exe → HaveBytes exe
    → length (code_of exe edges) ≤ MAX_CODE
    → FragmentsMade exe edges (coded_of exe edges) (coding_at exe edges)
    → Laws exe edges [] (image exe edges) (coded_of exe edges)
