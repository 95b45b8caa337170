-- How many steps a written file takes.
use Rattle.std.specs.Prelude.{◌≡◌, ◌+◌, ◌*◌, ◌≤◌, ℕ, List, length, Ok}
use Rattle.elf_read.specs.declared.exe.Exe.{Exe}
use Rattle.elf_read.specs.declared.exe.Reach.TheVariants.{Original}
use Rattle.elf_read.specs.Elf.{elf}
use Rattle.run_model.specs.Run.{AreOfBytes, IsWellDefinedRun}
use Rattle.trace_file.specs.Edges.{Edge, IsEdges}
use Rattle.flow_graph.specs.declared.error.TheConstants.{MAX_BLOCKS}
use Rattle.flow_graph.specs.GraphOf.{graph_of}
use Rattle.sim_laws.specs.Preserves.{ReachesAt}
use Rattle.code_layout.specs.declared.place.TheConstants.{MAX_CODE}
use Rattle.code_layout.specs.Linked.{code_of}
use Rattle.code_layout.specs.Image.{image}
use Rattle.image_laws.specs.Quick.{KnowAtMost}

-- the most steps of the file for each step of the original
abbrev pub most_steps : ℕ → ℕ
most_steps exits = 16384 + 2 * exits

-- Where no block has more known exits than these and the original's run of n steps is well defined, the image with edges comes to the
-- same observation within so many times n steps, and on the way shows only what the original does.
abbrev pub KeepsPace : List ℕ → Exe → List Edge → Type 0
KeepsPace file exe edges = (exits : ℕ) → KnowAtMost exits (graph_of exe edges)
    → (words : List (List ℕ)) (input choices : List ℕ) → AreOfBytes file words input
    → (n : ℕ) → IsWellDefinedRun file words input n
    → (r : ReachesAt file (image exe edges) words input choices n) × (r.steps ≤ most_steps exits * n)

-- the image of each original does, where neither limit is passed
abbrev pub ImageQuick : Type 0
ImageQuick = (file : List ℕ) (exe : Exe) (edges : List Edge) → elf Original file ≡ Ok exe → IsEdges edges
    → length (graph_of exe edges) ≤ MAX_BLOCKS → length (code_of exe edges) ≤ MAX_CODE → KeepsPace file exe edges
