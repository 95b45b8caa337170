-- What a written file does.
use Rattle.std.specs.Prelude.{◌≡◌, ◌≤◌, ℕ, List, length, Ok}
use Rattle.elf_read.specs.declared.exe.Exe.{Exe}
use Rattle.elf_read.specs.declared.exe.Reach.TheVariants.{Guest, Original}
use Rattle.elf_read.specs.Elf.{elf}
use Rattle.trace_file.specs.Edges.{Edge, IsEdges}
use Rattle.flow_graph.specs.declared.error.TheConstants.{MAX_BLOCKS}
use Rattle.flow_graph.specs.GraphOf.{graph_of}
use Rattle.sim_laws.specs.Preserves.{Preserves}
use Rattle.sim_laws.specs.Covers.{Covers}
use Rattle.code_layout.specs.declared.place.TheConstants.{MAX_CODE}
use Rattle.code_layout.specs.Linked.{code_of}
use Rattle.code_layout.specs.Image.{image}

-- Each original is the same executable as a guest; and where neither limit is passed, its image with edges is a guest that does what
-- the original does, and runs none of its instructions while the run keeps to the edges.
abbrev pub ImageLaw : Type 0
ImageLaw = (file : List ℕ) (exe : Exe) (edges : List Edge) → elf Original file ≡ Ok exe → IsEdges edges
    → length (graph_of exe edges) ≤ MAX_BLOCKS → length (code_of exe edges) ≤ MAX_CODE
    → (elf Guest file ≡ Ok exe) × Preserves file (image exe edges) × Covers file (image exe edges) edges
