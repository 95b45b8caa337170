-- How many steps the parts of a written file take.
use Rattle.std.specs.Prelude.{◌≡◌, ℕ, ◌+◌, ◌*◌, ◌<◌, ◌≤◌, true, false, List, [], length, get_or, All}
use Rattle.elf_read.specs.declared.exe.Exe.{Exe}
use Rattle.elf_read.specs.Elf.{IsGuest, IsOriginal}
use Rattle.run_model.specs.Edges.{Edge}
use Rattle.block_cut.specs.Blocks.{block_of}
use Rattle.trace_file.specs.Edges.{ascends}
use Rattle.flow_graph.specs.declared.error.TheConstants.{MAX_BLOCKS}
use Rattle.flow_graph.specs.Graph.{Node}
use Rattle.flow_graph.specs.GraphOf.{graph_of}
use Rattle.code_layout.specs.declared.place.TheConstants.{MAX_CODE}
use Rattle.code_layout.specs.Linked.{code_of}
use Rattle.code_layout.specs.Image.{image}
use Rattle.sim_runs.specs.Recovered.{Coded, is_island_end, is_start_of}
use Rattle.sim_runs.specs.Promised.{FragmentRuns, Laws}
use Rattle.sim_runs.specs.Pieces.{FragmentsMade, PathsWithin}
use Rattle.image_laws.specs.Coded.{coded_of, coding_at}
use Rattle.image_laws.specs.Linked.{HasFragments}
use Rattle.image_laws.specs.Serves.{HaveBytes}
use Rattle.image_laws.specs.Made.{IsMade}

-- no block has more known exits than this
abbrev pub KnowAtMost : ℕ → List Node → Type 0
KnowAtMost exits g = All (λ (b : Node). length b.known ≤ exits) g

-- the most steps of a fragment of such a block
abbrev pub fragment_steps : ℕ → ℕ
fragment_steps exits = 16000 + 2 * exits

-- the fragments of starts are made of pieces that do what they have to, and no way through one has more instructions
abbrev pub FragmentsQuick : Type 0
FragmentsQuick = (exe : Exe) (edges : List Edge) (out : ℕ → ℕ) (c : Coded) (exits : ℕ) → HaveBytes exe
    → HasFragments exe edges out c → ((i : ℕ) → get_or c.code.bytes i 0 < 256)
    → ((x : ℕ) → is_start_of exe edges x ≡ true → is_island_end (block_of exe x).end ≡ false → IsMade exe edges x)
    → KnowAtMost exits (graph_of exe edges)
    → (made : FragmentsMade exe edges c (coding_at exe edges)) × PathsWithin exe edges c (coding_at exe edges) made (fragment_steps exits)

-- so they run: from the block of a start to that of a known exit, or to where the recovered code goes on beyond its blocks
pub record LinkedRun (exe : Exe) (edges : List Edge) (c : Coded) : Type 0 where
  pub by_length : FragmentRuns exe edges c (coding_at exe edges) (length c.code.bytes)
  pub by_exits : (exits : ℕ) → KnowAtMost exits (graph_of exe edges) → FragmentRuns exe edges c (coding_at exe edges) (fragment_steps exits)

abbrev pub FragmentsLinkedRun : Type 0
FragmentsLinkedRun = (exe : Exe) (edges : List Edge) (out : ℕ → ℕ) (c : Coded) → IsGuest exe → HaveBytes exe → ascends edges ≡ true
    → length (graph_of exe edges) ≤ MAX_BLOCKS → HasFragments exe edges out c → LinkedRun exe edges c

-- the bounds of what the simulation asks for: at the entry, and of a fragment or a native instruction
pub record IsQuick (exe : Exe) (edges : List Edge) (exits : ℕ) : Type 0 where
  pub laws : Laws exe edges [] (image exe edges) (coded_of exe edges)
  pub top : laws.top ≤ 64
  pub high : laws.high ≤ fragment_steps exits

-- the file of an original and edges in order, not too many, has it within these bounds
abbrev pub ImagesQuick : Type 0
ImagesQuick = (exe : Exe) (edges : List Edge) (exits : ℕ) → IsOriginal exe → HaveBytes exe → ascends edges ≡ true
    → length (graph_of exe edges) ≤ MAX_BLOCKS → length (code_of exe edges) ≤ MAX_CODE
    → KnowAtMost exits (graph_of exe edges) → IsQuick exe edges exits
