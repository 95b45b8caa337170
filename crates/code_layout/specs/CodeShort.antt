-- How long the recovered code of a graph is.
use Rattle.std.specs.Prelude.{ℕ, ◌+◌, ◌*◌, ◌≤◌, List, length, All}
use Rattle.elf_read.specs.declared.exe.Exe.{Exe}
use Rattle.run_model.specs.Edges.{Edge}
use Rattle.block_cut.specs.Blocks.{block_of}
use Rattle.flow_graph.specs.Graph.{Node}
use Rattle.flow_graph.specs.GraphOf.{graph_of}
use Rattle.block_make.specs.CodesShort.{most_bytes}
use Rattle.code_layout.specs.Linked.{code_of}

-- a block of at most so many instructions, with at most so many known exits
pub record IsWithin (exe : Exe) (instructions exits : ℕ) (b : Node) : Type 0 where
  pub short : length (block_of exe b.start).insts ≤ instructions
  pub few : length b.known ≤ exits

-- the most bytes of the code at the entry
abbrev pub ENTRY_BYTES : ℕ
ENTRY_BYTES = 300

-- where each block is so, the code has at most those of the entry and those of a fragment for each block
abbrev pub CodeShort : Type 0
CodeShort = (exe : Exe) (edges : List Edge) (instructions exits : ℕ) → All (IsWithin exe instructions exits) (graph_of exe edges)
    → length (code_of exe edges) ≤ ENTRY_BYTES + length (graph_of exe edges) * most_bytes instructions exits
