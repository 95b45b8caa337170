-- What a session keeps besides what is seen of it.
use Rattle.std.specs.Prelude.{◌≡◌, ℕ, List, map}
use Rattle.std.specs.List.Sorted.{IsStrictlyIncreasing}
use Rattle.elf_read.specs.declared.exe.Exe.{Exe}
use Rattle.elf_read.specs.Elf.{IsOriginal}
use Rattle.run_model.specs.Edges.{Edge}
use Rattle.block_cut.specs.CountedEdges.{counting}
use Rattle.flow_graph.specs.Graph.{GraphView, IsGraph, AreCutsOf}
use Rattle.ssa_form.specs.declared.form.BlockKey.{BlockKey}
use Rattle.live_flow.specs.declared.row.LiveRow.{LiveRow}
use Rattle.block_make.specs.FragmentCode.{OpenCode, coded}
use Rattle.code_layout.specs.Keys.{AreRows}

-- a graph is the one of edges
pub record IsGraphOf (exe : Exe) (last : List Edge) (g : GraphView) : Type 0 where
  pub edges : g.edges ≡ counting exe last
  pub graph : IsGraph exe g.edges g.nodes
  pub cuts : AreCutsOf exe g

-- where keys start
abbrev pub starts_of_keys : List BlockKey → List ℕ
starts_of_keys keys = map (λ (key : BlockKey). key.start) keys

-- the fragments of keys
abbrev pub codes_of : Exe → List BlockKey → List OpenCode
codes_of exe keys = map (λ (key : BlockKey). coded exe key) keys

-- the graph is the one of the edges it was made for, rows are those of blocks, keys ascend by their starts, and each fragment is that
-- of its key
pub record IsKept (exe : Exe) (last : List Edge) (g : GraphView) (rows : List LiveRow)
    (keys : List BlockKey) (fragments : List OpenCode) : Type 0 where
  pub original : IsOriginal exe
  pub graph : IsGraphOf exe last g
  pub rows_are : AreRows exe rows
  pub order : IsStrictlyIncreasing (starts_of_keys keys)
  pub codes : fragments ≡ codes_of exe keys
