-- How a graph keeps its blocks: a row for each, and the targets of all of them in one list.
use Rattle.std.specs.Prelude.{◌≡◌, ℕ, ◌-◌, ◌≤◌, List, ◌++◌, length, take, drop, map, All}
use Rattle.std.specs.List.Sorted.{IsStrictlyIncreasing}
use Rattle.run_model.specs.Edges.{Edge}
use Rattle.trace_file.specs.Edges.{IsEdges}
use Rattle.elf_read.specs.declared.exe.Exe.{Exe}
use Rattle.block_cut.specs.declared.ends.Cut.{Cut}
use Rattle.block_cut.specs.Blocks.{block_of, cut_of}
use Rattle.flow_graph.specs.declared.block_rows.BlockRow.{BlockRow}
use Rattle.flow_graph.specs.declared.error.TheConstants.{MAX_BLOCKS}
use Rattle.flow_graph.specs.Graph.{Node, GraphView}

-- the block that a row shows
abbrev pub node_of : List ℕ → BlockRow → Node
node_of targets r = record { start = r.start; known = take (r.to - r.from) (drop r.from targets) }

-- the blocks that rows show
abbrev pub nodes_of : List ℕ → List BlockRow → List Node
nodes_of targets rows = map (node_of targets) rows

-- how far they go
abbrev pub cuts_in : List BlockRow → List Cut
cuts_in rows = map (λ (r : BlockRow). r.cut) rows

-- where they start
abbrev pub row_starts : List BlockRow → List ℕ
row_starts rows = map (λ (r : BlockRow). r.start) rows

-- what is kept, as it is seen
abbrev pub view_of : List Edge → List ℕ → List BlockRow → GraphView
view_of edges targets rows = record { edges = edges; nodes = nodes_of targets rows; cuts = cuts_in rows }

-- a row of so many targets
pub record IsRow (count : ℕ) (r : BlockRow) : Type 0 where
  pub order : r.from ≤ r.to
  pub inside : r.to ≤ count

-- the rows of a graph
pub record AreRows (targets : List ℕ) (rows : List BlockRow) : Type 0 where
  pub few : length rows ≤ MAX_BLOCKS
  pub each : All (IsRow (length targets)) rows
  pub ascend : IsStrictlyIncreasing (row_starts rows)

-- what a graph keeps
pub record IsKept (es : List Edge) (targets : List ℕ) (rs : List BlockRow) : Type 0 where
  pub edges : IsEdges es
  pub rows : AreRows targets rs

-- a row goes as far as the block of its start
abbrev pub IsCutOf : Exe → BlockRow → Type 0
IsCutOf exe r = r.cut ≡ cut_of r.start (block_of exe r.start)

-- rows of blocks that need no cut: ascending, each as far as its block
pub record AreKnown (exe : Exe) (rows : List BlockRow) : Type 0 where
  pub ascend : IsStrictlyIncreasing (row_starts rows)
  pub cuts : All (IsCutOf exe) rows

-- ---- how the rows are made

-- the targets of the edges that count come first
abbrev pub Holds : List Edge → List ℕ → Type 0
Holds counted targets = (more : List ℕ) × (targets ≡ map (λ (e : Edge). e.1) counted ++ more)

-- at most so many more targets
abbrev pub Gains : ℕ → List ℕ → List ℕ → Type 0
Gains n old new = (more : List ℕ) × (new ≡ old ++ more) × (length more ≤ n)

-- a row shows this start, these known exits and this cut
pub record IsMade (targets : List ℕ) (start : ℕ) (known : List ℕ) (c : Cut) (r : BlockRow) : Type 0 where
  pub row : IsRow (length targets) r
  pub node : node_of targets r ≡ record { start = start; known = known }
  pub cut : r.cut ≡ c

-- rows show these blocks, each with its known exits
pub record AreMade (targets : List ℕ) (blocks : List (ℕ × Cut)) (known : ℕ → List ℕ) (rows : List BlockRow) : Type 0 where
  pub each : All (IsRow (length targets)) rows
  pub nodes : nodes_of targets rows ≡ map (λ (b : ℕ × Cut). record { start = b.0; known = known b.0 }) blocks
  pub cuts : cuts_in rows ≡ map (λ (b : ℕ × Cut). b.1) blocks
