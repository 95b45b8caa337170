-- The blocks of a graph as one list, made from an executable and edges.
use Rattle.std.specs.Prelude.{◌≡◌, ℕ, zero, suc, ◌^◌, ◌<◌, ◌==◌, nat_lt, if◌then◌else◌, ◌↔◌}
use Rattle.std.specs.Prelude.{List, [], ◌∷◌, length, map, Option, Some, None}
use Rattle.elf_read.specs.declared.exe.Exe.{Exe}
use Rattle.elf_read.specs.Elf.{IsGuest}
use Rattle.block_cut.specs.Blocks.{follow_of}
use Rattle.run_model.specs.Edges.{Edge}
use Rattle.block_cut.specs.CountedEdges.{counting}
use Rattle.flow_graph.specs.declared.error.TheConstants.{MAX_BLOCKS}
use Rattle.flow_graph.specs.Graph.{known_of, AreStarts, HasTooMany, Node, starts_in, IsGraph, AreCode}

-- what comes from an address, where there is one
abbrev pub from_some : (ℕ → List ℕ) → Option ℕ → List ℕ
from_some rest None = []
from_some rest (Some t) = rest t

-- an address, its following start, and so on, with room for so many
unfoldable pub chain : Exe → ℕ → ℕ → List ℕ
chain exe zero t = []
chain exe (suc n) t = t ∷ from_some (chain exe n) (follow_of exe t)

-- as many as there are addresses
unfoldable pub reached_from : Exe → ℕ → List ℕ
reached_from exe t = chain exe (2 ^ 32) t

-- a start put in its place, unless it is there
abbrev pub with_start : ℕ → List ℕ → List ℕ
with_start s [] = s ∷ []
with_start s (t ∷ ts) = if nat_lt s t then (s ∷ t ∷ ts) else (if s == t then (t ∷ ts) else (t ∷ with_start s ts))

-- starts put in their places
abbrev pub with_starts : List ℕ → List ℕ → List ℕ
with_starts [] ts = ts
with_starts (s ∷ ss) ts = with_start s (with_starts ss ts)

-- of edges that count: what is reached from their targets, in order, each once
unfoldable pub starts_of : Exe → List Edge → List ℕ
starts_of exe [] = []
starts_of exe (e ∷ es) = with_starts (reached_from exe e.1) (starts_of exe es)

-- of edges that count: the block of each start
abbrev pub nodes_from : Exe → List Edge → List Node
nodes_from exe es = map (λ s. record { start = s; known = known_of exe es s }) (starts_of exe es)

-- of any edges: the blocks of the graph
unfoldable pub graph_of : Exe → List Edge → List Node
graph_of exe edges = nodes_from exe (counting exe edges)

-- that list has the starts, it is the only graph, it alone decides whether there are too many, and all its blocks start in
-- code
pub record OneGraph : Type 0 where
  pub starts : (exe : Exe) (edges : List Edge) → IsGuest exe
      → AreStarts exe (counting exe edges) (starts_in (graph_of exe edges))
  pub only : (exe : Exe) (edges : List Edge) (g : List Node) → IsGuest exe
      → IsGraph exe (counting exe edges) g → g ≡ graph_of exe edges
  pub many : (exe : Exe) (edges : List Edge) → IsGuest exe
      → HasTooMany exe (counting exe edges) ↔ (MAX_BLOCKS < length (graph_of exe edges))
  pub code : (exe : Exe) (edges : List Edge) → AreCode exe (graph_of exe edges)
