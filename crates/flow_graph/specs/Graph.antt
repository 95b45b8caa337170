-- The graph of an executable and the control-flow edges that count: the starts of blocks, their known exits, and how far
-- they go.
use Rattle.std.specs.Prelude.{◌≡◌, ℕ, zero, suc, ◌<◌, ◌==◌, Bool, true, ◌↔◌, Some, IsTrue}
use Rattle.std.specs.Prelude.{List, [], length, Contains, All, map, filter, slice_index_or, option_to_list}
use Rattle.std.specs.List.Sorted.{IsStrictlyIncreasing}
use Rattle.elf_read.specs.declared.exe.Exe.{Exe}
use Rattle.elf_read.specs.Elf.{is_exec}
use Rattle.run_model.specs.Edges.{Edge}
use Rattle.trace_file.specs.Edges.{merge, without, IsInOrder}
use Rattle.block_cut.specs.CountedEdges.{counting}
use Rattle.block_cut.specs.declared.ends.End.{End}
use Rattle.block_cut.specs.declared.ends.End.TheVariants.{Transfer, Unreadable}
use Rattle.block_cut.specs.declared.ends.Cut.{Cut}
use Rattle.block_cut.specs.Blocks.{last_of, block_of, cut_of, follow_of}
use Rattle.flow_graph.specs.declared.error.TheConstants.{MAX_BLOCKS}

-- ---- starts, from edges that count

-- n following starts lead from s to t
abbrev pub Leads : Exe → ℕ → ℕ → ℕ → Type 0
Leads exe zero s t = s ≡ t
Leads exe (suc n) s t = (u : ℕ) × Leads exe n s u × (follow_of exe u ≡ Some t)

-- some following starts lead from s to t
abbrev pub IsReached : Exe → ℕ → ℕ → Type 0
IsReached exe s t = (n : ℕ) × Leads exe n s t

-- a block starts here: following starts lead here from the target of an edge
pub record IsStart (exe : Exe) (es : List Edge) (s : ℕ) : Type 0 where
  pub edge : Edge
  pub traced : Contains es edge
  pub reached : IsReached exe edge.1 s

-- a list has the starts, ascending
pub record AreStarts (exe : Exe) (es : List Edge) (starts : List ℕ) : Type 0 where
  pub ascend : IsStrictlyIncreasing starts
  pub each : (s : ℕ) → Contains starts s ↔ IsStart exe es s

-- there are more starts than a graph may have
abbrev pub HasTooMany : Exe → List Edge → Type 0
HasTooMany exe es = (xs : List ℕ) × IsStrictlyIncreasing xs × (MAX_BLOCKS < length xs) × All (IsStart exe es) xs

-- a set has the target of each edge, and the following start of each of its starts
pub record IsClosed (exe : Exe) (es : List Edge) (Has : ℕ → Type 0) : Type 0 where
  pub targets : (e : Edge) → Contains es e → Has e.1
  pub follows : (s t : ℕ) → Has s → follow_of exe s ≡ Some t → Has t

-- the starts are the least closed set
pub record AreLeast (exe : Exe) (es : List Edge) : Type 0 where
  pub closed : IsClosed exe es (IsStart exe es)
  pub least : (p : ℕ → Bool) → IsClosed exe es (λ s. p s ≡ true) → (s : ℕ) → IsStart exe es s → p s ≡ true

-- ---- known exits, from edges that count

-- the targets of the edges from a site
abbrev pub targets_from : ℕ → List Edge → List ℕ
targets_from site es = map (λ (e : Edge). e.1) (filter (λ (e : Edge). e.0 == site) es)

-- a block that ends with a transfer goes to its targets, any other to its following start
abbrev pub known_by : End → List ℕ → List ℕ → List ℕ
known_by Transfer targets next = targets
known_by _ targets next = next

-- the targets of a block's transfer, or its following start
unfoldable pub known_of : Exe → List Edge → ℕ → List ℕ
known_of exe es start =
    let b = block_of exe start in
    known_by b.end (targets_from (last_of start b.insts) es) (option_to_list (follow_of exe start))

-- ---- graphs

-- a block of a graph: its start and its known exits
pub record Node : Type 0 where
  pub start : ℕ
  pub known : List ℕ

-- the starts of blocks
abbrev pub starts_in : List Node → List ℕ
starts_in g = map (λ b. b.start) g

-- blocks are those of the graph, each with its known exits, ascending
pub record IsGraph (exe : Exe) (es : List Edge) (g : List Node) : Type 0 where
  pub starts : AreStarts exe es (starts_in g)
  pub known : All (λ b. b.known ≡ known_of exe es b.start) g
  pub ascend : All (λ b. IsStrictlyIncreasing b.known) g

-- every block starts in code
abbrev pub AreCode : Exe → List Node → Type 0
AreCode exe g = All (λ b. IsTrue (is_exec b.start exe.segments)) g

-- the block of an index
abbrev pub node_at : List Node → ℕ → Node
node_at g i = slice_index_or g i (record { start = 0; known = [] })

-- the block of an index starts at this address
abbrev pub StartsAt : List Node → ℕ → ℕ → Type 0
StartsAt g i start = (i < length g) × ((node_at g i).start ≡ start)

-- ---- what a graph keeps

-- the edges that count, its blocks, and how far each block goes
pub record GraphView : Type 0 where
  pub edges : List Edge
  pub nodes : List Node
  pub cuts : List Cut

-- how far a block goes in an executable
abbrev pub cut_in : Exe → Node → Cut
cut_in exe b = cut_of b.start (block_of exe b.start)

-- its blocks go as far as those of this executable
abbrev pub AreCutsOf : Exe → GraphView → Type 0
AreCutsOf exe g = g.cuts ≡ map (cut_in exe) g.nodes

-- how far the block of an index goes
abbrev pub cut_at : GraphView → ℕ → Cut
cut_at g i = slice_index_or g.cuts i (record { count = 0; len = 0; end = Unreadable; last = 0 })

-- ---- edges that come and go

-- edges without those that are gone and with those that are added
abbrev pub applied : List Edge → List Edge → List Edge → List Edge
applied added gone es = merge added (without gone es)

-- from the edges of any set that count come the edges of the changed set that count
abbrev pub Applies : Exe → List Edge → List Edge → List Edge → List Edge → Type 0
Applies exe old added gone new = (es : List Edge) → IsInOrder es → old ≡ counting exe es → new ≡ counting exe (applied added gone es)
