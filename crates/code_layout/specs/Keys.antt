-- The keys of the blocks of a graph: what is live at their starts, from a row for each block.
use Rattle.std.specs.Prelude.{◌≡◌, ℕ, List, get_or, map, All}
use Rattle.elf_read.specs.declared.exe.Exe.{Exe}
use Rattle.run_model.specs.Edges.{Edge}
use Rattle.ssa_form.specs.declared.form.BlockKey.{BlockKey}
use Rattle.live_flow.specs.declared.row.LiveRow.{LiveRow}
use Rattle.live_flow.specs.Rows.{row_of}
use Rattle.live_flow.specs.Live.{place_of, live_in}
use Rattle.flow_graph.specs.Graph.{Node}
use Rattle.flow_graph.specs.GraphOf.{graph_of}
use Rattle.block_make.specs.Choices.{ready}

-- ---- what is live

-- the row of a block: of what becomes code of it, and its known exits
abbrev pub row_in : Exe → Node → LiveRow
row_in exe node = row_of (ready exe node.start) node.known

-- those of blocks
abbrev pub rows_in : Exe → List Node → List LiveRow
rows_in exe nodes = map (row_in exe) nodes

-- this is the row of a block: of the one that starts where it does, with the known exits that it names
abbrev pub IsRow : Exe → LiveRow → Type 0
IsRow exe row = row ≡ row_in exe (record { start = row.start; known = row.next })

-- each of these is
abbrev pub AreRows : Exe → List LiveRow → Type 0
AreRows exe rows = All (IsRow exe) rows

-- of the blocks of a graph, in the order of their starts
unfoldable pub rows_of : Exe → List Edge → List LiveRow
rows_of exe edges = rows_in exe (graph_of exe edges)

-- the set of the row of a start
abbrev pub set_at : List LiveRow → List ℕ → ℕ → ℕ
set_at rows sets y = get_or sets (place_of rows y) 0

-- the virtual registers that are live at a start
unfoldable pub live_of : Exe → List Edge → ℕ → ℕ
live_of exe edges y = set_at (rows_of exe edges) (live_in (rows_of exe edges)) y

-- ---- keys

-- the key of a block: its start, and its known exits, each with what is live there
abbrev pub key_of : (ℕ → ℕ) → Node → BlockKey
key_of live node = record { start = node.start; exits = map (λ y. (y, live y)) node.known }

-- those of all blocks, in the order of their starts
unfoldable pub keys_of : Exe → List Edge → List BlockKey
keys_of exe edges = map (key_of (live_of exe edges)) (graph_of exe edges)

-- that of a row, from the sets of rows
abbrev pub key_by : List LiveRow → List ℕ → LiveRow → BlockKey
key_by rows sets row = record { start = row.start; exits = map (λ y. (y, set_at rows sets y)) row.next }

-- ---- graphs

-- these are the blocks of an executable and some edges
abbrev pub IsGraphOf : Exe → List Node → Type 0
IsGraphOf exe nodes = (edges : List Edge) × (nodes ≡ graph_of exe edges)
