-- The graph of the demonstration and the edges of its run.
use Rattle.std.specs.Prelude.{◌≡◌, ℕ, zero, suc, ◌+◌, ◌-◌, ◌*◌, ◌≤◌, List, [], ◌∷◌, ◌++◌, length, All}
use Rattle.elf_read.specs.declared.exe.Exe.{Exe}
use Rattle.block_cut.specs.Blocks.{block_of}
use Rattle.flow_graph.specs.Graph.{Node}
use Rattle.flow_graph.specs.GraphOf.{graph_of}
use Rattle.trace_file.specs.Edges.{in_order}
use Rattle.elf_flat.specs.Flat.{flat_entry}
use Rattle.demo_laws.specs.Accepted.{demo_of}
use Rattle.demo_laws.specs.Sites.{call_site, write_site, exit_site, function_site}
use Rattle.demo_laws.specs.Runs.{second_site, is_negative, demo_edges}

-- a block with one known exit
abbrev pub leads : ℕ → ℕ → Node
leads start to = record { start = start; known = to ∷ [] }

-- the second block of function i
abbrev pub second_of : ℕ → ℕ → ℕ
second_of count i = second_site count i (is_negative count i)

-- the blocks that are a call alone, from call i on
abbrev pub call_nodes : ℕ → ℕ → ℕ → List Node
call_nodes count i zero = []
call_nodes count i (suc k) = leads (call_site i) (function_site count i) ∷ call_nodes count (suc i) k

-- the two system calls, each with the block before it; behind the exit stands the first function
abbrev pub end_nodes : ℕ → List Node
end_nodes count =
    leads (write_site count) (write_site count + 18) ∷ leads (write_site count + 18) (exit_site count)
    ∷ leads (exit_site count) (exit_site count + 10) ∷ leads (exit_site count + 10) (function_site count 0) ∷ []

-- the two blocks of each function, from function i on
abbrev pub function_nodes : ℕ → ℕ → ℕ → List Node
function_nodes count i zero = []
function_nodes count i (suc k) =
    leads (function_site count i) (second_of count i) ∷ leads (second_of count i) (call_site (suc i)) ∷ function_nodes count (suc i) k

-- all of them, ascending; the entry's block has the first call
abbrev pub demo_nodes : ℕ → List Node
demo_nodes count =
    leads flat_entry (function_site count 0)
    ∷ (call_nodes count 1 (count - 1) ++ (end_nodes count ++ function_nodes count 0 count))

-- a block of at most five instructions, with at most one known exit
pub record IsSmall (exe : Exe) (b : Node) : Type 0 where
  pub instructions : length (block_of exe b.start).insts ≤ 5
  pub exits : length b.known ≤ 1

-- the graph of the edges of its run, as a set, is that list of small blocks
pub record IsDemoGraph (count : ℕ) : Type 0 where
  pub graph : graph_of (demo_of count) (in_order (demo_edges count)) ≡ demo_nodes count
  pub number : length (demo_nodes count) ≡ 4 + 3 * count
  pub each : All (IsSmall (demo_of count)) (demo_nodes count)

-- with any number of functions from 1 to 1000
abbrev pub DemoGraph : Type 0
DemoGraph = (count : ℕ) → 1 ≤ count → count ≤ 1000 → IsDemoGraph count
