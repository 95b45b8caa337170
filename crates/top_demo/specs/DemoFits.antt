-- The demonstration, its trace and the file that is written for it pass no limit.
use Rattle.std.specs.Prelude.{◌≡◌, ℕ, ◌+◌, ◌*◌, ◌≤◌, ◌<◌, length, Ok}
use Rattle.elf_read.specs.declared.exe.Exe.{Exe}
use Rattle.elf_read.specs.declared.exe.Reach.TheVariants.{Guest, Original}
use Rattle.elf_read.specs.declared.limits.TheConstants.{GUEST_FILE_LIMIT}
use Rattle.elf_read.specs.Elf.{elf}
use Rattle.trace_file.specs.declared.limits.TheConstants.{FILE_EDGE_LIMIT}
use Rattle.flow_graph.specs.declared.error.TheConstants.{MAX_BLOCKS}
use Rattle.flow_graph.specs.GraphOf.{graph_of}
use Rattle.code_layout.specs.declared.place.TheConstants.{MAX_CODE}
use Rattle.code_layout.specs.Linked.{code_of}
use Rattle.demo_gen.specs.Demonstration.{demo_file}
use Rattle.top_demo.specs.DemoRuns.{trace_by}
use Rattle.top_demo.specs.DemoPlan.{demo_guest, demo_image}

-- it is accepted; with its trace of n steps it has few blocks and little code, and what is written is accepted
pub record IsWithinLimits (count n : ℕ) : Type 0 where
  pub short : length (demo_file count) ≤ GUEST_FILE_LIMIT
  pub original : elf Original (demo_file count) ≡ Ok (demo_guest count)
  pub blocks : length (graph_of (demo_guest count) (trace_by (demo_guest count) n)) ≤ MAX_BLOCKS
  pub code : length (code_of (demo_guest count) (trace_by (demo_guest count) n)) ≤ MAX_CODE
  pub image : length (demo_image count n) ≤ GUEST_FILE_LIMIT
  pub guest : (exe : Exe) × (elf Guest (demo_image count n) ≡ Ok exe)

-- with any number of functions from 1 to 1000, where it ends within n steps
abbrev pub DemoFits : Type 0
DemoFits = (count n : ℕ) → 1 ≤ count → count ≤ 1000 → 10 + 5 * count ≤ n → n < FILE_EDGE_LIMIT → IsWithinLimits count n
