-- What is made for the demonstration is within the limits.
use Rattle.std.proofs.Common.{◌≡◌, ◌≤◌, ℕ, List, length, Ok, sym, ◌∙◌, ap, arith, lit<}
use Rattle.elf_read.specs.declared.exe.Exe.{Exe}
use Rattle.elf_read.specs.declared.exe.Reach.TheVariants.{Guest, Original}
use Rattle.elf_read.specs.declared.limits.TheConstants.{GUEST_FILE_LIMIT}
use Rattle.elf_read.specs.Elf.{elf}
use Rattle.trace_file.specs.Edges.{Edge}
use Rattle.flow_graph.specs.declared.error.TheConstants.{MAX_BLOCKS}
use Rattle.flow_graph.specs.GraphOf.{graph_of}
use Rattle.code_layout.specs.declared.place.TheConstants.{MAX_CODE}
use Rattle.code_layout.specs.declared.built.Built.{Built}
use Rattle.code_layout.specs.Linked.{code_of}
use Rattle.code_layout.specs.Image.{image, built_of}
use Rattle.demo_gen.specs.Demonstration.{demo_file}
use Rattle.top_demo.specs.DemoRuns.{trace_by}
use Rattle.top_demo.specs.DemoPlan.{demo_guest, demo_image}
use Rattle.top_demo.specs.DemoFits.{IsWithinLimits, DemoFits}

-- within the steps of the command
pub limits : DemoFits → (count : ℕ) → 1 ≤ count → count ≤ 1000 → IsWithinLimits count 1000000
limits all count some few = all count 1000000 some few (omega (arith, few)) (lit< tt)

pub file_fits : (count n : ℕ) (file : List ℕ) → IsWithinLimits count n → file ≡ demo_file count → length file ≤ GUEST_FILE_LIMIT
file_fits count n file l is = omega (arith, ap length is, l.short)

pub file_reads : (count n : ℕ) (file : List ℕ) → IsWithinLimits count n → file ≡ demo_file count → (exe : Exe) × (elf Original file ≡ Ok exe)
file_reads count n file l is = (demo_guest count, ap (elf Original) is ∙ l.original)

pub exe_is : (count n : ℕ) (file : List ℕ) (exe : Exe) → IsWithinLimits count n → file ≡ demo_file count → elf Original file ≡ Ok exe → exe ≡ demo_guest count
exe_is count n file exe l is read = let e = sym read ∙ ap (elf Original) is ∙ l.original in cc

pub graph_fits : (count n : ℕ) (exe : Exe) (edges : List Edge) → IsWithinLimits count n → exe ≡ demo_guest count → edges ≡ trace_by exe n → length (graph_of exe edges) ≤ MAX_BLOCKS
graph_fits count n exe edges l is traced =
    let e = ap (λ es. length (graph_of exe es)) traced ∙ ap (λ x. length (graph_of x (trace_by x n))) is in
    omega (arith, e, l.blocks)

pub code_fits : (count n : ℕ) (exe : Exe) (edges : List Edge) → IsWithinLimits count n → exe ≡ demo_guest count → edges ≡ trace_by exe n → length (code_of exe edges) ≤ MAX_CODE
code_fits count n exe edges l is traced =
    let e = ap (λ es. length (code_of exe es)) traced ∙ ap (λ x. length (code_of x (trace_by x n))) is in
    omega (arith, e, l.code)

pub image_is : (count n : ℕ) (exe : Exe) (edges : List Edge) (built : Built) (bytes : List ℕ) → exe ≡ demo_guest count → edges ≡ trace_by exe n → built ≡ built_of exe edges → bytes ≡ built.bytes → bytes ≡ demo_image count n
image_is count n exe edges built bytes is traced made lent =
    lent ∙ ap (λ (b : Built). b.bytes) made ∙ ap (λ es. image exe es) traced ∙ ap (λ x. image x (trace_by x n)) is

pub image_fits : (count n : ℕ) (bytes : List ℕ) → IsWithinLimits count n → bytes ≡ demo_image count n → length bytes ≤ GUEST_FILE_LIMIT
image_fits count n bytes l is = omega (arith, ap length is, l.image)

pub image_reads : (count n : ℕ) (bytes : List ℕ) → IsWithinLimits count n → bytes ≡ demo_image count n → (exe : Exe) × (elf Guest bytes ≡ Ok exe)
image_reads count n bytes l is = (l.guest.0, ap (elf Guest) is ∙ l.guest.1)
