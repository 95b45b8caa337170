-- The plan of `demo`.
use Rattle.std.specs.Prelude.{ℕ, List, ◌++◌, length, codes, None, Ok}
use Rattle.std.specs.Fmt.{decimal}
use Rattle.elf_read.specs.declared.exe.Exe.{Exe}
use Rattle.run_model.specs.Opening.{guest_of}
use Rattle.flow_graph.specs.GraphOf.{graph_of}
use Rattle.code_layout.specs.Linked.{code_of}
use Rattle.code_layout.specs.Image.{image}
use Rattle.show_text.specs.Listing.{bytes_text}
use Rattle.demo_gen.specs.Demonstration.{demo_file}
use Rattle.top_plan.specs.Plan.{Plan, Ends, Prints}
use Rattle.top_plan.specs.declared.ends.Finish.TheVariants.{Done}
use Rattle.top_demo.specs.declared.command.TheConstants.{ORIGINAL_STEPS, REBUILT_STEPS}
use Rattle.top_demo.specs.DemoRuns.{written_by, taken_by, trace_by}

-- ---- the line

-- a text, a number, and what stands behind it
abbrev pub counted : List ℕ → ℕ → List ℕ → List ℕ
counted text number rest = text ++ (decimal number ++ rest)

-- what two runs wrote, two hexadecimal digits for each byte, and how many steps they took
abbrev pub runs_text : (first second : List ℕ) (first_steps second_steps : ℕ) → List ℕ
runs_text first second first_steps second_steps =
    codes " out " ++ (bytes_text first ++ (codes " " ++ (bytes_text second
    ++ counted (codes " steps ") first_steps (counted (codes " ") second_steps (codes "\n")))))

-- the numbers of functions, of bytes of the file, of blocks, and of bytes of their code and of the file that is written
abbrev pub line_text : (count file blocks code image : ℕ) → List ℕ → List ℕ
line_text count file blocks code image rest =
    counted (codes "demo ") count (counted (codes " file ") file (counted (codes " blocks ") blocks
    (counted (codes " code ") code (counted (codes " image ") image rest))))

-- ---- what it is of

-- the demonstration as a guest
abbrev pub demo_guest : ℕ → Exe
demo_guest count = guest_of (demo_file count)

-- the file that is written for it with the edges of its first n steps
abbrev pub demo_image : ℕ → ℕ → List ℕ
demo_image count n = image (demo_guest count) (trace_by (demo_guest count) n)

-- the line, where it takes at most n steps and the file that is written at most m
abbrev pub line_for : ℕ → ℕ → ℕ → List ℕ
line_for count n m =
    let exe = demo_guest count in
    let edges = trace_by exe n in
    let rebuilt = guest_of (demo_image count n) in
    line_text count (length (demo_file count)) (length (graph_of exe edges)) (length (code_of exe edges)) (length (demo_image count n))
    (runs_text (written_by exe n) (written_by rebuilt m) (taken_by exe n) (taken_by rebuilt m))

unfoldable pub demo_line : ℕ → List ℕ
demo_line count = line_for count ORIGINAL_STEPS REBUILT_STEPS

-- ---- the plan

-- the line is printed, and nothing is reported
abbrev pub demo_plan : ℕ → Plan
demo_plan count = Prints (demo_line count) (Ends (Ok (record { finish = Done; line = None })))
