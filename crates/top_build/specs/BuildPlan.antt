-- The plan of `build`.
use Rattle.std.specs.Prelude.{ℕ, nat_le, cond, List, ◌++◌, length, Result, Ok, Err, codes}
use Rattle.std.specs.Fmt.{decimal}
use Rattle.elf_read.specs.declared.exe.Exe.{Exe}
use Rattle.trace_file.specs.Edges.{Edge, union_of}
use Rattle.flow_graph.specs.declared.error.TheConstants.{MAX_BLOCKS}
use Rattle.code_layout.specs.declared.place.TheConstants.{MAX_CODE}
use Rattle.code_layout.specs.declared.built.Built.{Built}
use Rattle.code_layout.specs.Image.{built_of}
use Rattle.top_plan.specs.Plan.{Plan, Ends, Stores}
use Rattle.top_plan.specs.Parts.{checked}
use Rattle.top_plan.specs.Outcomes.{done_with}
use Rattle.top_plan.specs.declared.ends.Cause.{Cause}
use Rattle.top_plan.specs.declared.ends.Cause.TheVariants.{Limited}
use Rattle.top_plan.specs.declared.ends.Limit.TheVariants as limits
use Rattle.top_files.specs.OriginalPart.{subject_part}
use Rattle.top_files.specs.TracesPart.{traces_part}

-- ---- an image, for `build` and for whatever else stores one

-- what was built, unless it has too many blocks, or else too much code
abbrev pub limited_built : Built → Result Built Cause
limited_built b =
    cond (nat_le b.blocks MAX_BLOCKS)
    (cond (nat_le b.code MAX_CODE) (Ok b) (Err (Limited (limits.Code MAX_CODE))))
    (Err (Limited (limits.Blocks MAX_BLOCKS)))

-- the image of an original and edges is stored, within its limits, and the work goes on with it
abbrev pub image_part : List ℕ → Exe → List Edge → (Built → Plan) → Plan
image_part name exe edges next = checked (limited_built (built_of exe edges)) (λ b. Stores name b.bytes (next b))

-- ---- `build`

-- the report line, with the numbers of blocks and of bytes of code, and the length of the file
abbrev pub built_line : Built → List ℕ
built_line b =
    codes "built " ++ (decimal b.blocks ++ (codes " " ++ (decimal b.code ++ (codes " " ++ (decimal (length b.bytes) ++ codes "\n")))))

-- the line is reported, and that is all
abbrev pub built_end : Built → Plan
built_end b = Ends (Ok (done_with (built_line b)))

-- the image of an original and the union of its traces is stored
abbrev pub build_plan : List ℕ → List ℕ → List (List ℕ) → Plan
build_plan name original traces =
    subject_part original 2 (λ subject. traces_part subject.digest traces 3 0 (λ sets.
    image_part name subject.exe (union_of sets) built_end))
