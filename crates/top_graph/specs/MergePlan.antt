-- The plan of `merge`.
use Rattle.std.specs.Prelude.{ℕ, List, ◌++◌, length, Ok, codes}
use Rattle.std.specs.Fmt.{decimal}
use Rattle.trace_file.specs.Edges.{Edge, union_of}
use Rattle.trace_file.specs.Trace.{trace_bytes}
use Rattle.top_plan.specs.Plan.{Plan, Ends, Stores}
use Rattle.top_plan.specs.Parts.{checked}
use Rattle.top_files.specs.OriginalPart.{subject_part}
use Rattle.top_files.specs.TracesPart.{traces_part, limited}
use Rattle.top_plan.specs.Outcomes.{done_with}

-- the report line
abbrev pub merged_line : ℕ → List ℕ
merged_line edges = codes "merged " ++ (decimal edges ++ codes "\n")

-- a union is stored as a trace of the original with this digest
abbrev pub store_part : List ℕ → List ℕ → List Edge → Plan
store_part target digest es = Stores target (trace_bytes es digest) (Ends (Ok (done_with (merged_line (length es)))))

-- the union, unless it is too large
abbrev pub union_part : List ℕ → List ℕ → List Edge → Plan
union_part target digest es = checked (limited es) (store_part target digest)

-- the original is read, and its traces; their union is stored
abbrev pub merge_plan : List ℕ → List ℕ → List (List ℕ) → Plan
merge_plan target original names =
    subject_part original 2 (λ subject. traces_part subject.digest names 3 0 (λ traces.
    union_part target subject.digest (union_of traces)))
