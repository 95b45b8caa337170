-- The plan of `show`.
use Rattle.std.specs.Prelude.{ℕ, nat_le, cond, List, ◌++◌, length, flat_map, codes, Result, Ok, Err}
use Rattle.flow_graph.specs.declared.error.TheConstants.{MAX_BLOCKS}
use Rattle.std.specs.Fmt.{decimal}
use Rattle.elf_read.specs.declared.exe.Exe.{Exe}
use Rattle.flow_graph.specs.Graph.{Node}
use Rattle.show_text.specs.Listing.{listing_of}
use Rattle.top_plan.specs.Plan.{Plan, Ends}
use Rattle.top_plan.specs.Parts.{prints, checked}
use Rattle.top_plan.specs.declared.ends.Cause.{Cause}
use Rattle.top_plan.specs.declared.ends.Cause.TheVariants.{Limited}
use Rattle.top_plan.specs.Outcomes.{done_with}
use Rattle.trace_file.specs.Edges.{union_of}
use Rattle.flow_graph.specs.GraphOf.{graph_of}
use Rattle.top_files.specs.OriginalPart.{subject_part}
use Rattle.top_files.specs.TracesPart.{traces_part}
use Rattle.top_plan.specs.declared.ends.Limit.TheVariants as limits

-- the blocks one after another
abbrev pub listing : Exe → List Node → List ℕ
listing exe g = flat_map (λ b. listing_of exe b.start b.known) g

-- the graph, unless it has too many blocks
abbrev pub limited_graph : List Node → Result (List Node) Cause
limited_graph g = cond (nat_le (length g) MAX_BLOCKS) (Ok g) (Err (Limited (limits.Blocks MAX_BLOCKS)))

-- the report line
abbrev pub shown_line : ℕ → List ℕ
shown_line blocks = codes "shown " ++ (decimal blocks ++ codes "\n")

-- the listing of a graph is printed
abbrev pub listing_part : Exe → List Node → Plan
listing_part exe g = prints (listing exe g) (Ends (Ok (done_with (shown_line (length g)))))

-- the graph of an original and the union of its traces is listed
abbrev pub show_plan : List ℕ → List (List ℕ) → Plan
show_plan original names =
    subject_part original 1 (λ subject. traces_part subject.digest names 2 0 (λ traces.
    checked (limited_graph (graph_of subject.exe (union_of traces))) (listing_part subject.exe)))
