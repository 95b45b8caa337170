-- Commands that take nothing of the input.
use Rattle.std.proofs.Common.{ℕ, List, [], ◌∷◌, length, Ok}
use Rattle.trace_file.specs.Edges.{union_of}
use Rattle.flow_graph.specs.GraphOf.{graph_of}
use Rattle.top_plan.specs.Plan.{Plan, Ends}
use Rattle.top_plan.specs.Parts.{prints}
use Rattle.top_plan.specs.Expected.{NoInput}
use Rattle.top_plan.specs.Outcomes.{done_with}
use Rattle.top_files.specs.TracesPart.{limited}
use Rattle.top_files.proofs.PartTurns.{checked_quiet, reading_quiet}
use Rattle.top_graph.specs.MergePlan.{store_part, merge_plan}
use Rattle.top_graph.specs.ShowPlan.{listing, limited_graph, shown_line, listing_part, show_plan}

pub merge_quiet : (target original : List ℕ) (names : List (List ℕ)) → NoInput (merge_plan target original names)
unfolding NoInput
merge_quiet target original names = reading_quiet original names 2 _ (λ subject traces. checked_quiet (limited (union_of traces)) (store_part target subject.digest) (λ es. tt))

prints_quiet : (text : List ℕ) (next : Plan) → NoInput next → NoInput (prints text next)
unfolding NoInput
prints_quiet [] next h = h
prints_quiet (b ∷ bs) next h = h

pub show_quiet : (original : List ℕ) (names : List (List ℕ)) → NoInput (show_plan original names)
unfolding NoInput
show_quiet original names = reading_quiet original names 1 _
    (λ subject traces. checked_quiet (limited_graph (graph_of subject.exe (union_of traces))) (listing_part subject.exe) (λ g. prints_quiet (listing subject.exe g) (Ends (Ok (done_with (shown_line (length g))))) tt))
