use Rattle.std.proofs.Common.{ℕ, List, map, string_bytes}
use Rattle.trace_file.specs.Edges.{Edge, union_of}
use Rattle.top_plan.specs.Plan.{Plan}
use Rattle.top_graph.specs.MergePlan.{union_part, store_part}
use Rattle.top_files.specs.TracesPart.{traces_part, limited}
use Rattle.top_files.specs.declared.original.Subject.{Subject}
use Rattle.top_plan.proofs.Passes.{passes, refuses_or_runs_out}
use Rattle.top_plan.proofs.Outcomes.{ends_on}
use Rattle.top_graph.proofs.merge.merge_command.Goals as goal

-- what comes behind the original, and behind the traces
abbrev behind : List ℕ → List (List ℕ) → Subject → Plan
behind target names subject = traces_part subject.digest names 3 0 (λ traces. union_part target subject.digest (union_of traces))

abbrev union_behind : List ℕ → List ℕ → List (List Edge) → Plan
union_behind target digest traces = union_part target digest (union_of traces)

pub returns-in_err-subject : goal.returns-in_err-subject
returns-in_err-subject g c w = ends_on _ _ _ _ c.from_residual.result (c.in_err-subject.ensures.goes w (behind c.args.target.now (map string_bytes c.args.names.now))) c.from_residual.ensures.1

pub returns-in_err-traces : goal.returns-in_err-traces
returns-in_err-traces g c w = ends_on _ _ _ _ c.from_residual-in_err-traces.result
    (c.in_ok-subject.ensures.goes w (behind c.args.target.now (map string_bytes c.args.names.now)) _ _
    (c.in_err-traces.ensures.goes w (union_behind c.args.target.now c.in_ok-subject.subject.digest))) c.from_residual-in_err-traces.ensures.1

pub returns-in_err-edges : goal.returns-in_err-edges
returns-in_err-edges g c w = ends_on _ _ _ _ c.from_residual-in_err-edges.result
    (c.in_ok-subject.ensures.goes w (behind c.args.target.now (map string_bytes c.args.names.now)) _ _
    (c.in_ok-traces.ensures.goes w (union_behind c.args.target.now c.in_ok-subject.subject.digest) _ _
    (refuses_or_runs_out _ _ _ _ c.in_err-edges.ensures.checks))) c.from_residual-in_err-edges.ensures.1

pub returns : goal.returns
returns g c w =
    c.in_ok-subject.ensures.goes w (behind c.args.target.now (map string_bytes c.args.names.now)) _ _
    (c.in_ok-traces.ensures.goes w (union_behind c.args.target.now c.in_ok-subject.subject.digest) _ _
    (passes (limited (union_of c.in_ok-traces.traces.items)) _ (store_part c.args.target.now c.in_ok-subject.subject.digest) _ _ _ c.in_ok-edges.ensures.checks (c.store_union.ensures w)))
