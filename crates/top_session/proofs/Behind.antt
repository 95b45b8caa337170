-- What stands behind the parts of an addition.
use Rattle.std.proofs.Common.{ℕ, List}
use Rattle.trace_file.specs.Edges.{Edge}
use Rattle.trace_file.specs.Trace.{trace}
use Rattle.trace_set.specs.Traces.{Traces}
use Rattle.session_core.specs.Session.{SessionView, traces_in, with_traces}
use Rattle.top_plan.specs.Plan.{Plan}
use Rattle.top_plan.specs.Parts.{checked, prints}
use Rattle.top_session.specs.Lines.{added_line}
use Rattle.top_session.specs.SessionPlan.{edges_of_line, added}

-- behind the traces with one more, behind its edges, and behind its file
abbrev pub behind_added : SessionView → (SessionView → Plan) → Traces → Plan
behind_added s next ts = prints (added_line s.next) (next (with_traces s ts))

abbrev pub behind_trace : SessionView → (SessionView → Plan) → List Edge → Plan
behind_trace s next es = checked (added (traces_in s) es) (behind_added s next)

abbrev pub behind_file : List ℕ → ℕ → SessionView → (SessionView → Plan) → List ℕ → Plan
behind_file digest q s next bytes = checked (edges_of_line q (trace bytes digest)) (behind_trace s next)
