use Rattle.trace_file.specs.Trace.{trace}
use Rattle.top_plan.specs.Plan.{Fetches}
use Rattle.top_plan.proofs.Passes.{goes_checked}
use Rattle.top_session.specs.SessionPlan.{edges_of_line}
use Rattle.top_session.proofs.orders.fetch_edges.Goals as goal

pub returns : goal.returns
returns g c w = goes_checked (λ es. es) (Fetches c.args.name.now 16777216) (λ bytes. edges_of_line c.args.line (trace bytes c.args.digest.now)) c.in_ok-bytes.bytes.items _ _ c.edges_of.result (c.in_ok-bytes.ensures.goes w) (rw c.as_slice.ensures.value at c.edges_of.ensures)
