use Rattle.trace_file.specs.Trace.{trace_bytes}
use Rattle.top_plan.specs.Plan.{Plan, Stores}
use Rattle.top_plan.proofs.Passes.{passes_on, memory_ends}
use Rattle.top_files.proofs.traces.store_trace.Goals as goal

pub returns-in_err-file : goal.returns-in_err-file
returns-in_err-file g c w =
    let part : (Unit {0} → Plan) → Plan = λ next. Stores c.args.name.now (trace_bytes c.args.edges.now c.args.digest.now) (next tt) in
    passes_on (λ (x : Unit {0}). x) part _ _ _ c.from_residual.result (λ next. memory_ends (part next) _ _ _ c.in_err-file.ensures) c.from_residual.ensures.1
