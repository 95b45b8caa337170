use Rattle.std.proofs.Common.{Ok}
use Rattle.top_plan.specs.Plan.{Ends}
use Rattle.top_plan.proofs.Passes.{memory_ends}
use Rattle.top_plan.proofs.Outcomes.{ends_on, ended_as}
use Rattle.top_run.specs.TracePlan.{traced_as, traced_part}
use Rattle.top_run.proofs.trace.store_traced.Goals as goal

pub returns-in_err-line : goal.returns-in_err-line
returns-in_err-line g c w = ends_on _ _ _ _ c.from_residual.result (memory_ends (traced_part c.args.target.now c.args.digest.now c.args.traced.now) _ _ _ c.in_err-line.ensures) c.from_residual.ensures.1

pub returns-in_err-store_trace : goal.returns-in_err-store_trace
returns-in_err-store_trace g c w = ends_on _ _ _ _ c.from_residual-in_err-store_trace.result
    (c.in_err-store_trace.ensures w (λ _. Ends (Ok (traced_as c.args.traced.now)))) c.from_residual-in_err-store_trace.ensures.1

pub returns : goal.returns
returns g c w = c.in_ok-store_trace.ensures w (λ _. Ends (Ok (traced_as c.args.traced.now))) _ _ (ended_as _ c.finish_of.result _ _ _ c.finish_of.ensures c.in_ok-line.ensures)
