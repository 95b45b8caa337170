use Rattle.std.proofs.Common.{Ok, refl, length, string_bytes}
use Rattle.top_plan.specs.Plan.{Ends}
use Rattle.top_plan.specs.Outcomes.{done_with}
use Rattle.top_plan.specs.declared.ends.Finish.TheVariants.{Done}
use Rattle.top_plan.proofs.Passes.{memory_ends}
use Rattle.top_plan.proofs.Outcomes.{ends_on, ended_as}
use Rattle.top_graph.specs.MergePlan.{merged_line, store_part}
use Rattle.top_graph.proofs.merge.store_union.Goals as goal

pub returns-in_err-line : goal.returns-in_err-line
returns-in_err-line g c w = ends_on _ _ _ _ c.from_residual.result (memory_ends (store_part c.args.target.now c.args.digest.now c.args.edges.now) _ _ _ c.in_err-line.ensures) c.from_residual.ensures.1

pub returns-in_err-store_trace : goal.returns-in_err-store_trace
returns-in_err-store_trace g c w = ends_on _ _ _ _ c.from_residual-in_err-store_trace.result
    (c.in_err-store_trace.ensures w (λ _. Ends (Ok (done_with (merged_line (length c.args.edges.now)))))) c.from_residual-in_err-store_trace.ensures.1

pub returns : goal.returns
returns g c w = c.in_ok-store_trace.ensures w (λ _. Ends (Ok (done_with (merged_line (length c.args.edges.now))))) _ _
    (ended_as Done Done _ (string_bytes c.in_ok-line.line) _ refl (rw c.len.ensures.value at c.in_ok-line.ensures))
