use Rattle.std.proofs.Common.{Ok, string_bytes}
use Rattle.top_plan.specs.Plan.{Ends}
use Rattle.top_graph.specs.ShowPlan.{listing_part}
use Rattle.top_plan.specs.Outcomes.{done_with}
use Rattle.top_plan.proofs.Passes.{ended, memory_ends}
use Rattle.top_plan.proofs.Outcomes.{ends_on}
use Rattle.top_graph.proofs.GraphRuns.{shown}
use Rattle.top_graph.proofs.show.print_graph.Goals as goal

pub returns-in_err-text : goal.returns-in_err-text
returns-in_err-text g c w = ends_on _ _ _ _ c.from_residual.result (memory_ends (listing_part c.args.exe.now c.args.graph.now.nodes) _ _ _ c.in_err-text.ensures) c.from_residual.ensures.1

pub returns-in_err-line : goal.returns-in_err-line
returns-in_err-line g c w = ends_on _ _ _ _ c.from_residual-in_err-line.result (memory_ends (listing_part c.args.exe.now c.args.graph.now.nodes) _ _ _ c.in_err-line.ensures) c.from_residual-in_err-line.ensures.1

pub returns-in_err-print_text : goal.returns-in_err-print_text
returns-in_err-print_text g c w = ends_on _ _ _ _ c.from_residual-in_err-print_text.result
    (shown c.args.exe.now c.args.graph.now.nodes _ _ _ _ _ _ _ c.in_ok-text.ensures c.as_bytes.ensures.value c.len.ensures.value c.in_ok-line.ensures
    (c.in_err-print_text.ensures w (λ _. Ends (Ok (done_with (string_bytes c.in_ok-line.line))))))
    c.from_residual-in_err-print_text.ensures.1

pub returns : goal.returns
returns g c w = shown c.args.exe.now c.args.graph.now.nodes _ _ _ _ _ _ _ c.in_ok-text.ensures c.as_bytes.ensures.value c.len.ensures.value c.in_ok-line.ensures
    (c.in_ok-print_text.ensures w (λ _. Ends (Ok (done_with (string_bytes c.in_ok-line.line)))) _ _ (ended _ _))
