use Rattle.std.proofs.Common.{Ok}
use Rattle.top_plan.specs.Plan.{Ends}
use Rattle.top_plan.proofs.Passes.{runs_out, ended}
use Rattle.top_plan.proofs.Outcomes.{ends_on}
use Rattle.top_demo.specs.DemoPlan.{demo_plan}
use Rattle.top_demo.proofs.LineMade.{done, printed_line}
use Rattle.top_demo.proofs.command.demo_command.Goals as goal

pub returns-in_err-line : goal.returns-in_err-line
returns-in_err-line g c w = ends_on _ _ _ _ c.from_residual.result (runs_out (demo_plan c.args.count) _) c.from_residual.ensures.1

pub returns-in_err-print_text : goal.returns-in_err-print_text
returns-in_err-print_text g c w = ends_on _ _ _ _ c.from_residual-in_err-print_text.result
    (printed_line c.args.count _ _ _ _ _ c.as_bytes.ensures.value c.in_ok-line.ensures (c.in_err-print_text.ensures w (λ _. Ends (Ok done)))) c.from_residual-in_err-print_text.ensures.1

pub returns : goal.returns
returns g c w = printed_line c.args.count _ _ _ _ _ c.as_bytes.ensures.value c.in_ok-line.ensures
    (c.in_ok-print_text.ensures w (λ _. Ends (Ok done)) _ _ (ended (Ok done) _))
