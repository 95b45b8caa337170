use Rattle.top_plan.proofs.Passes.{passes_on, memory_ends}
use Rattle.top_plan.specs.World.{on_out}
use Rattle.top_session.specs.SessionPlan.{removed_part}
use Rattle.top_session.proofs.OrdersRun.{goes_last, remove_prints, remove_refuses}
use Rattle.top_session.proofs.orders.remove_trace.Goals as goal

pub returns-in_err-remove_number-clause-goes : goal.returns-in_err-remove_number-clause-goes
returns-in_err-remove_number-clause-goes g c w =
    passes_on (λ (d : Unit {0}). c.remove_number.new.session) (removed_part c.args.line c.args.session.now c.args.number) _ _ _ c.from_residual.result
    (remove_refuses c.args.line c.args.session.now c.remove_number.new.session c.args.number _ _ c.in_err-remove_number.ensures.removes) c.from_residual.ensures.1

pub returns-in_err-text-clause-goes : goal.returns-in_err-text-clause-goes
returns-in_err-text-clause-goes g c w =
    passes_on (λ (d : Unit {0}). c.remove_number.new.session) (removed_part c.args.line c.args.session.now c.args.number) _ _ _ c.from_residual-in_err-text.result
    (λ next. memory_ends (removed_part c.args.line c.args.session.now c.args.number next) _ _ _ c.in_err-text.ensures) c.from_residual-in_err-text.ensures.1

pub returns-clause-goes : goal.returns-clause-goes
returns-clause-goes g c w =
    let s = on_out w (g.O.Sink.seen c.args.out.now) in
    goes_last (removed_part c.args.line c.args.session.now c.args.number) c.as_bytes.result.now c.remove_number.new.session s s _ c.print_text.result
    (remove_prints c.args.line c.args.session.now c.remove_number.new.session c.args.number c.as_bytes.result.now s c.in_ok-remove_number.ensures.removes (rw (← c.as_bytes.ensures.value) at c.in_ok-text.ensures))
    (c.print_text.ensures s)
