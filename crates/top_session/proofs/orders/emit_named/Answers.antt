use Rattle.top_plan.proofs.Passes.{passes_on, memory_ends}
use Rattle.top_session.specs.Parts.{on_two}
use Rattle.top_session.specs.SessionPlan.{emitted_part}
use Rattle.top_session.proofs.OrdersRun.{goes_last, emit_prints, emit_fails, emit_refuses}
use Rattle.top_session.proofs.orders.emit_named.Goals as goal

pub returns-in_err-built-clause-goes : goal.returns-in_err-built-clause-goes
returns-in_err-built-clause-goes g c w =
    passes_on (λ (d : Unit {0}). c.emit_file.new.session) (emitted_part c.args.session.now c.args.name.now) _ _ _ c.from_residual.result
    (emit_refuses c.args.session.now c.emit_file.new.session c.args.name.now _ _ c.in_err-built.ensures.emits) c.from_residual.ensures.1

pub returns-in_err-text-clause-goes : goal.returns-in_err-text-clause-goes
returns-in_err-text-clause-goes g c w =
    passes_on (λ (d : Unit {0}). c.emit_file.new.session) (emitted_part c.args.session.now c.args.name.now) _ _ _ c.from_residual-in_err-text.result
    (λ next. memory_ends (emitted_part c.args.session.now c.args.name.now next) _ _ _ c.in_err-text.ensures) c.from_residual-in_err-text.ensures.1

pub returns-in_err-store_file-clause-goes : goal.returns-in_err-store_file-clause-goes
returns-in_err-store_file-clause-goes g c w =
    let s = on_two w (g.F.Shelf.seen c.args.shelf.now) (g.O.Sink.seen c.args.out.now) in
    passes_on (λ (d : Unit {0}). c.emit_file.new.session) (emitted_part c.args.session.now c.args.name.now) _ _ _ c.from_residual-in_err-store_file.result
    (emit_fails c.args.session.now c.emit_file.new.session c.args.name.now _ c.in_ok-built.built _ _ _ c.in_ok-built.ensures.emits c.as_slice.ensures (c.in_err-store_file.ensures s)) c.from_residual-in_err-store_file.ensures.1

pub returns-clause-goes : goal.returns-clause-goes
returns-clause-goes g c w =
    let s = on_two w (g.F.Shelf.seen c.args.shelf.now) (g.O.Sink.seen c.args.out.now) in
    let m = on_two w (g.F.Shelf.seen c.store_file.new.shelf) (g.O.Sink.seen c.args.out.now) in
    goes_last (emitted_part c.args.session.now c.args.name.now) c.as_bytes.result.now c.emit_file.new.session s m _ c.print_text.result
    (emit_prints c.args.session.now c.emit_file.new.session c.args.name.now _ c.in_ok-built.built c.compiled_last.result c.as_bytes.result.now s m c.in_ok-built.ensures.emits c.compiled_last.ensures (rw (← c.as_bytes.ensures.value) at c.in_ok-text.ensures) c.as_slice.ensures (c.in_ok-store_file.ensures s))
    (c.print_text.ensures m)
