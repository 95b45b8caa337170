use Rattle.top_plan.proofs.Passes.{passes_on}
use Rattle.top_session.specs.Parts.{on_two}
use Rattle.top_session.specs.SessionPlan.{added_part}
use Rattle.top_session.proofs.Behind.{behind_trace}
use Rattle.top_session.proofs.OrdersRun.{goes_last, add_prints, add_refuses, add_lacks}
use Rattle.top_session.proofs.orders.add_trace.Goals as goal

pub returns-in_err-edges-clause-goes : goal.returns-in_err-edges-clause-goes
returns-in_err-edges-clause-goes g c w =
    let s = on_two w (g.F.Shelf.seen c.args.shelf.now) (g.O.Sink.seen c.args.out.now) in
    passes_on (λ (d : Unit {0}). c.args.session.now) (added_part c.args.digest.now c.args.line c.args.session.now c.args.name.now) _ _ _ c.from_residual.result
    (λ next. c.in_err-edges.ensures s (behind_trace c.args.session.now next)) c.from_residual.ensures.1

pub returns-in_err-number-clause-goes : goal.returns-in_err-number-clause-goes
returns-in_err-number-clause-goes g c w =
    let s = on_two w (g.F.Shelf.seen c.args.shelf.now) (g.O.Sink.seen c.args.out.now) in
    passes_on (λ (d : Unit {0}). c.add_edges.new.session) (added_part c.args.digest.now c.args.line c.args.session.now c.args.name.now) _ _ _ c.from_residual-in_err-number.result
    (add_refuses c.args.digest.now c.args.line c.args.session.now c.add_edges.new.session c.args.name.now c.in_ok-edges.edges _ _ _ (c.in_ok-edges.ensures s) c.in_err-number.ensures.adds) c.from_residual-in_err-number.ensures.1

pub returns-in_err-text-clause-goes : goal.returns-in_err-text-clause-goes
returns-in_err-text-clause-goes g c w =
    let s = on_two w (g.F.Shelf.seen c.args.shelf.now) (g.O.Sink.seen c.args.out.now) in
    passes_on (λ (d : Unit {0}). c.add_edges.new.session) (added_part c.args.digest.now c.args.line c.args.session.now c.args.name.now) _ _ _ c.from_residual-in_err-text.result
    (add_lacks c.args.digest.now c.args.line c.args.session.now c.args.name.now c.in_ok-edges.edges _ _ _ _ (c.in_ok-edges.ensures s) c.in_err-text.ensures) c.from_residual-in_err-text.ensures.1

pub returns-clause-goes : goal.returns-clause-goes
returns-clause-goes g c w =
    let s = on_two w (g.F.Shelf.seen c.args.shelf.now) (g.O.Sink.seen c.args.out.now) in
    let m = on_two w (g.F.Shelf.seen c.fetch_edges.new.shelf) (g.O.Sink.seen c.args.out.now) in
    goes_last (added_part c.args.digest.now c.args.line c.args.session.now c.args.name.now) c.as_bytes.result.now c.add_edges.new.session s m _ c.print_text.result
    (add_prints c.args.digest.now c.args.line c.args.session.now c.add_edges.new.session c.args.name.now c.in_ok-edges.edges c.in_ok-number.number c.as_bytes.result.now s m (c.in_ok-edges.ensures s) c.in_ok-number.ensures.adds (rw (← c.as_bytes.ensures.value) at c.in_ok-text.ensures))
    (c.print_text.ensures m)
