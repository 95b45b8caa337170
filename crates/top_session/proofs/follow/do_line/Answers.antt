use Rattle.std.proofs.Common.{Some, Ok}
use Rattle.script_text.specs.Lines.{Nothings, Adds, Removes, Emits, order_of}
use Rattle.top_session.specs.Parts.{on_two}
use Rattle.top_session.proofs.OrdersRun.{asks, unknown}
use Rattle.top_session.proofs.follow.do_line.Goals as goal

pub returns-in-Ok-Nothing-clause-goes : goal.returns-in-Ok-Nothing-clause-goes
returns-in-Ok-Nothing-clause-goes g c w =
    asks c.args.digest.now c.args.line c.args.session.now (order_of c.args.text.now) (Some Nothings) c.args.session.now _ _ (Ok tt) (rw c.in-Ok-Nothing.field-0-is at c.in-Ok-Nothing.ensures) (λ next o u went. went)

pub returns-in-Ok-Add-clause-goes : goal.returns-in-Ok-Add-clause-goes
returns-in-Ok-Add-clause-goes g c w =
    asks c.args.digest.now c.args.line c.args.session.now (order_of c.args.text.now) (Some (Adds c.in-Ok-Add.name.now)) c.add_trace.new.session _ _ c.add_trace.result (rw c.in-Ok-Add.field-0-is at c.in-Ok-Add.ensures) (c.add_trace.ensures.goes w)

pub returns-in-Ok-Remove-clause-goes : goal.returns-in-Ok-Remove-clause-goes
returns-in-Ok-Remove-clause-goes g c w =
    asks c.args.digest.now c.args.line c.args.session.now (order_of c.args.text.now) (Some (Removes c.in-Ok-Remove.number)) c.remove_trace.new.session _ _ c.remove_trace.result (rw c.in-Ok-Remove.field-0-is at c.in-Ok-Remove.ensures)
    (c.remove_trace.ensures.goes (on_two w (g.F.Shelf.seen c.args.shelf.now) (g.O.Sink.seen c.args.out.now)))

pub returns-in-Ok-Emit-clause-goes : goal.returns-in-Ok-Emit-clause-goes
returns-in-Ok-Emit-clause-goes g c w =
    asks c.args.digest.now c.args.line c.args.session.now (order_of c.args.text.now) (Some (Emits c.in-Ok-Emit.name.now)) c.emit_named.new.session _ _ c.emit_named.result (rw c.in-Ok-Emit.field-0-is at c.in-Ok-Emit.ensures) (c.emit_named.ensures.goes w)

pub returns-in-Err-clause-goes : goal.returns-in-Err-clause-goes
returns-in-Err-clause-goes g c w = unknown c.args.digest.now c.args.line c.args.session.now (order_of c.args.text.now) _ c.in-Err.ensures
