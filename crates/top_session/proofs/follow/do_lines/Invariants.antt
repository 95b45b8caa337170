use Rattle.std.proofs.Common.{◌+◌, ◌-◌, ◌≤◌, ℕ}
use Rattle.line_reader.specs.Reads.{unread}
use Rattle.top_plan.specs.World.{World}
use Rattle.top_plan.specs.Texts.{WorkEnd}
use Rattle.top_plan.specs.Plan.{Plan, Went}
use Rattle.top_session.specs.SessionPlan.{lines_part}
use Rattle.top_session.specs.Parts.{on_three}
use Rattle.top_session.proofs.follow.do_lines.Given as goal

abbrev pub invariant-loop-done : goal.invariant-loop-done
invariant-loop-done g l = record {
  few : l.session.next ≤ l.done + 1;
  most : l.done ≤ 1048576;
  goes : (w : World) (last : ℕ → Plan) (o : WorkEnd) (u : World)
      → Went (lines_part l.digest (1048576 - l.done) l.done l.session last) (on_three w (g.F.Shelf.seen l.shelf) (unread l.reader (g.I.Source.seen l.input)) (g.O.Sink.seen l.out)) o u
      → Went (lines_part l.digest 1048576 0 l.fn.session last) (on_three w (g.F.Shelf.seen l.fn.shelf) (unread l.fn.reader (g.I.Source.seen l.fn.input)) (g.O.Sink.seen l.fn.out)) o u;
}
