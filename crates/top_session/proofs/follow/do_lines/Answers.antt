use Rattle.std.proofs.Common.{◌+◌, ◌-◌, ℕ, sym, ◌∙◌, ap, arith}
use Rattle.line_reader.specs.Reads.{next_of, unread}
use Rattle.line_reader.specs.Lines.{Text}
use Rattle.top_plan.proofs.Passes.{passes_on}
use Rattle.top_session.specs.Parts.{on_three}
use Rattle.top_session.specs.Lines.{line_part}
use Rattle.top_session.specs.SessionPlan.{lines_part, past_last}
use Rattle.top_session.proofs.LinesRun.{goes_within, lines_past, not_read, none_left, too_long, line_done, line_halts}
use Rattle.top_session.proofs.follow.do_lines.Goals as goal

pub loop-done-init : goal.loop-done-init
loop-done-init g c = record { few = omega (arith, c.requires); most = omega arith; goes = λ w last o u went. went }

pub returns-in_err-next_line : goal.returns-in_err-next_line
returns-in_err-next_line g c w =
    let s = on_three w (g.F.Shelf.seen c.loop-done.shelf) (unread c.loop-done.reader (g.I.Source.seen c.loop-done.input)) (g.O.Sink.seen c.loop-done.out) in
    passes_on (λ (count : ℕ). count) (lines_part c.args.digest.now 1048576 0 c.args.session.now) _ _ _ c.from_residual.result
    (λ last. c.loop-done.invariant.goes w last _ _
    (not_read c.args.digest.now (1048576 - c.loop-done.done) (1048576 - (c.loop-done.done + 1)) c.loop-done.done c.loop-done.session last s _ _ (omega (arith, c.loop-done-test.true)) (c.in_err-next_line.ensures s)))
    c.from_residual.ensures.1

pub returns-in-End : goal.returns-in-End
returns-in-End g c w last o u went =
    let s = on_three w (g.F.Shelf.seen c.loop-done.shelf) (unread c.loop-done.reader (g.I.Source.seen c.loop-done.input)) (g.O.Sink.seen c.loop-done.out) in
    c.loop-done.invariant.goes w last o u
    (none_left c.args.digest.now (1048576 - c.loop-done.done) (1048576 - (c.loop-done.done + 1)) c.loop-done.done c.loop-done.session last (next_of c.in_ok-next_line.field-0) s _ o u (omega (arith, c.loop-done-test.true)) (ap next_of c.in-End.is) (c.in_ok-next_line.ensures s) went)

pub returns-in-Long : goal.returns-in-Long
returns-in-Long g c w last =
    let s = on_three w (g.F.Shelf.seen c.loop-done.shelf) (unread c.loop-done.reader (g.I.Source.seen c.loop-done.input)) (g.O.Sink.seen c.loop-done.out) in
    c.loop-done.invariant.goes w last _ _
    (too_long c.args.digest.now (1048576 - c.loop-done.done) (1048576 - (c.loop-done.done + 1)) c.loop-done.done c.loop-done.session last (next_of c.in_ok-next_line.field-0) s _ (omega (arith, c.loop-done-test.true)) (ap next_of c.in-Long.is) (c.in_ok-next_line.ensures s))

pub returns-in_err-do_line-in-Whole : goal.returns-in_err-do_line-in-Whole
returns-in_err-do_line-in-Whole g c w =
    let s = on_three w (g.F.Shelf.seen c.loop-done.shelf) (unread c.loop-done.reader (g.I.Source.seen c.loop-done.input)) (g.O.Sink.seen c.loop-done.out) in
    let v = on_three w (g.F.Shelf.seen c.loop-done.shelf) (unread c.next_line.new.reader (g.I.Source.seen c.next_line.new.input)) (g.O.Sink.seen c.loop-done.out) in
    passes_on (λ (count : ℕ). count) (lines_part c.args.digest.now 1048576 0 c.args.session.now) _ _ _ c.from_residual-in_err-do_line-in-Whole.result
    (λ last. c.loop-done.invariant.goes w last _ _
    (line_halts c.args.digest.now (1048576 - c.loop-done.done) (1048576 - (c.loop-done.done + 1)) c.loop-done.done c.loop-done.session last (next_of c.in_ok-next_line.field-0) _ s v _ _ (omega (arith, c.loop-done-test.true)) (ap next_of c.in-Whole.is ∙ ap Text (sym c.as_slice.ensures.value)) (c.in_ok-next_line.ensures s) (c.in_err-do_line-in-Whole.ensures.goes v)))
    c.from_residual-in_err-do_line-in-Whole.ensures.1

pub loop-done-preserved : goal.loop-done-preserved
loop-done-preserved g c = record {
  few = omega (arith, c.in_ok-do_line-in-Whole.ensures.few);
  most = omega (arith, c.loop-done-test.true);
  goes = λ w last o u went.
      let s = on_three w (g.F.Shelf.seen c.loop-done.shelf) (unread c.loop-done.reader (g.I.Source.seen c.loop-done.input)) (g.O.Sink.seen c.loop-done.out) in
      let v = on_three w (g.F.Shelf.seen c.loop-done.shelf) (unread c.next_line.new.reader (g.I.Source.seen c.next_line.new.input)) (g.O.Sink.seen c.loop-done.out) in
      c.loop-done.invariant.goes w last o u
      (line_done c.args.digest.now (1048576 - c.loop-done.done) (1048576 - (c.loop-done.done + 1)) c.loop-done.done c.loop-done.session c.do_line.new.session last (next_of c.in_ok-next_line.field-0) _ s v _ o u (omega (arith, c.loop-done-test.true)) (ap next_of c.in-Whole.is ∙ ap Text (sym c.as_slice.ensures.value)) (c.in_ok-next_line.ensures s) (c.in_ok-do_line-in-Whole.ensures.goes v) went);
}

pub returns : goal.returns
returns g c w =
    let s = on_three w (g.F.Shelf.seen c.loop-done.shelf) (unread c.loop-done.reader (g.I.Source.seen c.loop-done.input)) (g.O.Sink.seen c.loop-done.out) in
    goes_within (λ (count : ℕ). count) (lines_part c.args.digest.now 1048576 0 c.args.session.now) (λ last. line_part 0 (past_last 1048576 last)) _ s _ c.end_lines.result
    (λ last o u went. c.loop-done.invariant.goes w last o u
    (lines_past c.args.digest.now (1048576 - c.loop-done.done) c.loop-done.done c.loop-done.session last s o u (omega (arith, c.loop-done-test.false)) (omega (arith, c.loop-done.invariant.most, c.loop-done-test.false)) went))
    (c.end_lines.ensures s)
