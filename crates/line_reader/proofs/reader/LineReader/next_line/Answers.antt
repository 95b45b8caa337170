use Rattle.line_reader.specs.Reads.{unread}
use Rattle.line_reader.proofs.Answered.{gather_fails, is_long, is_whole, is_part, refill_fails, is_ended, is_taken, none_held}
use Rattle.line_reader.proofs.reader.LineReader.next_line.Goals as goal

pub returns-in_err-gather-clause-line : goal.returns-in_err-gather-clause-line
returns-in_err-gather-clause-line g c =
    gather_fails c.args.limit c.in_err-gather.field-0.0 c.from_residual.result c.loop-line.line.items _ c.loop-line.self _ _ _ c.from_residual.ensures.1 c.loop-line.invariant.reached c.in_err-gather.ensures

pub returns-in-Long-clause-line : goal.returns-in-Long-clause-line
returns-in-Long-clause-line g c =
    is_long c.args.limit c.in_ok-gather.field-0 c.loop-line.line.items c.gather.new.line.items c.loop-line.self c.gather.new.self _ _ c.in-Long.is c.loop-line.invariant.reached c.in_ok-gather.ensures

pub returns-in-Whole-clause-line : goal.returns-in-Whole-clause-line
returns-in-Whole-clause-line g c =
    is_whole c.args.limit c.in_ok-gather.field-0 c.loop-line.line.items c.gather.new.line.items c.loop-line.self c.gather.new.self _ _ c.in-Whole.is c.loop-line.invariant.reached c.in_ok-gather.ensures

pub returns-in_err-refill-clause-line : goal.returns-in_err-refill-clause-line
returns-in_err-refill-clause-line g c =
    refill_fails c.args.limit c.in_err-refill.field-0.0 c.from_residual-in_err-refill.result c.gather.new.line.items c.refill.new.self _ (g.I.Source.seen c.loop-line.input) _ c.from_residual-in_err-refill.ensures.1
    (is_part c.args.limit c.in_ok-gather.field-0 c.loop-line.line.items c.gather.new.line.items c.loop-line.self c.gather.new.self _ _ c.in-Part.is c.loop-line.invariant.reached c.in_ok-gather.ensures) c.in_err-refill.ensures

pub returns-then-not-branch-clause-line : goal.returns-then-not-branch-clause-line
returns-then-not-branch-clause-line g c =
    is_ended c.args.limit c.in_ok-refill.field-0 c.gather.new.line.items c.refill.new.self _ _ (g.I.Source.seen c.loop-line.input) _ c.if-not-branch.true
    (is_part c.args.limit c.in_ok-gather.field-0 c.loop-line.line.items c.gather.new.line.items c.loop-line.self c.gather.new.self _ _ c.in-Part.is c.loop-line.invariant.reached c.in_ok-gather.ensures) c.in_ok-refill.ensures c.last_line.ensures

pub loop-line-preserved : goal.loop-line-preserved
loop-line-preserved g c = record {
  reached = is_taken c.args.limit c.in_ok-refill.field-0 c.gather.new.line.items c.refill.new.self _ (g.I.Source.seen c.loop-line.input) _ c.if-not-branch.false
      (is_part c.args.limit c.in_ok-gather.field-0 c.loop-line.line.items c.gather.new.line.items c.loop-line.self c.gather.new.self _ _ c.in-Part.is c.loop-line.invariant.reached c.in_ok-gather.ensures) c.in_ok-refill.ensures;
  idle = λ holds.
      let was = c.loop-line.invariant.idle holds in
      none_held c.args.limit c.in_ok-gather.field-0 c.loop-line.line.items c.gather.new.line.items c.loop-line.self c.gather.new.self c.args.self.now c.in-Part.is c.in_ok-gather.ensures was.0 was.1 holds;
}
