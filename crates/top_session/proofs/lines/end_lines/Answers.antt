use Rattle.std.proofs.Common.{ℕ}
use Rattle.line_reader.specs.Reads.{next_of}
use Rattle.top_plan.proofs.Passes.{passes_on}
use Rattle.top_session.specs.Lines.{line_part}
use Rattle.top_session.specs.SessionPlan.{past_last}
use Rattle.top_session.proofs.LinesRun.{none_left_past, too_many}
use Rattle.top_session.proofs.lines.end_lines.Goals as goal

pub returns-in_err-line : goal.returns-in_err-line
returns-in_err-line g c w =
    passes_on (λ (count : ℕ). count) (λ last. line_part 0 (past_last 1048576 last)) _ _ _ c.from_residual.result (λ last. c.in_err-line.ensures w (past_last 1048576 last)) c.from_residual.ensures.1

pub returns-then-is_end : goal.returns-then-is_end
returns-then-is_end g c w last o u went = none_left_past last (next_of c.in_ok-line.line) _ _ o u (c.is_end.ensures.end c.if-is_end.true) (c.in_ok-line.ensures w) went

pub returns : goal.returns
returns g c w last = too_many last (next_of c.in_ok-line.line) _ _ (c.is_end.ensures.more c.if-is_end.false) (c.in_ok-line.ensures w)
