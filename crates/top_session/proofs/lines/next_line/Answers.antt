use Rattle.top_session.proofs.LineParts.{asked, input_failed, memory_wanted}
use Rattle.top_session.proofs.lines.next_line.Goals as goal

pub returns-in-Ok : goal.returns-in-Ok
returns-in-Ok g c w next o u went = asked c.args.limit _ w _ _ c.in-Ok.ensures.line next o u went

pub returns-in-Err-Failed : goal.returns-in-Err-Failed
returns-in-Err-Failed g c w next = input_failed c.args.limit w _ _ (rw c.in-Err-Failed.field-0-is at c.in-Err-Failed.ensures.line) next

pub returns-in-Err-Memory : goal.returns-in-Err-Memory
returns-in-Err-Memory g c w next = memory_wanted c.args.limit w _ _ (rw c.in-Err-Memory.field-0-is at c.in-Err-Memory.ensures.line) next
