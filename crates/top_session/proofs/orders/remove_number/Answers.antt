use Rattle.top_session.proofs.Checked.{removes, not_live}
use Rattle.top_session.proofs.orders.remove_number.Goals as goal

pub returns-in-Ok-clause-removes : goal.returns-in-Ok-clause-removes
returns-in-Ok-clause-removes c = (removes c.args.line c.args.number _ _ c.in-Ok.ensures.traces.0 c.in-Ok.ensures.traces.1, c.in-Ok.ensures.rest)

pub returns-in-Err-clause-removes : goal.returns-in-Err-clause-removes
returns-in-Err-clause-removes c = not_live c.args.line c.args.number _ c.in-Err.ensures.traces.0
