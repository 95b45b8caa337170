use Rattle.live_flow.proofs.Narrow.{row_narrow, sets_small, numbers_closed}
use Rattle.live_flow.proofs.law.sets_are_narrow.Goals as goal

pub returns : goal.returns
returns c = record { rows = row_narrow; small = sets_small; closed = numbers_closed }
