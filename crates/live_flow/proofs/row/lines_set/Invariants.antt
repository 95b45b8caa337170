use Rattle.std.proofs.Common.{◌≡◌, drop}
use Rattle.live_flow.specs.Rows.{lines_set}
use Rattle.live_flow.proofs.row.lines_set.Given as goal

abbrev pub invariant-loop-index : goal.invariant-loop-index
invariant-loop-index l = l.set ≡ lines_set (drop l.index l.lines)
