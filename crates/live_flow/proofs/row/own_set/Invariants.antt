use Rattle.std.proofs.Common.{◌≡◌, drop}
use Rattle.live_flow.specs.Rows.{own_set}
use Rattle.live_flow.proofs.row.own_set.Given as goal

abbrev pub invariant-loop-register : goal.invariant-loop-register
invariant-loop-register l = l.set ≡ own_set l.register (drop l.register l.outs)
