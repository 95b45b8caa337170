use Rattle.std.proofs.Common.{◌≡◌, drop}
use Rattle.live_flow.specs.Rows.{moved_set}
use Rattle.live_flow.proofs.row.moved_set.Given as goal

abbrev pub invariant-loop-register : goal.invariant-loop-register
invariant-loop-register l = l.set ≡ moved_set l.register (drop l.register l.outs)
