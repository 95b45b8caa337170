use Rattle.std.proofs.Common.{◌≡◌, drop}
use Rattle.session_core.specs.Session.{same_exits}
use Rattle.session_core.proofs.keys.same_exits.Given as goal

abbrev pub invariant-loop-index : goal.invariant-loop-index
invariant-loop-index l = same_exits (drop l.index l.left) (drop l.index l.right) ≡ same_exits l.left l.right
