use Rattle.std.proofs.Common.{◌≡◌, ◌+◌, ◌-◌, ◌≤◌, ◌++◌, length, drop}
use Rattle.cold_copy.specs.Behind.{joined}
use Rattle.cold_copy.proofs.joining.joined.Given as goal

abbrev pub invariant-loop-left : goal.invariant-loop-left
invariant-loop-left l = record {
  left : l.left ≤ length l.first;
  right : l.right ≤ length l.second;
  done : l.all.items ++ joined (drop l.left l.first) (drop l.right l.second) ≡ joined l.first l.second;
}

abbrev pub decreases-loop-left : goal.decreases-loop-left
decreases-loop-left l = (length l.first - l.left) + (length l.second - l.right)
