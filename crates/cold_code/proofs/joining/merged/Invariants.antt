use Rattle.std.proofs.Common.{◌≡◌, ◌+◌, ◌-◌, ◌≤◌, ◌++◌, length, drop}
use Rattle.cold_code.specs.Dispatcher.{merged}
use Rattle.cold_code.proofs.joining.merged.Given as goal

abbrev pub invariant-loop-left : goal.invariant-loop-left
invariant-loop-left l = record {
  left : l.left ≤ length l.first;
  right : l.right ≤ length l.second;
  done : l.all.items ++ merged (drop l.left l.first) (drop l.right l.second) ≡ merged l.first l.second;
}

abbrev pub decreases-loop-left : goal.decreases-loop-left
decreases-loop-left l = (length l.first - l.left) + (length l.second - l.right)
