use Rattle.std.proofs.Common.{◌≡◌, ◌+◌, ◌≤◌, ◌++◌, length, drop}
use Rattle.std.specs.Fmt.{decimal}
use Rattle.top_plan.proofs.line.number_before.Given as goal

abbrev pub invariant-loop-left : goal.invariant-loop-left
invariant-loop-left l =
    (l.at + length (decimal l.number) ≡ l.end + length (decimal l.left)) × (l.left ≤ l.number) × (l.at ≤ l.end) × (length l.line ≡ length l.fn.line)
    × (decimal l.left ++ drop l.at l.line ≡ decimal l.number ++ drop l.end l.fn.line)

abbrev pub decreases-loop-left : goal.decreases-loop-left
decreases-loop-left l = l.left
