use Rattle.std.proofs.Common.{length, ◌-◌, ◌≡◌, ◌+◌, ◌≤◌, ◌++◌, drop}
use Rattle.trace_file.specs.Edges.{merge, step}
use Rattle.trace_file.proofs.order.merged.Given as goal

abbrev pub invariant-loop-next : goal.invariant-loop-next
invariant-loop-next l = record {
  here : l.all.items ++ step l.edge (merge (drop (l.edge-index + 1) l.left)) (drop l.next l.right) ≡ merge l.fn.left l.fn.right;
  within : l.next ≤ length l.right;
}

abbrev pub decreases-loop-next : goal.decreases-loop-next
decreases-loop-next l = length l.right - l.next

abbrev pub invariant-loop-edge : goal.invariant-loop-edge
invariant-loop-edge l = record {
  here : l.all.items ++ merge (drop l.edge-index l.left) (drop l.next l.right) ≡ merge l.fn.left l.fn.right;
  within : l.next ≤ length l.right;
}

abbrev pub invariant-loop-next-2 : goal.invariant-loop-next-2
invariant-loop-next-2 l = record {
  here : l.all.items ++ drop l.next l.right ≡ merge l.fn.left l.fn.right;
  within : l.next ≤ length l.right;
}

abbrev pub decreases-loop-next-2 : goal.decreases-loop-next-2
decreases-loop-next-2 l = length l.right - l.next
