use Rattle.std.proofs.Common.{length, ◌≡◌, ◌≤◌, ◌++◌, drop}
use Rattle.trace_file.specs.Edges.{without}
use Rattle.trace_file.proofs.difference.difference.Given as goal

abbrev pub invariant-loop-edge : goal.invariant-loop-edge
invariant-loop-edge l = record {
  here : l.rest.items ++ without (drop l.next l.gone) (drop l.edge-index l.list) ≡ without l.fn.gone l.fn.list;
  within : l.next ≤ length l.gone;
}
