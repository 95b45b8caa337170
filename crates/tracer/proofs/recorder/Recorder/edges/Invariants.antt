use Rattle.std.proofs.Common.{◌≡◌, ◌++◌}
use Rattle.tracer.proofs.recorder.Recorder.edges.Given as goal

abbrev pub invariant-loop-edge : goal.invariant-loop-edge
invariant-loop-edge l = l.list.items ++ l.edge-iterator ≡ l.self
