use Rattle.std.proofs.Common.{◌-◌}
use Rattle.trace_file.proofs.Search.{IsBetween}
use Rattle.trace_file.proofs.edges.Edges.has.Given as goal

abbrev pub invariant-loop-low : goal.invariant-loop-low
invariant-loop-low l = IsBetween l.self-inside.list.items l.edge l.low l.high

abbrev pub decreases-loop-low : goal.decreases-loop-low
decreases-loop-low l = l.high - l.low
