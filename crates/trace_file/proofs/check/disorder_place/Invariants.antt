use Rattle.std.proofs.Common.{◌≡◌, ◌+◌, ◌*◌, drop}
use Rattle.trace_file.specs.Trace.{records_of, disorder, disorder_after}
use Rattle.trace_file.proofs.check.disorder_place.Given as goal

abbrev pub invariant-loop-i : goal.invariant-loop-i
invariant-loop-i l = disorder_after l.last (44 + 8 * l.i) (drop l.i (records_of l.bytes)) ≡ disorder 44 (records_of l.bytes)
