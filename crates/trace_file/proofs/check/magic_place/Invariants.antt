use Rattle.std.proofs.Common.{◌≡◌, drop}
use Rattle.trace_file.specs.Trace.{magic, first_difference}
use Rattle.trace_file.proofs.check.magic_place.Given as goal

abbrev pub invariant-loop-i : goal.invariant-loop-i
invariant-loop-i l = first_difference l.i (drop l.i magic) (drop l.i l.bytes) ≡ first_difference 0 magic l.bytes
