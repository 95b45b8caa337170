use Rattle.std.proofs.Common.{◌≡◌, take}
use Rattle.trace_file.specs.Trace.{records_of}
use Rattle.trace_file.proofs.read.load_records.Given as goal

abbrev pub invariant-loop-i : goal.invariant-loop-i
invariant-loop-i l = l.list.items ≡ take l.i (records_of l.bytes)
