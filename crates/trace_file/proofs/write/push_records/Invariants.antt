use Rattle.std.proofs.Common.{◌≡◌, ◌++◌, take, drop}
use Rattle.std.specs.Prelude.{All}
use Rattle.trace_file.specs.Trace.{all_record_bytes, AreWords}
use Rattle.trace_file.proofs.write.push_records.Given as goal

abbrev pub invariant-loop-edge : goal.invariant-loop-edge
invariant-loop-edge l = record {
  bytes : l.out.items ++ all_record_bytes (drop l.edge-index l.list) ≡ l.fn.out.items ++ all_record_bytes l.list;
  words : All AreWords (take l.edge-index l.list);
}
