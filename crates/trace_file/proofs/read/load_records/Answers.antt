use Rattle.std.proofs.Common.{arith}
use Rattle.trace_file.specs.Trace.{records_of, count_of}
use Rattle.trace_file.proofs.Records.{length_records, load_step, load_end}
use Rattle.trace_file.proofs.read.load_records.Goals as goal

pub loop-i-preserved : goal.loop-i-preserved
loop-i-preserved c =
    let n = length_records (count_of c.args.bytes.now) 44 c.args.bytes.now in
    load_step c.loop-i.i (records_of c.args.bytes.now) _ _ c.read_record.result (omega arith) c.in_ok-push.ensures.items c.loop-i.invariant c.read_record.ensures

pub returns : goal.returns
returns c =
    let n = length_records (count_of c.args.bytes.now) 44 c.args.bytes.now in
    load_end c.loop-i.i (records_of c.args.bytes.now) _ (omega arith) c.loop-i.invariant
