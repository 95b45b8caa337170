use Rattle.std.proofs.Common.{◌+◌, ◌*◌, sym, ◌∙◌, arith}
use Rattle.trace_file.specs.Trace.{records_of, count_of}
use Rattle.trace_file.proofs.Records.{length_records, disorder_here, no_disorder}
use Rattle.trace_file.proofs.check.disorder_place.Goals as goal

pub returns-then-not-is_before : goal.returns-then-not-is_before
returns-then-not-is_before c =
    let n = length_records (count_of c.args.bytes.now) 44 c.args.bytes.now in
    disorder_here c.loop-i.i (44 + 8 * c.loop-i.i) (records_of c.args.bytes.now) c.loop-i.last c.read_record-next.result _ (omega arith)
    c.read_record-next.ensures (sym c.is_before.ensures ∙ c.if-not-is_before.true) c.loop-i.invariant

pub returns : goal.returns
returns c =
    let n = length_records (count_of c.args.bytes.now) 44 c.args.bytes.now in
    no_disorder c.loop-i.i (44 + 8 * c.loop-i.i) (records_of c.args.bytes.now) c.loop-i.last _ (omega arith) c.loop-i.invariant
