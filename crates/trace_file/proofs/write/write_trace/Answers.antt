use Rattle.std.proofs.Common.{◌≡◌, rules}
use Rattle.trace_file.specs.Trace.{trace_bytes}
use Rattle.trace_file.proofs.ReadBack.{whole_file, reads_back}
use Rattle.trace_file.proofs.write.write_trace.Goals as goal

the_file : (c : goal.In_ok-push_records) → c.push_records.new.out.items ≡ trace_bytes c.args.edges.now c.args.digest.now
the_file c =
    whole_file _ _ _ _ _ c.args.digest.now c.len-2.result c.args.edges.now c.as_slice.result.now
    c.in_ok-out.ensures.items c.in_ok-extend_from_slice.ensures.items c.in_ok-extend_from_slice-2.ensures.items c.len-2.ensures.value c.in_ok-push_word.ensures.bytes
    c.as_slice.ensures.value c.in_ok-push_records.ensures.bytes

pub returns-clause-file : goal.returns-clause-file
returns-clause-file c = the_file c

pub returns-clause-read : goal.returns-clause-read
returns-clause-read c = reads_back c.args.edges.now c.as_slice.result.now c.args.digest.now _ (the_file c) c.as_slice.ensures.value c.in_ok-push_records.ensures.words c.as_slice.ensures.edges.order c.requires (search rules)
