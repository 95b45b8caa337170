use Rattle.trace_file.specs.Trace.{count_of}
use Rattle.trace_file.proofs.Records.{record_read}
use Rattle.trace_file.proofs.field.read_record.Goals as goal

pub returns : goal.returns
returns c = record_read (count_of c.args.bytes.now) c.args.index c.args.bytes.now _ _ c.requires.index c.read_word.ensures c.read_word-2.ensures
