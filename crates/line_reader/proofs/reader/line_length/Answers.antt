use Rattle.std.proofs.Common.{◌∙◌, arith}
use Rattle.line_reader.proofs.Counts.{found, none_found}
use Rattle.line_reader.proofs.reader.line_length.Goals as goal

pub returns-then-bytes-at-eq10-clause-value : goal.returns-then-bytes-at-eq10-clause-value
returns-then-bytes-at-eq10-clause-value c = found c.args.bytes.now c.loop-at.at _ c.loop-at-test.true c.if-bytes-at-eq10.true c.loop-at.invariant

pub returns-clause-value : goal.returns-clause-value
returns-clause-value c = none_found c.args.bytes.now c.loop-at.at (omega (arith, c.loop-at-test.false)) c.loop-at.invariant
