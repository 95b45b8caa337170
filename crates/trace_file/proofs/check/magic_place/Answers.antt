use Rattle.std.proofs.Common.{sym, ◌∙◌}
use Rattle.trace_file.specs.Trace.{magic}
use Rattle.trace_file.proofs.Records.{same_here, ends_here, differs_here}
use Rattle.trace_file.proofs.check.magic_place.Goals as goal
use Rattle.trace_file.proofs.check.magic_place.Goals.{then-at-bytes-via-then-at-bytes, then-at-bytes-via-else-at-bytes+then-bytes-at}

pub returns-then-at-bytes : goal.returns-then-at-bytes
returns-then-at-bytes c =
    elim c.then-at-bytes.branch [
      | then-at-bytes-via-then-at-bytes w ↦ sym (ends_here c.loop-i.i magic c.args.bytes.now c.loop-i-test.true w.if-at-bytes.true) ∙ c.loop-i.invariant
      | then-at-bytes-via-else-at-bytes+then-bytes-at w ↦ sym (differs_here c.loop-i.i magic c.args.bytes.now c.loop-i-test.true w.if-at-bytes.false w.if-bytes-at.true) ∙ c.loop-i.invariant
    ]

pub loop-i-preserved : goal.loop-i-preserved
loop-i-preserved c = sym (same_here c.loop-i.i magic c.args.bytes.now c.loop-i-test.true c.if-at-bytes.false c.if-bytes-at.false) ∙ c.loop-i.invariant
