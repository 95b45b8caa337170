use Rattle.std.proofs.Common.{length, sym, ap, ◌∙◌}
use Rattle.elf_read.specs.Elf.{first_where}
use Rattle.elf_read.specs.Reads.{fails, failed_at}
use Rattle.elf_read.proofs.Walk.{left_first, check_is, where_here, where_on}
use Rattle.elf_read.proofs.table.failing_place.Goals as goal

pub loop-i-init : goal.loop-i-init
loop-i-init c = ap (first_where (fails c.args.check (length c.args.bytes.now))) (left_first c.args.bytes.now c.args.table c.requires.table) ∙ check_is c.args.check c.args.bytes.now

pub returns-then-is_failed : goal.returns-then-is_failed
returns-then-is_failed c = where_here c.args.bytes.now c.args.table c.loop-i.i c.read_header-header.result c.loop-i-test.true c.read_header-header.ensures (fails c.args.check (length c.args.bytes.now)) (failed_at c.args.check c.args.bytes.now) c.loop-i.invariant (sym c.is_failed.ensures ∙ c.if-is_failed.true)

pub loop-i-preserved : goal.loop-i-preserved
loop-i-preserved c = where_on c.args.bytes.now c.args.table c.loop-i.i c.read_header-header.result c.loop-i-test.true c.read_header-header.ensures (fails c.args.check (length c.args.bytes.now)) (failed_at c.args.check c.args.bytes.now) c.loop-i.invariant (sym c.is_failed.ensures ∙ c.if-is_failed.false)
