use Rattle.std.proofs.Common.{sym}
use Rattle.guest_sys.proofs.PutBytes.{put_no, put_yes, not_empty}
use Rattle.guest_sys.proofs.buffers.put.Goals as goal

pub returns-then-not-can_write : goal.returns-then-not-can_write
returns-then-not-can_write c = put_no c.args.at c.args.bytes.now c.args.m.now (not_empty _ c.if-is_empty.ensures) (sym c.if-not-can_write.ensures)

pub returns : goal.returns
returns c = put_yes c.args.at c.args.bytes.now c.args.m.now c.copy_in.new.self (not_empty _ c.if-is_empty.ensures) c.copy_in.ensures.written c.copy_in.ensures.rest
