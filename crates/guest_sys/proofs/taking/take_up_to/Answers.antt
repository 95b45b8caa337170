use Rattle.std.proofs.Common.{arith, inl}
use Rattle.guest_sys.proofs.TakenBytes.{takes_all, takes_err}
use Rattle.guest_sys.proofs.taking.take_up_to.Goals as goal

pub returns-in-Err : goal.returns-in-Err
returns-in-Err g c =
    takes_err _ _ c.in-Err.error c.loop-bytes.bytes.items _ _ _ _ (omega arith) (omega arith) c.loop-bytes.invariant.taken c.in-Err.ensures

pub returns : goal.returns
returns g c =
    takes_all _ c.loop-bytes.bytes.items _ _ (omega arith) c.loop-bytes.invariant.taken c.loop-bytes.invariant.idle (inl (omega arith))
