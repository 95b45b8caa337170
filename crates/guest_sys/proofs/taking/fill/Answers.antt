use Rattle.std.proofs.Common.{◌+◌, ◌-◌, ◌++◌, arith, length-append}
use Rattle.br_word.specs.Memory.{Writes}
use Rattle.guest_sys.proofs.TakenBytes.{taken_more}
use Rattle.guest_sys.proofs.Pieces.{goes-on, filled-more, stays-writable}
use Rattle.guest_sys.proofs.FilledPieces.{fills-failed, fills-end, fills-all}
use Rattle.guest_sys.proofs.taking.fill.Goals as goal

pub overflow_add-at : goal.overflow_add-at
overflow_add-at g c =
    let i = goes-on Writes c.args.at c.args.len c.loop-done.done c.loop-done.m.regions c.regions_lie_apart-in-loop-done.ensures c.loop-done-test.true c.loop-done.invariant.writable in
    omega (arith, i.1, c.loop-done-test.true)

pub fill_piece-requires-clause-writable : goal.fill_piece-requires-clause-writable
fill_piece-requires-clause-writable g c =
    (goes-on Writes c.args.at c.args.len c.loop-done.done c.loop-done.m.regions c.regions_lie_apart-in-loop-done.ensures c.loop-done-test.true c.loop-done.invariant.writable).0

pub returns-in-Err : goal.returns-in-Err
returns-in-Err g c =
    let v = c.loop-done.invariant in
    fills-failed c.args.at c.args.len (c.args.len - c.loop-done.done) (c.args.at + c.loop-done.done) c.in-Err.error v.bytes c.args.m.now c.loop-done.m c.fill_piece.new.m _ _ _ (omega (arith, v.long, c.loop-done-test.true)) v.filled v.taken c.in-Err.ensures

pub returns-in-Ok-eq0 : goal.returns-in-Ok-eq0
returns-in-Ok-eq0 g c =
    let v = c.loop-done.invariant in
    fills-end c.args.at c.args.len (c.args.len - c.loop-done.done) (c.args.at + c.loop-done.done) c.loop-done.done c.in-Ok-eq0.field-0 v.bytes c.args.m.now c.loop-done.m c.fill_piece.new.m _ _ _ v.long (omega (arith, v.long, c.loop-done-test.true)) c.regions_lie_apart.ensures c.requires
    (omega (arith, v.long)) v.filled v.taken c.in-Ok-eq0.ensures c.in-Ok-eq0.field-0-test

pub loop-done-preserved : goal.loop-done-preserved
loop-done-preserved g c =
    let v = c.loop-done.invariant in
    let p = c.in-Ok.ensures in
    let few = p.2 in
    record {
      within = omega (arith, few, c.loop-done-test.true);
      bytes = v.bytes ++ p.0;
      long = omega (arith, v.long, p.1, length-append v.bytes p.0);
      filled = filled-more c.args.at c.args.len _ v.bytes p.0 c.args.m.now c.loop-done.m c.fill_piece.new.m c.regions_lie_apart.ensures c.requires (omega (arith, v.long, p.1, few, c.loop-done-test.true)) (omega (arith, v.long)) v.filled p.3;
      writable = stays-writable c.args.at c.args.len _ p.0 c.loop-done.m c.fill_piece.new.m p.3 v.writable;
      taken = taken_more v.bytes p.0 _ _ _ v.taken p.4 p.5;
      idle = λ z. absurd (omega (arith, z, c.loop-done-test.true));
    }

pub returns : goal.returns
returns g c =
    let v = c.loop-done.invariant in
    fills-all c.args.at c.args.len c.loop-done.done v.bytes c.args.m.now c.loop-done.m _ _ v.long (omega (arith, v.within, c.loop-done-test.false)) v.filled v.taken v.idle
