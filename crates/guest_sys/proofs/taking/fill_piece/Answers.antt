use Rattle.std.proofs.Common.{refl, arith}
use Rattle.guest_sys.proofs.FilledPieces.{fill-done, fill-failed}
use Rattle.guest_sys.proofs.taking.fill_piece.Goals as goal

pub returns-in-Err : goal.returns-in-Err
returns-in-Err g c = fill-failed c.args.at c.args.len c.in-Err.field-0 c.args.m.now _ c.piece_mut.result.now c.take.new.into _ _ c.regions_lie_apart.ensures c.requires.some c.piece_mut.ensures.value c.in-Err.ensures refl

pub returns-in-Ok : goal.returns-in-Ok
returns-in-Ok g c =
    fill-done c.args.at c.args.len c.in-Ok.count c.in-Ok.count c.args.m.now _ c.piece_mut.result.now c.take.new.into _ _ c.regions_lie_apart.ensures c.requires.some c.piece_mut.ensures.value (omega arith) c.in-Ok.ensures refl refl
