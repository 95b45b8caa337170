use Rattle.std.proofs.Common.{◌+◌, ◌-◌, length, ◌∙◌, arith}
use Rattle.guest_mem.specs.Pieces.{piece_size}
use Rattle.guest_mem.proofs.Places.{covers-bounds}
use Rattle.guest_mem.proofs.Copies.{two-pieces, length-piece}
use Rattle.guest_mem.proofs.area.Area.+copy_out.Goals as goal

pub overflow_add-at : goal.overflow_add-at
overflow_add-at k c =
    let r = c.args.self.now in
    let len = length c.args.into.now in
    let b = covers-bounds r c.args.at len c.requires.inside in
    let n = length-piece r.bytes c.piece-piece.result.now (c.args.at - r.start) (piece_size c.args.at len) len c.piece-piece.ensures (omega arith) (omega (arith, b)) in
    omega (arith, n, c.requires.fits)

pub returns : goal.returns
returns k c =
    let r = c.args.self.now in
    let len = length c.args.into.now in
    let m = piece_size c.args.at len in
    let b = covers-bounds r c.args.at len c.requires.inside in
    let n = length-piece r.bytes c.piece-piece.result.now (c.args.at - r.start) m len c.piece-piece.ensures (omega arith) (omega (arith, b)) in
    two-pieces r.bytes c.copy_from_slice.new.self c.copy_out.new.into (c.args.at - r.start) (c.args.at + length c.piece-piece.result.now - r.start) m (length c.split_at_mut-front.result.1.now) len
    (c.copy_from_slice.ensures.after ∙ c.piece-piece.ensures) (omega arith) (omega (arith, b)) (omega (arith, n, b)) (omega (arith, n, c.split_at_mut-front.ensures.back_len)) c.copy_out.ensures
