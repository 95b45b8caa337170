use Rattle.std.proofs.Common.{◌+◌, ◌-◌, length, ◌∙◌, ap, arith}
use Rattle.br_word.specs.Memory.{Region}
use Rattle.guest_mem.specs.Pieces.{piece_size}
use Rattle.guest_mem.proofs.Places.{covers-bounds}
use Rattle.guest_mem.proofs.Copies.{write-pieces, length-piece}
use Rattle.guest_mem.proofs.area.Area.+copy_in.Goals as goal

pub returns : goal.returns
returns k c =
    let r = c.args.self.now in
    let from = c.args.from.now in
    let len = length from in
    let m = length c.piece_mut-piece.result.now in
    let b = covers-bounds r c.args.at len c.requires.inside in
    let n = length-piece r.bytes c.piece_mut-piece.result.now (c.args.at - r.start) (piece_size c.args.at len) len c.piece_mut-piece.ensures.value (omega arith) (omega (arith, b)) in
    let front = c.split_at.result.0.now in
    c.copy_in.ensures
    ∙ ap (λ bs. let s : Region = record { start = r.start; perms = r.perms; bytes = bs } in s)
    (write-pieces r c.args.at m (c.args.at + length front - r.start) from front c.split_at.result.1.now c.copy_from_slice.new.self b.0 b.1 n c.copy_from_slice.ensures.after c.split_at.ensures.front c.split_at.ensures.back (omega arith))
