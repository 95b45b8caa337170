use Rattle.std.proofs.Common.{◌-◌, ◌∙◌, arith}
use Rattle.guest_mem.proofs.Places.{covers-bounds, covers-within}
use Rattle.guest_mem.proofs.Copies.{front-in_page, front-no_page}
use Rattle.guest_mem.proofs.area.Area.front.Goals as goal

pub piece-requires-clause-some : goal.piece-requires-clause-some
piece-requires-clause-some c =
    omega (arith, covers-bounds c.args.self.now c.args.at 1 c.requires.inside, c.left.ensures, c.min-count.ensures, c.requires.some)

pub piece-requires-clause-inside : goal.piece-requires-clause-inside
piece-requires-clause-inside c =
    let r = c.args.self.now in
    let bounds = covers-bounds r c.args.at 1 c.requires.inside in
    covers-within r c.args.at 1 c.min-count.result c.requires.inside (omega (arith, bounds, c.left.ensures, c.min-count.ensures))

pub returns-then-count-at_byte : goal.returns-then-count-at_byte
returns-then-count-at_byte c =
    let r = c.args.self.now in
    front-no_page r.bytes c.args.at (c.args.at - r.start) c.left.result c.min-count.result c.args.most c.left.ensures c.min-count.ensures (omega arith)

pub returns : goal.returns
returns c =
    let r = c.args.self.now in
    c.piece.ensures ∙ front-in_page r.bytes c.args.at (c.args.at - r.start) c.left.result c.min-count.result c.args.most c.left.ensures c.min-count.ensures (omega arith)
