use Rattle.std.proofs.Common.{ℕ, Option, List, take, option_map, Err, sym, subst, arith}
use Rattle.br_word.specs.Memory.{Reads}
use Rattle.guest_sys.specs.Parts.{GivesBuffer}
use Rattle.guest_sys.proofs.Pieces.{rest-of, piece-of, goes-on}
use Rattle.guest_sys.proofs.GivenPieces.{gives-more, gives-err}
use Rattle.guest_sys.proofs.buffers.give_pieces.Goals as goal

pub overflow_add-at : goal.overflow_add-at
overflow_add-at g c =
    let i = goes-on Reads c.args.at c.args.len c.loop-done.done c.args.m.now.regions c.regions_lie_apart.ensures c.loop-done-test.true c.requires in
    omega (arith, i.1, c.loop-done-test.true)

pub piece-piece-requires-clause-allowed : goal.piece-piece-requires-clause-allowed
piece-piece-requires-clause-allowed g c =
    (goes-on Reads c.args.at c.args.len c.loop-done.done c.args.m.now.regions c.regions_lie_apart.ensures c.loop-done-test.true c.requires).0

pub returns-in-Err : goal.returns-in-Err
returns-in-Err g c =
    let v = c.loop-done.invariant in
    let rs = c.args.m.now.regions in
    let p = piece-of Reads c.args.at c.args.len c.loop-done.done v.bytes c.piece-piece.result.now rs c.regions_lie_apart.ensures c.loop-done-test.true v.is c.piece-piece.ensures in
    let i = rest-of Reads c.args.at c.args.len c.loop-done.done v.bytes rs c.regions_lie_apart.ensures c.loop-done-test.true v.is in
    let P : Option (List ℕ) → Type 0 = λ o. GivesBuffer (option_map (take c.args.len) o) (Err c.in-Err.error) (g.S.Sink.seen c.args.sink.now) (g.S.Sink.seen c.give.new.self) in
    subst P (sym v.is) (gives-err c.loop-done.done c.args.len v.bytes c.piece-piece.result.now c.in-Err.error (g.S.Sink.seen c.args.sink.now) _ (g.S.Sink.seen c.give.new.self) p c.loop-done-test.true i.long v.given c.in-Err.ensures)

pub loop-done-smaller : goal.loop-done-smaller
loop-done-smaller g c =
    let v = c.loop-done.invariant in
    let p = piece-of Reads c.args.at c.args.len c.loop-done.done v.bytes c.piece-piece.result.now c.args.m.now.regions c.regions_lie_apart.ensures c.loop-done-test.true v.is c.piece-piece.ensures in
    omega (arith, p.some, p.few, c.loop-done-test.true)

pub loop-done-preserved : goal.loop-done-preserved
loop-done-preserved g c =
    let v = c.loop-done.invariant in
    let rs = c.args.m.now.regions in
    let p = piece-of Reads c.args.at c.args.len c.loop-done.done v.bytes c.piece-piece.result.now rs c.regions_lie_apart.ensures c.loop-done-test.true v.is c.piece-piece.ensures in
    let i = rest-of Reads c.args.at c.args.len c.loop-done.done v.bytes rs c.regions_lie_apart.ensures c.loop-done-test.true v.is in
    record {
      within = omega (arith, p.few, c.loop-done-test.true);
      bytes = v.bytes;
      is = v.is;
      given = gives-more c.in-Ok.field-0 c.loop-done.done c.args.len v.bytes c.piece-piece.result.now _ _ _ p c.loop-done-test.true i.long v.given c.in-Ok.ensures;
    }
