use Rattle.std.proofs.Common.{refl, sym, ◌∙◌, ap, take, Some}
use Rattle.std.specs.Prelude.{option_map}
use Rattle.br_word.specs.Memory.{Writes}
use Rattle.guest_mem.specs.View.{MemoryView}
use Rattle.guest_mem.specs.Pieces.{piece_size, put_piece, with_piece}
use Rattle.guest_mem.proofs.Places.{covers-place, bytes_at-Some}
use Rattle.guest_mem.proofs.Heaps.{HasHeap-set}
use Rattle.guest_mem.proofs.Apart.{room-set}
use Rattle.guest_mem.proofs.Borrowed.{length-put_piece, put_pieces-Some}
use Rattle.guest_mem.proofs.memory.Memory.piece_mut.Goals as goal

pub piece_mut-requires-clause-inside : goal.piece_mut-requires-clause-inside
piece_mut-requires-clause-inside c =
    covers-place Writes c.args.at c.args.len c.self.inside.areas.items c.some_write_place-place.result c.index_mut.result.now
    c.some_write_place-place.ensures c.index_mut.ensures.value

pub invariant_of-self-lent : goal.invariant_of-self-lent
invariant_of-self-lent c =
    let r = c.index_mut.result.now in
    let held = covers-place Writes c.args.at c.args.len c.self.inside.areas.items c.some_write_place-place.result r
    c.some_write_place-place.ensures c.index_mut.ensures.value in
    λ w. (
      HasHeap-set c.self.inside.brk_start c.self.inside.brk c.self.inside.areas.items c.some_write_place-place.result r (put_piece c.args.at w r) c.self.invariant.0 c.index_mut.ensures.value
          refl (length-put_piece r c.args.at c.args.len w held),
      room-set c.self.inside.brk_start c.self.inside.areas.items c.some_write_place-place.result r (put_piece c.args.at w r) c.self.invariant.1 c.index_mut.ensures.value
          refl (length-put_piece r c.args.at c.args.len w held),
    )

pub returns : goal.returns
returns c =
    let r = c.index_mut.result.now in
    let m = c.self.inside in
    let known = c.some_write_place-place.ensures in (
      (
        refl,
        λ w.
            ap (λ rs. let n : MemoryView = record { regions = rs; brk_start = m.brk_start; brk = m.brk } in n)
            (sym (put_pieces-Some c.args.at c.args.len w m.areas.items c.some_write_place-place.result r known c.index_mut.ensures.value))
            ∙ ap (λ n. with_piece c.args.at c.args.len n w) c.self.view_is,
      ),
      record {
        writes_back = tt;
        value = rw (← c.self.view_is) (ap (option_map (take (piece_size c.args.at c.args.len)))
            (bytes_at-Some Writes c.args.at c.args.len m.areas.items c.some_write_place-place.result r known c.index_mut.ensures.value)
            ∙ ap Some (sym c.piece_mut.ensures.value));
      },
    )
