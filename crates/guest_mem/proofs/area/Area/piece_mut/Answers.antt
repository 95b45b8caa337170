use Rattle.std.proofs.Common.{◌≡◌, ◌+◌, ◌-◌, ◌%◌, ◌≤◌, take, drop, refl, sym, ◌∙◌, ap, arith}
use Rattle.br_word.specs.Memory.{Region}
use Rattle.guest_mem.specs.Pages.{joined}
use Rattle.guest_mem.specs.Pieces.{piece_size, put_piece}
use Rattle.guest_mem.specs.Lending.{page_with}
use Rattle.guest_mem.proofs.Places.{covers-bounds}
use Rattle.guest_mem.proofs.Paged.{HasPage, has-page, place-number, page_size, is-at, take-at, joined-at, length-joined-at, size-page_with, ArePages-set}
use Rattle.guest_mem.proofs.area.Area.piece_mut.Goals as goal
use Rattle.guest_mem.proofs.area.Area.piece_mut.Goals.{After-min-count, After-index_mut}

at_page : (c : After-min-count) → HasPage c.self.inside.start c.args.at c.self.inside.pages.items c.page_number-number.result c.page_offset-from.result
at_page c =
    let m = c.self.inside in
    has-page (record { start = m.start; perms = m.perms; bytes = joined m.pages.items }) c.args.at c.args.len c.page_number-number.result c.page_offset-from.result m.pages.items
    refl c.self.invariant.0 (rw (← c.self.view_is) at c.requires.inside) c.requires.some c.page_number-number.ensures c.page_offset-from.ensures.begin c.page_offset-from.ensures.room

pub index_mut-requires : goal.index_mut-requires
index_mut-requires c =
    let m = c.self.inside in
    let n = place-number m.start c.args.at m.pages.items c.page_number-number.result c.page_offset-from.result (at_page (goal.at.index_mut-requires c).After-min-count) in
    omega (arith, n, m.pages.ok.0)

fits : (c : After-index_mut) → HasPage c.self.inside.start c.args.at c.self.inside.pages.items c.page_number-number.result c.page_offset-from.result → c.page_offset-from.result + c.min-count.result ≤ page_size c.index_mut.result.now
fits c h =
    let m = c.self.inside in
    let i = is-at m.start c.args.at m.pages.items c.page_number-number.result c.page_offset-from.result c.index_mut.result.now h c.index_mut.ensures.value in
    let bounds = rw (← c.self.view_is) at (covers-bounds c.args.self.now c.args.at c.args.len c.requires.inside) in
    omega (arith, i.inside, i.rest, bounds, c.min-count.ensures)

pub bytes_of-requires-clause-inside : goal.bytes_of-requires-clause-inside
bytes_of-requires-clause-inside c = omega (arith, fits (goal.at.bytes_of-requires-clause-inside c).After-index_mut (at_page (goal.at.bytes_of-requires-clause-inside c).After-min-count), c.index_mut.result.now.bytes.ok.0)

pub invariant_of-self-lent : goal.invariant_of-self-lent
invariant_of-self-lent c =
    let m = c.self.inside in
    let p = c.index_mut.result.now in
    let j = c.page_number-number.result in
    let k = c.page_offset-from.result in
    λ w. (
      ArePages-set (4096 - m.start % 4096) m.pages.items j p (page_with p k w) c.self.invariant.0 c.index_mut.ensures.value (size-page_with p k w),
      c.self.invariant.1 ∙ sym (length-joined-at m.start c.args.at m.pages.items j k p w (at_page (goal.at.invariant_of-self-lent c).After-min-count) c.index_mut.ensures.value),
    )

pub returns : goal.returns
returns c =
    let m = c.self.inside in
    let p = c.index_mut.result.now in
    let j = c.page_number-number.result in
    let k = c.page_offset-from.result in
    let e : k + c.min-count.result - k ≡ piece_size c.args.at c.args.len = omega (arith, c.min-count.ensures) in (
      (
        refl,
        λ w.
            ap (λ bs. let r : Region = record { start = m.start; perms = m.perms; bytes = bs } in r) (joined-at m.start c.args.at m.pages.items j k p w (at_page (goal.at.returns c).After-min-count) c.index_mut.ensures.value)
            ∙ ap (put_piece c.args.at w) c.self.view_is,
      ),
      record {
        writes_back = tt;
        value = rw (← c.self.view_is) (c.bytes_of.ensures.value ∙ (ap (λ n. take n (drop k p.bytes.items)) e
            ∙ sym (take-at m.start c.args.at m.pages.items j k p (piece_size c.args.at c.args.len) (at_page (goal.at.returns c).After-min-count) c.index_mut.ensures.value (omega (arith, fits (goal.at.returns c).After-index_mut (at_page (goal.at.returns c).After-min-count), c.min-count.ensures)))));
      },
    )
