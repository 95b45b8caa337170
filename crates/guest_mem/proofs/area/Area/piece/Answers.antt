use Rattle.std.proofs.Common.{◌≡◌, ◌+◌, ◌≤◌, take, drop, refl, sym, ◌∙◌, ap, arith}
use Rattle.guest_mem.specs.Pages.{joined}
use Rattle.guest_mem.specs.Pieces.{piece_size}
use Rattle.guest_mem.proofs.Places.{covers-bounds}
use Rattle.guest_mem.proofs.Paged.{HasPage, has-page, place-number, page_size, is-at, take-at}
use Rattle.guest_mem.proofs.area.Area.piece.Goals as goal
use Rattle.guest_mem.proofs.area.Area.piece.Goals.{After-min-count, After-index}

at_page : (c : After-min-count) → HasPage c.self.inside.start c.args.at c.self.inside.pages.items c.page_number-number.result c.page_offset-from.result
at_page c =
    let m = c.self.inside in
    has-page (record { start = m.start; perms = m.perms; bytes = joined m.pages.items }) c.args.at c.args.len c.page_number-number.result c.page_offset-from.result m.pages.items
    refl c.self.invariant.0 (rw (← c.self.view_is) at c.requires.inside) c.requires.some c.page_number-number.ensures c.page_offset-from.ensures.begin c.page_offset-from.ensures.room

pub index-requires : goal.index-requires
index-requires c =
    let m = c.self.inside in
    let n = place-number m.start c.args.at m.pages.items c.page_number-number.result c.page_offset-from.result (at_page (goal.at.index-requires c).After-min-count) in
    omega (arith, n, m.pages.ok.0)

fits : (c : After-index) → HasPage c.self.inside.start c.args.at c.self.inside.pages.items c.page_number-number.result c.page_offset-from.result → c.page_offset-from.result + c.min-count.result ≤ page_size c.index.result.now
fits c h =
    let m = c.self.inside in
    let i = is-at m.start c.args.at m.pages.items c.page_number-number.result c.page_offset-from.result c.index.result.now h c.index.ensures in
    let bounds = rw (← c.self.view_is) at (covers-bounds c.args.self.now c.args.at c.args.len c.requires.inside) in
    omega (arith, i.inside, i.rest, bounds, c.min-count.ensures)

pub bytes_from-requires : goal.bytes_from-requires
bytes_from-requires c = omega (arith, fits (goal.at.bytes_from-requires c).After-index (at_page (goal.at.bytes_from-requires c).After-min-count), c.index.result.now.bytes.ok.0)

pub returns : goal.returns
returns c =
    let m = c.self.inside in
    let n = piece_size c.args.at c.args.len in
    let h = at_page (goal.at.returns c).After-min-count in
    let e : c.min-count.result ≡ n = omega (arith, c.min-count.ensures) in
    rw (← c.self.view_is) (c.bytes_from.ensures ∙ (ap (λ i. take i (drop c.page_offset-from.result c.index.result.now.bytes.items)) e
    ∙ sym (take-at m.start c.args.at m.pages.items c.page_number-number.result c.page_offset-from.result c.index.result.now n h c.index.ensures
    (omega (arith, fits (goal.at.returns c).After-index h, c.min-count.ensures)))))
