use Rattle.std.proofs.Common.{◌-◌, ◌%◌, length, ap, arith, length-take}
use Rattle.br_word.specs.Memory.{Region}
use Rattle.guest_mem.specs.Pages.{joined}
use Rattle.guest_mem.proofs.Paged.{is-number}
use Rattle.guest_mem.proofs.Growing.{cut-at}
use Rattle.guest_mem.proofs.area.Area.cut.Goals as goal

pub index_mut-requires : goal.index_mut-requires
index_mut-requires c =
    let m = c.self.inside in
    let room = 4096 - m.start % 4096 in
    let j = c.page_number-number.result in
    let less = rw (← c.self.view_is) at c.requires.less in
    let b = rw (← c.page_number-number.ensures) at c.page_offset-offset.ensures.begin in
    let r = rw (← c.page_number-number.ensures) at c.page_offset-offset.ensures.room in
    let n = is-number room m.pages.items j c.page_offset-offset.result c.self.invariant.0 (omega (arith, r)) (omega (arith, b, less, c.if-size-eq0.false)) in
    omega (arith, n, c.truncate-2.ensures.len, m.pages.ok.0)

pub invariant_of-self-2 : goal.invariant_of-self-2
invariant_of-self-2 c =
    let m = c.self.inside in
    let room = 4096 - m.start % 4096 in
    let less = rw (← c.self.view_is) at c.requires.less in
    let b = rw (← c.page_number-number.ensures) at c.page_offset-offset.ensures.begin in
    let r = rw (← c.page_number-number.ensures) at c.page_offset-offset.ensures.room in
    let i = cut-at room m.pages.items c.truncate-2.new.self.items c.page_number-number.result c.page_offset-offset.result c.args.size c.index_mut.result.now (record { bytes = c.truncate-3.new.self }) c.self.invariant.0
    (omega (arith, r)) (omega (arith, b, c.if-size-eq0.false)) less c.truncate-2.ensures.items c.index_mut.ensures.value c.truncate-3.ensures.items in
    (i.0, omega (arith, ap (λ bs. length bs) i.1, length-take c.args.size (joined m.pages.items), less))

pub returns : goal.returns
returns c =
    let m = c.self.inside in
    let room = 4096 - m.start % 4096 in
    let less = rw (← c.self.view_is) at c.requires.less in
    let b = rw (← c.page_number-number.ensures) at c.page_offset-offset.ensures.begin in
    let r = rw (← c.page_number-number.ensures) at c.page_offset-offset.ensures.room in
    let i = cut-at room m.pages.items c.truncate-2.new.self.items c.page_number-number.result c.page_offset-offset.result c.args.size c.index_mut.result.now (record { bytes = c.truncate-3.new.self }) c.self.invariant.0
    (omega (arith, r)) (omega (arith, b, c.if-size-eq0.false)) less c.truncate-2.ensures.items c.index_mut.ensures.value c.truncate-3.ensures.items in
    rw (← c.self.view_is) (ap (λ bs. let r : Region = record { start = m.start; perms = m.perms; bytes = bs } in r) i.1)
