use Rattle.std.proofs.Common.{◌≡◌, ◌+◌, ◌-◌, ◌%◌, Result, Ok, Err, length, sym, ◌∙◌, ap, arith, length-append}
use Rattle.std.specs.Prelude.{OnErr}
use Rattle.std.specs.declared.alloc.AllocError.{AllocError}
use Rattle.br_word.specs.Memory.{Region, zeros}
use Rattle.guest_mem.specs.Pages.{joined}
use Rattle.guest_mem.proofs.Numbers.{length-zeros}
use Rattle.guest_mem.proofs.Growing.{last-small, last-same, risen-at}
use Rattle.guest_mem.proofs.area.Area.rise.Goals as goal
use Rattle.guest_mem.proofs.area.Area.rise.Goals.{After-room_of-room}

last : (c : After-room_of-room) → c.len-count.result - 1 + 1 ≡ length c.self.inside.pages.items
last c = omega (arith, c.if-count-eq0.false, c.len-count.ensures, c.self.inside.pages.ok.0)

pub invariant_of-self : goal.invariant_of-self
invariant_of-self c =
    (c.in_ok-self-inside.ensures.pages, sym (ap (λ bs. length bs) c.in_ok-self-inside.ensures.bytes ∙ length-zeros c.args.size))

pub overflow_sub-room : goal.overflow_sub-room
overflow_sub-room c =
    let m = c.self.inside in
    let l = last (goal.at.overflow_sub-room c).After-room_of-room in
    let i = last-small (4096 - m.start % 4096) m.pages.items (c.len-count.result - 1) c.index.result.now c.self.invariant.0 l c.index.ensures in
    omega (arith, i.1, c.len-held.ensures, c.room_of-room.ensures, c.index.result.now.bytes.ok.0)

on_err : {A : Type 0} (r : Result A AllocError) (P : Type 0) → P → OnErr r P
on_err (Ok n) P h = tt
on_err (Err e) P h = h

pub invariant_of-self-in_err-lengthen : goal.invariant_of-self-in_err-lengthen
invariant_of-self-in_err-lengthen c =
    let m = c.self.inside in
    let l = last (goal.at.invariant_of-self-in_err-lengthen c).After-room_of-room in
    let i = last-same (4096 - m.start % 4096) m.pages.items c.reserve.new.self.items (c.len-count.result - 1) c.index_mut.result.now c.lengthen.new.page c.self.invariant.0 l
    c.reserve.ensures.items c.index_mut.ensures.value c.in_err-lengthen.ensures.err in
    (i.0, c.self.invariant.1 ∙ sym (ap (λ bs. length bs) i.1))

pub returns-in_err-lengthen-clause-err : goal.returns-in_err-lengthen-clause-err
returns-in_err-lengthen-clause-err c =
    let m = c.self.inside in
    let l = last (goal.at.returns-in_err-lengthen-clause-err c).After-room_of-room in
    let i = last-same (4096 - m.start % 4096) m.pages.items c.reserve.new.self.items (c.len-count.result - 1) c.index_mut.result.now c.lengthen.new.page c.self.invariant.0 l
    c.reserve.ensures.items c.index_mut.ensures.value c.in_err-lengthen.ensures.err in
    on_err c.from_residual-in_err-lengthen.result _ (ap (λ bs. let r : Region = record { start = m.start; perms = m.perms; bytes = bs } in r) i.1 ∙ c.self.view_is)

pub invariant_of-self-2 : goal.invariant_of-self-2
invariant_of-self-2 c =
    let m = c.self.inside in
    let l = last (goal.at.invariant_of-self-2 c).After-room_of-room in
    let j = c.len-count.result - 1 in
    let n = rw (← c.self.view_is) at c.requires in
    let room = 4096 - m.start % 4096 in
    let held = c.len-held.ensures ∙ c.index.result.now.bytes.ok.0 in
    let kept = rw c.room_of-room.ensures at c.min-kept.ensures in
    let i = risen-at room c.args.size c.len-held.result c.min-kept.result m.size m.pages.items c.reserve.new.self.items c.in_ok-more.more.items j c.index.result.now c.index_mut.result.now c.lengthen.new.page
    c.self.invariant.0 l c.self.invariant.1 c.reserve.ensures.items c.index.ensures held c.index_mut.ensures.value c.in_ok-lengthen.ensures.ok kept c.in_ok-more.ensures.pages c.in_ok-more.ensures.bytes (omega (arith, n, c.self.invariant.1)) in
    rw c.in_ok-append.ensures.items (i.0, sym (ap (λ bs. length bs) i.1 ∙ omega (arith, n, length-append (joined m.pages.items) (zeros (c.args.size - length (joined m.pages.items))), length-zeros (c.args.size - length (joined m.pages.items)))))

pub returns-clause-ok : goal.returns-clause-ok
returns-clause-ok c =
    let m = c.self.inside in
    let l = last (goal.at.returns-clause-ok c).After-room_of-room in
    let j = c.len-count.result - 1 in
    let n = rw (← c.self.view_is) at c.requires in
    let room = 4096 - m.start % 4096 in
    let held = c.len-held.ensures ∙ c.index.result.now.bytes.ok.0 in
    let kept = rw c.room_of-room.ensures at c.min-kept.ensures in
    let i = risen-at room c.args.size c.len-held.result c.min-kept.result m.size m.pages.items c.reserve.new.self.items c.in_ok-more.more.items j c.index.result.now c.index_mut.result.now c.lengthen.new.page
    c.self.invariant.0 l c.self.invariant.1 c.reserve.ensures.items c.index.ensures held c.index_mut.ensures.value c.in_ok-lengthen.ensures.ok kept c.in_ok-more.ensures.pages c.in_ok-more.ensures.bytes (omega (arith, n, c.self.invariant.1)) in
    rw (← c.self.view_is) (ap (λ bs. let r : Region = record { start = m.start; perms = m.perms; bytes = bs } in r) (ap joined c.in_ok-append.ensures.items ∙ i.1))
