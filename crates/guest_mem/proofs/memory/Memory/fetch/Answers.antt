use Rattle.std.proofs.Common.{◌-◌, ◌++◌, length, take, drop, sym, ◌∙◌, ap, refl, arith, length-take}
use Rattle.br_word.specs.Memory.{Runs}
use Rattle.guest_mem.specs.View.{fetched}
use Rattle.guest_mem.proofs.Places.{covers-place, covers-bounds, covers-within, bytes_at-None, bytes_at-Some}
use Rattle.guest_mem.proofs.Numbers.{length-fetched, take-fetched}
use Rattle.guest_mem.proofs.memory.Memory.fetch.Goals as goal

pub left-requires : goal.left-requires
left-requires c =
    covers-place Runs c.args.at 1 c.self.inside.areas.items c.in-Some.place c.index-area.result.now
    (rw (← c.self.view_is) at (sym c.code_place.ensures ∙ c.in-Some.is)) c.index-area.ensures

pub copy_out-requires-clause-inside : goal.copy_out-requires-clause-inside
copy_out-requires-clause-inside c =
    let r = c.index-area.result.now in
    let held = covers-place Runs c.args.at 1 c.self.inside.areas.items c.in-Some.place r
    (rw (← c.self.view_is) at (sym c.code_place.ensures ∙ c.in-Some.is)) c.index-area.ensures in
    let bounds = covers-bounds r c.args.at 1 held in
    covers-within r c.args.at 1 (length (take c.min-count.result c.args.into.now)) held
    (omega (arith, bounds, length-take c.min-count.result c.args.into.now, c.min-count.ensures, c.left.ensures))

pub returns-in-None-clause-count : goal.returns-in-None-clause-count
returns-in-None-clause-count c =
    sym (ap (λ o. length (fetched o)) (bytes_at-None Runs c.args.at 1 c.args.self.now.regions (sym c.code_place.ensures ∙ c.in-None.is)))

pub returns-in-None-clause-bytes : goal.returns-in-None-clause-bytes
returns-in-None-clause-bytes c =
    sym (ap (λ o. fetched o ++ c.args.into.now) (bytes_at-None Runs c.args.at 1 c.args.self.now.regions (sym c.code_place.ensures ∙ c.in-None.is)))

pub returns-in-None-clause-none : goal.returns-in-None-clause-none
returns-in-None-clause-none c =
    (λ _. bytes_at-None Runs c.args.at 1 c.args.self.now.regions (sym c.code_place.ensures ∙ c.in-None.is), λ _. refl)

pub returns-in-Some-clause-count : goal.returns-in-Some-clause-count
returns-in-Some-clause-count c =
    let r = c.index-area.result.now in
    let e = bytes_at-Some Runs c.args.at 1 c.self.inside.areas.items c.in-Some.place r
    (rw (← c.self.view_is) at (sym c.code_place.ensures ∙ c.in-Some.is)) c.index-area.ensures in
    rw (← c.self.view_is)
    (length-fetched r.bytes (c.args.at - r.start) c.left.result c.min-count.result c.left.ensures c.min-count.ensures ∙ sym (ap (λ o. length (fetched o)) e))

pub returns-in-Some-clause-bytes : goal.returns-in-Some-clause-bytes
returns-in-Some-clause-bytes c =
    let r = c.index-area.result.now in
    let e = bytes_at-Some Runs c.args.at 1 c.self.inside.areas.items c.in-Some.place r
    (rw (← c.self.view_is) at (sym c.code_place.ensures ∙ c.in-Some.is)) c.index-area.ensures in
    rw (← c.self.view_is)
    (ap (λ s. s ++ drop c.min-count.result c.args.into.now)
    (c.copy_out.ensures
    ∙ (take-fetched r.bytes c.args.into.now (c.args.at - r.start) c.left.result c.min-count.result c.left.ensures c.min-count.ensures c.told-into
    ∙ sym (ap fetched e))))

pub returns-in-Some-clause-none : goal.returns-in-Some-clause-none
returns-in-Some-clause-none c =
    let r = c.index-area.result.now in
    let known = rw (← c.self.view_is) at (sym c.code_place.ensures ∙ c.in-Some.is) in
    let bounds = covers-bounds r c.args.at 1 (covers-place Runs c.args.at 1 c.self.inside.areas.items c.in-Some.place r known c.index-area.ensures) in
    let e = bytes_at-Some Runs c.args.at 1 c.self.inside.areas.items c.in-Some.place r known c.index-area.ensures in
    rw (← c.self.view_is)
    (λ z. absurd (omega (arith, bounds, z, c.min-count.ensures, c.left.ensures)), λ n. absurd (let f = sym e ∙ n in cc))
