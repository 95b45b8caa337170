use Rattle.std.proofs.Common.{sym, ◌∙◌, ap, length, set, ◌-◌, arith}
use Rattle.std.specs.Prelude.{is_some}
use Rattle.br_word.specs.Memory.{Writes, Region}
use Rattle.guest_mem.specs.View.{MemoryView, with_regions}
use Rattle.guest_mem.proofs.Places.{covers-place, covers-bounds, written-None, written-Some}
use Rattle.guest_mem.proofs.Heaps.{HasHeap-set}
use Rattle.guest_mem.proofs.Apart.{room-set}
use Rattle.guest_mem.proofs.Numbers.{length-put_over}
use Rattle.guest_mem.proofs.memory.Memory.write.Goals as goal

pub copy_in-requires-clause-inside : goal.copy_in-requires-clause-inside
copy_in-requires-clause-inside c =
    covers-place Writes c.args.at (length c.args.from.now) c.self.inside.areas.items c.in-Some.place c.index_mut.result.now
    (rw (← c.self.view_is) at (sym c.write_place.ensures ∙ c.in-Some.is)) c.index_mut.ensures.value

pub invariant_of-self : goal.invariant_of-self
invariant_of-self c =
    let r = c.index_mut.result.now in
    let bounds = covers-bounds r c.args.at (length c.args.from.now) (covers-place Writes c.args.at (length c.args.from.now) c.self.inside.areas.items c.in-Some.place r
    (rw (← c.self.view_is) at (sym c.write_place.ensures ∙ c.in-Some.is)) c.index_mut.ensures.value) in
    let starts = ap (λ (s : Region). s.start) c.copy_in.ensures in
    let long = ap (λ (s : Region). length s.bytes) c.copy_in.ensures ∙ length-put_over r.bytes c.args.from.now (c.args.at - r.start) (omega (arith, bounds)) in (
      HasHeap-set c.self.inside.brk_start c.self.inside.brk c.self.inside.areas.items c.in-Some.place r c.copy_in.new.self c.self.invariant.0 c.index_mut.ensures.value starts long,
      room-set c.self.inside.brk_start c.self.inside.areas.items c.in-Some.place r c.copy_in.new.self c.self.invariant.1 c.index_mut.ensures.value starts long,
    )

pub returns-in-None-clause-allowed : goal.returns-in-None-clause-allowed
returns-in-None-clause-allowed c =
    sym (ap is_some (written-None c.args.at c.args.from.now c.args.self.now.regions (sym c.write_place.ensures ∙ c.in-None.is)))

pub returns-in-None-clause-after : goal.returns-in-None-clause-after
returns-in-None-clause-after c =
    sym (ap (λ o. with_regions o c.args.self.now) (written-None c.args.at c.args.from.now c.args.self.now.regions (sym c.write_place.ensures ∙ c.in-None.is)))

pub returns-in-Some-clause-allowed : goal.returns-in-Some-clause-allowed
returns-in-Some-clause-allowed c =
    rw (← c.self.view_is)
    (sym (ap is_some (written-Some c.args.at c.args.from.now c.self.inside.areas.items c.in-Some.place c.index_mut.result.now
    (rw (← c.self.view_is) at (sym c.write_place.ensures ∙ c.in-Some.is)) c.index_mut.ensures.value)))

pub returns-in-Some-clause-after : goal.returns-in-Some-clause-after
returns-in-Some-clause-after c =
    let m : MemoryView = record { regions = c.self.inside.areas.items; brk_start = c.self.inside.brk_start; brk = c.self.inside.brk } in
    rw (← c.self.view_is)
    (ap (λ x. record m { regions = set c.self.inside.areas.items c.in-Some.place x }) c.copy_in.ensures
    ∙ sym (ap (λ o. with_regions o m) (written-Some c.args.at c.args.from.now c.self.inside.areas.items c.in-Some.place c.index_mut.result.now
    (rw (← c.self.view_is) at (sym c.write_place.ensures ∙ c.in-Some.is)) c.index_mut.ensures.value)))
