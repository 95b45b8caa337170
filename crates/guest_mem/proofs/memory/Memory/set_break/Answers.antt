use Rattle.std.proofs.Common.{◌≡◌, ℕ, ◌+◌, ◌-◌, ◌<◌, Result, Ok, Err, length, set, map, sym, ◌∙◌, ap, arith}
use Rattle.std.specs.Prelude.{if◌then◌else◌, OnErr}
use Rattle.std.specs.declared.alloc.AllocError.{AllocError}
use Rattle.br_word.specs.Memory.{resized}
use Rattle.guest_mem.specs.View.{MemoryView}
use Rattle.guest_mem.proofs.Heaps.{HasHeap-resized, HasHeap-size, map-resized, in_reach-true}
use Rattle.guest_mem.proofs.Apart.{room-resized}
use Rattle.guest_mem.proofs.memory.Memory.set_break.Goals as goal

pub invariant_of-self-2 : goal.invariant_of-self-2
invariant_of-self-2 c =
    let i = c.len-heap.result - 1 in
    let last : i + 1 ≡ length c.self.inside.areas.items = omega (arith, c.len-heap.ensures, c.self.inside.areas.ok.0, c.self.invariant.0.some) in (
      HasHeap-resized c.self.inside.brk_start c.self.inside.brk c.args.to c.self.inside.areas.items i c.index_mut.result.now c.resize.new.self c.self.invariant.0 last c.index_mut.ensures.value c.in_ok-resize.ensures.ok,
      room-resized c.self.inside.brk_start (c.args.to - c.self.inside.brk_start) c.self.inside.areas.items i c.index_mut.result.now c.resize.new.self c.self.invariant.0.last c.self.invariant.1 last c.index_mut.ensures.value (omega arith) c.in_ok-resize.ensures.ok,
    )

pub returns-clause-ok : goal.returns-clause-ok
returns-clause-ok c =
    let i = c.len-heap.result - 1 in
    let start = c.self.inside.brk_start in
    let rs = c.self.inside.areas.items in
    let to = c.args.to in
    let m : MemoryView = record { regions = rs; brk_start = start; brk = c.self.inside.brk } in
    let last : i + 1 ≡ length rs = omega (arith, c.len-heap.ensures, c.self.inside.areas.ok.0, c.self.invariant.0.some) in
    rw (← c.self.view_is)
    (ap (λ x. let n : MemoryView = record { regions = set rs i x; brk_start = start; brk = to } in n) c.in_ok-resize.ensures.ok
    ∙ (ap (λ x. let n : MemoryView = record { regions = x; brk_start = start; brk = to } in n) (sym (map-resized start (to - start) rs i c.index_mut.result.now c.self.invariant.0.last last c.index_mut.ensures.value))
    ∙ sym (ap (λ b. if b then record m { brk = to; regions = map (resized start (to - start)) rs } else m) (in_reach-true start to (omega arith) (omega arith)))))

on_err : (r : Result ℕ AllocError) (P : Type 0) → P → OnErr r P
on_err (Ok n) P h = tt
on_err (Err e) P h = h

pub returns-in_err-resize-clause-rises : goal.returns-in_err-resize-clause-rises
returns-in_err-resize-clause-rises c =
    let i = c.len-heap.result - 1 in
    let m = c.self.inside in
    let last : i + 1 ≡ length m.areas.items = omega (arith, c.len-heap.ensures, m.areas.ok.0, c.self.invariant.0.some) in
    let size = HasHeap-size m.brk_start m.brk m.areas.items i c.index_mut.result.now c.self.invariant.0 last c.index_mut.ensures.value in
    let same = ap (λ (v : MemoryView). v.brk) c.self.view_is in
    on_err c.from_residual.result (c.args.self.now.brk < c.args.to) (omega (arith, size, same, c.in_err-resize.ensures.grows))
