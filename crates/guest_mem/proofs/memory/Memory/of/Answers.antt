use Rattle.std.proofs.Common.{◌≡◌, List, [], ◌∷◌, ◌++◌, take, map, ◌∙◌, ap, append_assoc}
use Rattle.std.proofs.lemmas.List.{take_all}
use Rattle.elf_read.specs.declared.exe.Reach.TheVariants.{Guest}
use Rattle.elf_read.specs.Elf.{lowest}
use Rattle.br_word.specs.Memory.{Region}
use Rattle.elf_read.specs.Regions.{region_of, stack_region, heap_region}
use Rattle.guest_mem.proofs.Heaps.{segment-room, HasHeap-opening}
use Rattle.guest_mem.proofs.Apart.{room-opening}
use Rattle.guest_mem.proofs.memory.Memory.of.Goals as goal

pub segment-requires : goal.segment-requires
segment-requires c =
    segment-room (lowest Guest) c.as_slice-segment-items.result.now c.loop-segment.segment-index c.segment-item.result
    (rw c.as_slice-segment-items.ensures c.requires.guest.segments) c.loop-segment-test.true c.segment-item.is

opened : (segments two all ss : List Region) (s h t k : Region) → two ≡ segments ++ s ∷ [] → all ≡ two ++ h ∷ [] → segments ≡ ss → s ≡ t → h ≡ k → all ≡ ss ++ (t ∷ k ∷ [])
opened segments two all ss s h t k a b c d e = cc (append_assoc segments (s ∷ []) (h ∷ []))

pub invariant_of-result : goal.invariant_of-result
invariant_of-result c =
    let ss = c.as_slice-segment-items.result.now in
    let whole : take c.loop-segment.segment-index ss ≡ ss = take_all c.loop-segment.segment-index ss c.loop-segment-test.false in
    let e = opened c.loop-segment.areas.items c.push-2.new.self.items c.push-3.new.self.items (map region_of c.args.exe.now.segments) c.in_ok-stack.field-0 c.heap.result (stack_region c.args.top.now) (heap_region c.args.exe.now.brk_start)
    c.in_ok-push-2.ensures.items c.in_ok-push-3.ensures.items (c.loop-segment.invariant ∙ ap (map region_of) (whole ∙ c.as_slice-segment-items.ensures)) c.in_ok-stack.ensures c.heap.ensures in
    rw e (HasHeap-opening c.args.exe.now c.args.top.now c.requires.guest, room-opening c.args.exe.now c.args.top.now c.requires.guest c.requires.room)
