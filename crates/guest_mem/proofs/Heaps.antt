-- The heap is the last region.
use Rattle.std.proofs.Common.{◌≡◌, ◌≢◌, ℕ, zero, suc, ◌+◌, ◌-◌, ◌<◌, ◌≤◌, Bool, true, false, List, [], ◌∷◌, ◌++◌, length, take, get_or, set, ◌/◌, ◌*◌, refl, sym, ◌∙◌, ap, subst, arith, length-set, length-append}
use Rattle.std.specs.Prelude.{map, nat_eq, if◌then◌else◌}
use Rattle.std.proofs.lemmas.Bool.Decides.{nat_tests}
use Rattle.br_word.specs.Memory.{Region, resized, zeros}
use Rattle.elf_read.specs.declared.exe.Segment.{Segment}
use Rattle.elf_read.specs.declared.exe.Exe.{Exe}
use Rattle.elf_read.specs.Elf.{AreSegments, Ascend, end_of_last, IsGuest}
use Rattle.elf_read.specs.Regions.{region_of, stack_region, heap_region, opening_regions}
use Rattle.guest_mem.specs.View.{in_reach}
use Rattle.guest_mem.proofs.Numbers.{length-cut}
use Rattle.guest_mem.specs.Layout.{IsHeapLast, HasSize, HasHeap}

pub not_equal : (n m : ℕ) → n ≢ m → nat_eq n m ≡ false
not_equal n m h = grind (arith, nat_tests)

pub equal : (n m : ℕ) → n ≡ m → nat_eq n m ≡ true
equal n m h = grind (arith, nat_tests)

-- only the last region is cut or filled up
pub map-resized : (start size : ℕ) (rs : List Region) (i : ℕ) (r : Region) → IsHeapLast start rs → i + 1 ≡ length rs → r ≡ get_or rs i r → map (resized start size) rs ≡ set rs i (record r { bytes = take size (r.bytes ++ zeros size) })
map-resized start size [] i r h e g = absurd (omega arith)
map-resized start size (s ∷ []) zero r h e g =
    ap (λ b. (if b then record s { bytes = take size (s.bytes ++ zeros size) } else s) ∷ []) (h.0 ∙ refl)
    ∙ ap (λ (t : Region). record t { bytes = take size (t.bytes ++ zeros size) } ∷ []) (sym g)
map-resized start size (s ∷ []) (suc i) r h e g = absurd (omega arith)
map-resized start size (s ∷ t ∷ rs) zero r h e g = absurd (omega arith)
map-resized start size (s ∷ t ∷ rs) (suc i) r h e g =
    ap (λ b. (if b then record s { bytes = take size (s.bytes ++ zeros size) } else s) ∷ map (resized start size) (t ∷ rs)) (h.0 ∙ not_equal (suc (length rs)) 0 (omega arith))
    ∙ ap (λ l. s ∷ l) (map-resized start size (t ∷ rs) i r h.1 (omega arith) g)

-- a region changes and stays where it is
IsHeapLast-set : (start : ℕ) (rs : List Region) (i : ℕ) (r x : Region) → IsHeapLast start rs → r ≡ get_or rs i r → x.start ≡ r.start → IsHeapLast start (set rs i x)
IsHeapLast-set start [] i r x h g e = tt
IsHeapLast-set start (s ∷ rs) zero r x h g e = (ap (λ n. nat_eq n start) (e ∙ ap (λ (t : Region). t.start) g) ∙ h.0, h.1)
IsHeapLast-set start (s ∷ rs) (suc i) r x h g e =
    (h.0 ∙ ap (λ n. nat_eq n 0) (sym (length-set rs i x)), IsHeapLast-set start rs i r x h.1 g e)

HasSize-set : (start size : ℕ) (rs : List Region) (i : ℕ) (r x : Region) → HasSize start size rs → r ≡ get_or rs i r → x.start ≡ r.start → length x.bytes ≡ length r.bytes → HasSize start size (set rs i x)
HasSize-set start size [] i r x h g e l = tt
HasSize-set start size (s ∷ rs) zero r x h g e l =
    (λ k. l ∙ (ap (λ (t : Region). length t.bytes) g ∙ h.0 (sym (ap (λ (t : Region). t.start) g) ∙ (sym e ∙ k))), h.1)
HasSize-set start size (s ∷ rs) (suc i) r x h g e l = (h.0, HasSize-set start size rs i r x h.1 g e l)

HasSize-resized : (start size : ℕ) (rs : List Region) → HasSize start size (map (resized start size) rs)
HasSize-resized start size [] = tt
HasSize-resized start size (r ∷ rs) = (go (nat_eq r.start start) refl, HasSize-resized start size rs)
  where
    go : (b : Bool) → nat_eq r.start start ≡ b → (if b then record r { bytes = take size (r.bytes ++ zeros size) } else r).start ≡ start → length (if b then record r { bytes = take size (r.bytes ++ zeros size) } else r).bytes ≡ size
    go true e k = length-cut size r.bytes
    go false e k = absurd (grind (arith, nat_tests))

-- the last region has the heap's size
heap-size : (start size : ℕ) (rs : List Region) (i : ℕ) (r : Region) → IsHeapLast start rs → HasSize start size rs → i + 1 ≡ length rs → r ≡ get_or rs i r → length r.bytes ≡ size
heap-size start size [] i r h k e g = absurd (omega arith)
heap-size start size (s ∷ []) zero r h k e g =
    ap (λ (t : Region). length t.bytes) g ∙ k.0 (same s.start start h.0)
  where
    same : (n m : ℕ) → nat_eq n m ≡ true → n ≡ m
    same n m e = grind (arith, nat_tests)
heap-size start size (s ∷ []) (suc i) r h k e g = absurd (omega arith)
heap-size start size (s ∷ t ∷ rs) zero r h k e g = absurd (omega arith)
heap-size start size (s ∷ t ∷ rs) (suc i) r h k e g = heap-size start size (t ∷ rs) i r h.1 k.1 (omega arith) g

-- a write to a region
pub HasHeap-set : (start brk : ℕ) (rs : List Region) (i : ℕ) (r x : Region) → HasHeap start brk rs → r ≡ get_or rs i r → x.start ≡ r.start → length x.bytes ≡ length r.bytes → HasHeap start brk (set rs i x)
HasHeap-set start brk rs i r x h g e l = record {
  some = omega (arith, length-set rs i x, h.some);
  last = IsHeapLast-set start rs i r x h.last g e;
  size = HasSize-set start (brk - start) rs i r x h.size g e l;
}

-- a break that moves
pub HasHeap-resized : (start brk to : ℕ) (rs : List Region) (i : ℕ) (r x : Region) → HasHeap start brk rs → i + 1 ≡ length rs → r ≡ get_or rs i r → x ≡ record r { bytes = take (to - start) (r.bytes ++ zeros (to - start)) } → HasHeap start to (set rs i x)
HasHeap-resized start brk to rs i r x h l g e = record {
  some = omega (arith, length-set rs i x, h.some);
  last = IsHeapLast-set start rs i r x h.last g (ap (λ (t : Region). t.start) e);
  size =
      let is : map (resized start (to - start)) rs ≡ set rs i x = map-resized start (to - start) rs i r h.last l g ∙ ap (set rs i) (sym e) in
      subst (HasSize start (to - start)) is (HasSize-resized start (to - start) rs);
}

pub HasHeap-size : (start brk : ℕ) (rs : List Region) (i : ℕ) (r : Region) → HasHeap start brk rs → i + 1 ≡ length rs → r ≡ get_or rs i r → length r.bytes ≡ brk - start
HasHeap-size start brk rs i r h l g = heap-size start (brk - start) rs i r h.last h.size l g

-- each segment has room for its bytes
pub segment-room : (low : ℕ) (ss : List Segment) (i : ℕ) (s : Segment) → AreSegments low ss → i < length ss → s ≡ get_or ss i s → length s.bytes ≤ s.size
segment-room low [] i s a l e = absurd (omega arith)
segment-room low (t ∷ ss) zero s a l e = let P : Segment → Type 0 = λ u. length u.bytes ≤ u.size in subst P (sym e) a.0.bytes
segment-room low (t ∷ ss) (suc i) s a l e = segment-room low ss i s a.1 (omega arith) e

-- a segment ends at or below the end of the last one
pub below_end : (low : ℕ) (s : Segment) (ss : List Segment) → AreSegments low ss → Ascend (s.start + s.size) ss → s.start + s.size ≤ end_of_last (s ∷ ss)
below_end low s [] a o = omega arith
below_end low s (t ∷ ss) a o = omega (arith, below_end low t ss a.1 o.1, o.0, a.0.some)

pub end_of_tail : (s : Segment) (ss : List Segment) (start : ℕ) → end_of_last (s ∷ ss) ≤ start → end_of_last ss ≤ start
end_of_tail s [] start h = omega arith
end_of_tail s (t ∷ ss) start h = h

size_at_opening : (low end start : ℕ) (top : List ℕ) (ss : List Segment) → AreSegments low ss → Ascend end ss → end_of_last ss ≤ start → start < 0xBFF00000 → HasSize start 0 (map region_of ss ++ (stack_region top ∷ heap_region start ∷ []))
size_at_opening low end start top [] a o h l = (λ k. absurd (omega arith), (λ k. refl, tt))
size_at_opening low end start top (s ∷ ss) a o h l =
    let e : s.start + s.size ≤ end_of_last (s ∷ ss) = below_end low s ss a.1 o.1 in
    (λ k. absurd (omega (arith, a.0.some)), size_at_opening low (s.start + s.size) start top ss a.1 o.1 (end_of_tail s ss start h) l)

at_opening : (low end start : ℕ) (top : List ℕ) (ss : List Segment) → AreSegments low ss → Ascend end ss → end_of_last ss ≤ start → start < 0xBFF00000 → IsHeapLast start (map region_of ss ++ (stack_region top ∷ heap_region start ∷ []))
at_opening low end start top [] a o h l = (not_equal 0xBFF00000 start (omega arith), (equal start start refl, tt))
at_opening low end start top (s ∷ []) a o h l =
    (not_equal s.start start (omega (arith, a.0.some)), (not_equal 0xBFF00000 start (omega arith), (equal start start refl, tt)))
at_opening low end start top (s ∷ t ∷ ss) a o h l =
    let e : s.start + s.size ≤ end_of_last (s ∷ t ∷ ss) = below_end low s (t ∷ ss) a.1 o.1 in
    (not_equal s.start start (omega (arith, a.0.some)) ∙ sym (not_equal (length (map region_of (t ∷ ss) ++ (stack_region top ∷ heap_region start ∷ []))) 0 (omega arith)), at_opening low (s.start + s.size) start top (t ∷ ss) a.1 o.1 h l)

pub end_high : (low : ℕ) (ss : List Segment) → AreSegments low ss → end_of_last ss ≤ 0xA0000000
end_high low [] a = omega arith
end_high low (s ∷ []) a = a.0.high
end_high low (s ∷ t ∷ ss) a = end_high low (t ∷ ss) a.1

-- the regions at the opening
pub HasHeap-opening : (exe : Exe) (top : List ℕ) → IsGuest exe → HasHeap exe.brk_start exe.brk_start (opening_regions exe top)
HasHeap-opening exe top g =
    let start = exe.brk_start in
    let high : end_of_last exe.segments ≤ 0xA0000000 = end_high _ exe.segments g.segments in
    let e : start ≡ (end_of_last exe.segments + 4095) / 4096 * 4096 = g.brk in
    let none : start - start ≡ 0 = omega arith in
    record {
      some = omega (arith, length-append (map region_of exe.segments) (stack_region top ∷ heap_region start ∷ []));
      last = at_opening _ 0 start top exe.segments g.segments g.order (omega arith) (omega arith);
      size = subst (λ n. HasSize start n (opening_regions exe top)) (sym none) (size_at_opening _ 0 start top exe.segments g.segments g.order (omega arith) (omega arith));
    }

pub in_reach-true : (start to : ℕ) → start ≤ to → to ≤ start + 67108864 → in_reach start to ≡ true
in_reach-true start to l h = grind (arith, nat_tests)
