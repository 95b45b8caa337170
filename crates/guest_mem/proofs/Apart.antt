-- The regions of a guest lie apart.
use Rattle.std.proofs.Common.{◌≡◌, inl, inr, ℕ, zero, suc, ◌+◌, ◌-◌, ◌*◌, ◌/◌, ◌≤◌, ◌<◌, true, List, [], ◌∷◌, ◌++◌, length, take, get_or, set, map, refl, sym, ◌∙◌, ap, subst, arith, length-append}
use Rattle.std.specs.Prelude.{nat_eq, if◌then◌else◌}
use Rattle.br_word.specs.Memory.{Region, zeros}
use Rattle.elf_read.specs.declared.exe.Segment.{Segment}
use Rattle.elf_read.specs.declared.exe.Exe.{Exe}
use Rattle.elf_read.specs.Elf.{AreSegments, Ascend, end_of_last, IsGuest}
use Rattle.elf_read.specs.Regions.{region_of, stack_with, stack_region, heap_region, opening_regions}
use Rattle.guest_mem.specs.Layout.{IsHeapLast, Range, IsApartFrom, LieApart, range, extent, reach, AreWithin, HaveRoom}
use Rattle.guest_mem.proofs.Numbers.{length-zeros, length-cut}
use Rattle.guest_mem.proofs.Heaps.{not_equal, equal, below_end, end_of_tail, end_high}

-- ---- a region changes

-- what a region may come to have depends on its start and its length alone
extent-same : (start : ℕ) (r x : Region) → x.start ≡ r.start → length x.bytes ≡ length r.bytes → extent start x ≡ extent start r
extent-same start r x e l =
    ap (λ n. if nat_eq n start then 67108864 else length x.bytes) e ∙ ap (λ n. if nat_eq r.start start then 67108864 else n) l

reach-same : (start : ℕ) (r x : Region) → x.start ≡ r.start → extent start x ≡ extent start r → reach start x ≡ reach start r
reach-same start r x e l = ap (λ n. (let p : Range = (n, extent start x) in p)) e ∙ ap (λ n. (let p : Range = (r.start, n) in p)) l

reaches-set : (start : ℕ) (rs : List Region) (i : ℕ) (r x : Region) → r ≡ get_or rs i r → reach start x ≡ reach start r → map (reach start) (set rs i x) ≡ map (reach start) rs
reaches-set start [] i r x g e = refl
reaches-set start (s ∷ rs) zero r x g e = ap (λ p. p ∷ map (reach start) rs) (e ∙ ap (reach start) g)
reaches-set start (s ∷ rs) (suc i) r x g e = ap (λ ps. reach start s ∷ ps) (reaches-set start rs i r x g e)

fits-set : (start : ℕ) (rs : List Region) (i : ℕ) (x : Region) → AreWithin start rs → length x.bytes ≤ extent start x → AreWithin start (set rs i x)
fits-set start [] i x h l = tt
fits-set start (s ∷ rs) zero x h l = (l, h.1)
fits-set start (s ∷ rs) (suc i) x h l = (h.0, fits-set start rs i x h.1 l)

fits-same : (start : ℕ) (rs : List Region) (i : ℕ) (r x : Region) → AreWithin start rs → r ≡ get_or rs i r → length x.bytes ≡ length r.bytes → extent start x ≡ extent start r
    → AreWithin start (set rs i x)
fits-same start [] i r x h g l e = tt
fits-same start (s ∷ rs) zero r x h g l e =
    let P : Region → Type 0 = λ r. length r.bytes ≤ extent start r in
    let now : length r.bytes ≤ extent start r = subst P (sym g) h.0 in
    (omega (arith, now, l, e), h.1)
fits-same start (s ∷ rs) (suc i) r x h g l e = (h.0, fits-same start rs i r x h.1 g l e)

-- a region keeps where it lies and how far it may grow
pub room-kept : (start : ℕ) (rs : List Region) (i : ℕ) (r x : Region) → HaveRoom start rs → r ≡ get_or rs i r → x.start ≡ r.start → extent start x ≡ extent start r → length x.bytes ≤ extent start x → HaveRoom start (set rs i x)
room-kept start rs i r x h g e l f = record {
  apart = subst LieApart (sym (reaches-set start rs i r x g (reach-same start r x e l))) h.apart;
  fits = fits-set start rs i x h.fits f;
}

-- a write to a region
pub room-set : (start : ℕ) (rs : List Region) (i : ℕ) (r x : Region) → HaveRoom start rs → r ≡ get_or rs i r → x.start ≡ r.start → length x.bytes ≡ length r.bytes → HaveRoom start (set rs i x)
room-set start rs i r x h g e l =
    let same : extent start x ≡ extent start r = extent-same start r x e l in
    record {
      apart = subst LieApart (sym (reaches-set start rs i r x g (reach-same start r x e same))) h.apart;
      fits = fits-same start rs i r x h.fits g l same;
    }

-- the last region starts where the heap does
heap-start : (start : ℕ) (rs : List Region) (i : ℕ) (r : Region) → IsHeapLast start rs → i + 1 ≡ length rs → r ≡ get_or rs i r → nat_eq r.start start ≡ true
heap-start start [] i r h e g = absurd (omega arith)
heap-start start (s ∷ []) zero r h e g = ap (λ (t : Region). nat_eq t.start start) g ∙ h.0
heap-start start (s ∷ []) (suc i) r h e g = absurd (omega arith)
heap-start start (s ∷ t ∷ rs) zero r h e g = absurd (omega arith)
heap-start start (s ∷ t ∷ rs) (suc i) r h e g = heap-start start (t ∷ rs) i r h.1 (omega arith) g

-- a break that moves
pub room-resized : (start size : ℕ) (rs : List Region) (i : ℕ) (r x : Region) → IsHeapLast start rs → HaveRoom start rs → i + 1 ≡ length rs → r ≡ get_or rs i r → size ≤ 67108864
    → x ≡ record r { bytes = take size (r.bytes ++ zeros size) } → HaveRoom start (set rs i x)
room-resized start size rs i r x heap h l g most e =
    let starts : nat_eq r.start start ≡ true = heap-start start rs i r heap l g in
    let same : x.start ≡ r.start = ap (λ (t : Region). t.start) e in
    let now : extent start x ≡ 67108864 = ap (λ n. if nat_eq n start then 67108864 else length x.bytes) same ∙ ap (λ b. if b then 67108864 else length x.bytes) starts in
    let old : extent start r ≡ 67108864 = ap (λ b. if b then 67108864 else length r.bytes) starts in
    let size_is : length x.bytes ≡ size = ap (λ (t : Region). length t.bytes) e ∙ length-cut size r.bytes in
    room-kept start rs i r x h g same (now ∙ sym old) (omega (arith, now, size_is, most))

-- ---- the opening

abbrev segment_range : Segment → Range
segment_range s = (s.start, s.size)

abbrev stack_range : Range
stack_range = (0xBFF00000, 1048576)

-- the heap and the stack behind the segments
abbrev ranges_of : ℕ → List Segment → List Range
ranges_of start ss = map segment_range ss ++ (stack_range ∷ (start, 67108864) ∷ [])

other : (start : ℕ) (r : Region) → (r.start ≡ start → ⊥) → extent start r ≡ length r.bytes
other start r h = ap (λ b. if b then 67108864 else length r.bytes) (not_equal r.start start h)

length-region : (s : Segment) → length s.bytes ≤ s.size → length (region_of s).bytes ≡ s.size
length-region s h = omega (arith, h, length-append s.bytes (zeros (s.size - length s.bytes)), length-zeros (s.size - length s.bytes))

length-stack : (top : List ℕ) → length top ≤ 1048576 → length (stack_with top) ≡ 1048576
unfolding stack_with
length-stack top h = omega (arith, h, length-append (zeros (1048576 - length top)) top, length-zeros (1048576 - length top))

same_range : (a b n : ℕ) → a ≡ b → (let p : Range = (n, a) in p) ≡ (n, b)
same_range a b n e = ap (λ k. (let p : Range = (n, k) in p)) e

-- where the regions of the opening lie
opening-ranges : (low end start : ℕ) (top : List ℕ) (ss : List Segment) → AreSegments low ss → Ascend end ss → end_of_last ss ≤ start → start < 0xBFF00000 → length top ≤ 1048576
    → map (reach start) (map region_of ss ++ (stack_region top ∷ heap_region start ∷ [])) ≡ ranges_of start ss
opening-ranges low end start top [] a o h l t =
    ap (λ p. p ∷ reach start (heap_region start) ∷ []) (same_range _ _ 0xBFF00000 (other start (stack_region top) (λ e. absurd (omega (arith, l))) ∙ length-stack top t))
    ∙ ap (λ p. stack_range ∷ p ∷ []) (same_range _ _ start (ap (λ b. if b then 67108864 else 0) (equal start start refl)))
opening-ranges low end start top (s ∷ ss) a o h l t =
    let e : s.start + s.size ≤ end_of_last (s ∷ ss) = below_end low s ss a.1 o.1 in
    let away : s.start ≡ start → ⊥ = λ k. absurd (omega (arith, a.0.some, e, h)) in
    ap (λ p. p ∷ map (reach start) (map region_of ss ++ (stack_region top ∷ heap_region start ∷ []))) (same_range _ _ s.start (other start (region_of s) away ∙ length-region s a.0.bytes))
    ∙ ap (λ ps. segment_range s ∷ ps) (opening-ranges low (s.start + s.size) start top ss a.1 o.1 (end_of_tail s ss start h) l t)

opening-fits : (low end start : ℕ) (top : List ℕ) (ss : List Segment) → AreSegments low ss → Ascend end ss → end_of_last ss ≤ start → start < 0xBFF00000
    → AreWithin start (map region_of ss ++ (stack_region top ∷ heap_region start ∷ []))
opening-fits low end start top [] a o h l = (omega (arith, other start (stack_region top) (λ e. absurd (omega (arith, l)))), (omega arith, tt))
opening-fits low end start top (s ∷ ss) a o h l =
    let e : s.start + s.size ≤ end_of_last (s ∷ ss) = below_end low s ss a.1 o.1 in
    (omega (arith, other start (region_of s) (λ k. absurd (omega (arith, a.0.some, e, h)))), opening-fits low (s.start + s.size) start top ss a.1 o.1 (end_of_tail s ss start h) l)

-- what ends at or before the first segment is apart from all that follow
before-all : (low end start : ℕ) (p : Range) (ss : List Segment) → Ascend end ss → AreSegments low ss → p.0 + p.1 ≤ end → p.0 + p.1 ≤ start → start < 0xBFF00000 → IsApartFrom p (ranges_of start ss)
before-all low end start p [] o a e f l = (inl (omega (arith, f, l)), (inl f, tt))
before-all low end start p (s ∷ ss) o a e f l = (inl (omega (arith, e, o.0)), before-all low (s.start + s.size) start p ss o.1 a.1 (omega (arith, e, o.0)) f l)

ranges-apart : (low end start : ℕ) (ss : List Segment) → AreSegments low ss → Ascend end ss → end_of_last ss ≤ start → start ≤ 0xA0000000 → LieApart (ranges_of start ss)
ranges-apart low end start [] a o h l = (omega arith, (inr (omega (arith, l)), tt), (omega (arith, l), tt, tt))
ranges-apart low end start (s ∷ ss) a o h l =
    let e : s.start + s.size ≤ end_of_last (s ∷ ss) = below_end low s ss a.1 o.1 in (
      omega (arith, a.0.high),
      before-all low (s.start + s.size) start (segment_range s) ss o.1 a.1 (omega arith) (omega (arith, e, h)) (omega (arith, l)),
      ranges-apart low (s.start + s.size) start ss a.1 o.1 (end_of_tail s ss start h) l,
    )

pub room-opening : (exe : Exe) (top : List ℕ) → IsGuest exe → length top ≤ 1048576 → HaveRoom exe.brk_start (opening_regions exe top)
room-opening exe top g t =
    let start = exe.brk_start in
    let high : end_of_last exe.segments ≤ 0xA0000000 = end_high _ exe.segments g.segments in
    let e : start ≡ (end_of_last exe.segments + 4095) / 4096 * 4096 = g.brk in
    let most : start ≤ 0xA0000000 = omega arith in
    let least : end_of_last exe.segments ≤ start = omega arith in
    record {
      apart = subst LieApart (sym (opening-ranges _ 0 start top exe.segments g.segments g.order least (omega arith) t)) (ranges-apart _ 0 start exe.segments g.segments g.order least most);
      fits = opening-fits _ 0 start top exe.segments g.segments g.order least (omega arith);
    }

-- ---- the regions as they are

apart-now : (start : ℕ) (r : Region) (rs : List Region) → IsApartFrom (reach start r) (map (reach start) rs) → length r.bytes ≤ extent start r → AreWithin start rs → IsApartFrom (range r) (map range rs)
apart-now start r [] h l f = tt
apart-now start r (s ∷ rs) (inl a, h) l f = (inl (omega (arith, a, l)), apart-now start r rs h l f.1)
apart-now start r (s ∷ rs) (inr a, h) l f = (inr (omega (arith, a, f.0)), apart-now start r rs h l f.1)

all-apart-now : (start : ℕ) (rs : List Region) → LieApart (map (reach start) rs) → AreWithin start rs → LieApart (map range rs)
all-apart-now start [] h f = tt
all-apart-now start (r ∷ rs) h f = (omega (arith, h.0, f.0), apart-now start r rs h.1 f.0 f.1, all-apart-now start rs h.2 f.1)

pub lie-apart : (start : ℕ) (rs : List Region) → HaveRoom start rs → LieApart (map range rs)
lie-apart start rs h = all-apart-now start rs h.apart h.fits
