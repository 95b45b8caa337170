-- Segments: the last of them, and their bytes.
use Rattle.std.proofs.Common.{◌≡◌, ℕ, zero, suc, ◌+◌, ◌-◌, ◌<◌, ◌≤◌, true, ◌&&◌, List, [], ◌∷◌, ◌++◌, length, take, drop, map, get_or, refl, sym, ap, ◌∙◌, arith, append_assoc, length-append}
use Rattle.std.proofs.Math.ListN.{set}
use Rattle.std.proofs.Math.Seq.{drop-cons}
use Rattle.std.proofs.lemmas.List.{length-take-le, drop_more, set_at, take_more, get_or-drop}
use Rattle.std.specs.Prelude.{if◌then◌else◌}
use Rattle.br_word.specs.Memory.{zeros}
use Rattle.elf_read.specs.declared.exe.Segment.{Segment}
use Rattle.elf_read.specs.declared.header.Header.{Header}
use Rattle.elf_read.specs.declared.limits.TheConstants.{HIGHEST_END}
use Rattle.elf_read.specs.Elf.{AreSegments, in_segment, end_of_last}
use Rattle.elf_read.specs.Code.{segment_bytes, code_at}
use Rattle.elf_read.proofs.Numbers.{length_zeros}

pub last_is : (i : ℕ) (ss : List Segment) (s : Segment) → length ss ≡ i + 1 → s ≡ get_or ss i s → end_of_last ss ≡ s.start + s.size
last_is i [] s h e = absurd (omega arith)
last_is zero (t ∷ []) s h e = ap (λ x. x.start + x.size) (sym e)
last_is (suc i) (t ∷ []) s h e = absurd (omega arith)
last_is zero (t ∷ u ∷ rest) s h e = absurd (omega arith)
last_is (suc i) (t ∷ u ∷ rest) s h e = last_is i (u ∷ rest) s (omega arith) e

pub next_is : (i : ℕ) (ss : List Segment) (s : Segment) → i < length ss → s ≡ get_or ss i s → drop i ss ≡ s ∷ drop (i + 1) ss
next_is i ss s h e =
    let n : suc i ≡ i + 1 = omega arith in
    drop-cons ss i s h ∙ ap (λ x. x ∷ drop (suc i) ss) (sym e) ∙ ap (λ n. s ∷ drop n ss) n

pub last_bound : (low : ℕ) (ss : List Segment) → AreSegments low ss → end_of_last ss ≤ HIGHEST_END
last_bound low [] h = omega arith
last_bound low (s ∷ []) h = h.0.high
last_bound low (s ∷ t ∷ ss) h = last_bound low (t ∷ ss) h.1

pub length-segment_bytes : (s : Segment) → length s.bytes ≤ s.size → length (segment_bytes s) ≡ s.size
length-segment_bytes s h = omega (arith, length-append s.bytes (zeros (s.size - length s.bytes)), length_zeros (s.size - length s.bytes))

zero_there : (n k : ℕ) → get_or (zeros n) k 0 ≡ 0
unfolding zeros
zero_there zero k = refl
zero_there (suc n) zero = refl
zero_there (suc n) (suc k) = zero_there n k

zeros_after : (xs : List ℕ) (n k : ℕ) → get_or (xs ++ zeros n) k 0 ≡ get_or xs k 0
zeros_after [] n k = zero_there n k
zeros_after (x ∷ xs) n zero = refl
zeros_after (x ∷ xs) n (suc k) = zeros_after xs n k

-- the byte at an offset, and so many further
pub byte_at : (s : Segment) (offset i : ℕ) → get_or (drop offset (segment_bytes s)) i 0 ≡ get_or s.bytes (offset + i) 0
byte_at s offset i = get_or-drop offset (segment_bytes s) i 0 ∙ zeros_after s.bytes (s.size - length s.bytes) (offset + i)

-- a step of a copy to the front
pub copy_step : (xs old into : List ℕ) (i b : ℕ) → into ≡ take i xs ++ drop i old → i < length xs → i < length old → b ≡ get_or xs i 0 → set into i b ≡ take (i + 1) xs ++ drop (i + 1) old
copy_step xs old into i b e l m y =
    let front = take i xs in
    let after = drop (i + 1) old in
    ap (λ x. set x i b) (e ∙ ap (λ x. front ++ x) (drop_more old i 0 m))
    ∙ set_at front (get_or old i 0) after b i (length-take-le i xs (omega arith))
    ∙ ap (λ x. front ++ x ∷ after) y
    ∙ sym (append_assoc front (get_or xs i 0 ∷ []) after)
    ∙ ap (λ x. x ++ after) (sym (take_more xs i 0 l))

-- the code at an address of the segment that a walk has come to
pub code_here : (at i : ℕ) (ss : List Segment) (s : Segment) (code : List ℕ) → code_at at (drop i ss) ≡ code → i < length ss → s ≡ get_or ss i s → (s.perms.exec && in_segment at s) ≡ true → drop (at - s.start) (segment_bytes s) ≡ code
code_here at i ss s code inv l e y =
    sym (ap (code_at at) (next_is i ss s l e) ∙ ap (λ b. if b then drop (at - s.start) (segment_bytes s) else code_at at (drop (i + 1) ss)) y) ∙ inv

-- a segment more
pub push_step : (f : Header → Segment) (items new all : List Segment) (s : Segment) (h : Header) (hs : List Header) → new ≡ items ++ s ∷ [] → s ≡ f h → items ++ map f (h ∷ hs) ≡ all → new ++ map f hs ≡ all
push_step f items new all s h hs e y inv = ap (λ x. x ++ map f hs) e ∙ append_assoc items (s ∷ []) (map f hs) ∙ ap (λ s. items ++ s ∷ map f hs) y ∙ inv
