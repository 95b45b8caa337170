-- A file of bytes begins soundly.
use Rattle.std.proofs.Common.{◌≡◌, ℕ, ◌+◌, ◌-◌, ◌*◌, ◌/◌, ◌^◌, ◌<◌, ◌≤◌, Bool, true, false, ◌&&◌, List, [], ◌∷◌, ◌++◌, length, map, codes, All, Result, Ok, Err, Option, Some, None, refl, subst, arith}
use Rattle.std.proofs.lemmas.List.Elements.{All-nil, All-cons, All-head, All-tail, All-from_recursion}
use Rattle.br_word.specs.Memory.{bytes_of, zeros, AreBytes}
use Rattle.elf_read.specs.declared.exe.Segment.{Segment}
use Rattle.elf_read.specs.declared.exe.Exe.{Exe}
use Rattle.elf_read.specs.declared.exe.Reach.{Reach}
use Rattle.elf_read.specs.declared.exe.Reach.TheVariants.{Guest}
use Rattle.elf_read.specs.declared.header.Header.{Header}
use Rattle.elf_read.specs.Elf.{lowest, AreSegments, Ascend, end_of_last, Refused, field, loaded, refusals, first_refused, segment_of, exe_of, unless_refused, elf}
use Rattle.elf_read.proofs.Accepted.{accepted_exe, entry_bound}
use Rattle.elf_read.specs.Regions.{region_of, stack_with, stack_region, heap_region, opening_regions}
use Rattle.run_model.proofs.SegmentEnds.{below_end, end_of_tail, end_high}
use Rattle.run_model.specs.Opening.{arguments, texts, first_text, text_places, stack_pointer, stack_words, stack_top, opening, exe_or_none, opening_of}
use Rattle.run_model.specs.Run.{AreOfBytes}
use Rattle.run_model.specs.Sound.{IsSound}
use Rattle.run_model.proofs.KeptRegions.{IsRegion, their_bytes, their_code, IsByte, each_below, word_bytes, zero_bytes, both, first_bytes, last_bytes}
use Rattle.br_word.specs.State.{AreRegs}

-- ---- the stack

text_bytes : (args : List (List ℕ)) → All AreBytes args → AreBytes (texts args)
text_bytes [] h = All-nil IsByte
text_bytes (arg ∷ args) h = both (arg ++ 0 ∷ []) (texts args) (both arg (0 ∷ []) (All-head AreBytes arg args h) (All-cons IsByte 0 [] (omega arith) (All-nil IsByte))) (text_bytes args (All-tail AreBytes arg args h))

place_bytes : (at : ℕ) (args : List (List ℕ)) → AreBytes (text_places at args)
place_bytes at [] = All-nil IsByte
place_bytes at (arg ∷ args) = both (bytes_of 4 at) _ (word_bytes 4 at) (place_bytes (at + length arg + 1) args)

name_bytes : AreBytes (codes "guest")
name_bytes = All-from_recursion IsByte (codes "guest") (omega arith, (omega arith, (omega arith, (omega arith, (omega arith, tt)))))

top_bytes : (args : List (List ℕ)) → All AreBytes args → AreBytes (stack_top args)
top_bytes args h =
    both (stack_words args) _ (both (bytes_of 4 (length args)) _ (word_bytes 4 (length args)) (both (text_places (first_text args) args) (zeros 16) (place_bytes (first_text args) args) (zero_bytes 16)))
    (both (zeros (first_text args - (stack_pointer args + 4 * (length args + 5)))) (texts args) (zero_bytes _) (text_bytes args h))

stack_bytes : (top : List ℕ) → AreBytes top → AreBytes (stack_with top)
unfolding stack_with
stack_bytes top h = both (zeros (1048576 - length top)) top (zero_bytes _) h

-- ---- the regions

abbrev OfBytes : Segment → Type 0
OfBytes s = AreBytes s.bytes

segment_region : (low start : ℕ) (s : Segment) (ss : List Segment) → AreSegments low (s ∷ ss) → Ascend s.start (s ∷ ss) → end_of_last (s ∷ ss) ≤ start → OfBytes s → IsRegion start (region_of s)
segment_region low start s ss a o h l =
    let e = below_end low s ss a.1 o.1 in
    let p = a.0.some in
    record {
      bytes = both s.bytes (zeros (s.size - length s.bytes)) l (zero_bytes _);
      code = λ x. (closed s.perms.write s.perms.exec x a.0.perms, λ there. omega (arith, e, p));
    }
  where
    closed : (w x : Bool) → x ≡ true → (w && x) ≡ false → w ≡ false
    closed true x e h = cc
    closed false x e h = refl

open_regions : (low start end : ℕ) (ss : List Segment) (top : List ℕ) → AreSegments low ss → Ascend end ss → end_of_last ss ≤ start → All OfBytes ss → AreBytes top
    → All (IsRegion start) (map region_of ss ++ (stack_region top ∷ heap_region start ∷ []))
open_regions low start end [] top a o h l t =
    All-cons (IsRegion start) (stack_region top) (heap_region start ∷ []) (record { bytes = stack_bytes top t; code = λ x. cc })
    (All-cons (IsRegion start) (heap_region start) [] (record { bytes = All-nil IsByte; code = λ x. cc }) (All-nil (IsRegion start)))
open_regions low start end (s ∷ ss) top a o h l t =
    All-cons (IsRegion start) (region_of s) (map region_of ss ++ (stack_region top ∷ heap_region start ∷ [])) (segment_region low start s ss a (omega arith, o.1) h (All-head OfBytes s ss l))
    (open_regions low start (s.start + s.size) ss top a.1 o.1 (end_of_tail s ss start h) (All-tail OfBytes s ss l) t)

-- ---- the registers

abbrev IsWord : ℕ → Type 0
IsWord v = v < 2 ^ 32

open_regs : (sp : ℕ) → sp < 2 ^ 32 → AreRegs (0 ∷ 0 ∷ 0 ∷ 0 ∷ sp ∷ 0 ∷ 0 ∷ 0 ∷ [])
open_regs sp l =
    let z : IsWord 0 = omega arith in
    let regs : List ℕ = 0 ∷ 0 ∷ 0 ∷ 0 ∷ sp ∷ 0 ∷ 0 ∷ 0 ∷ [] in
    record { count = refl; small = each_below (2 ^ 32) regs z (All-from_recursion IsWord regs (z, (z, (z, (z, (l, (z, (z, (z, tt))))))))) }

pointer_small : (args : List (List ℕ)) → stack_pointer args < 2 ^ 32
pointer_small args = omega arith

-- ---- the opening

opens : (exe : Exe) (low : ℕ) (words : List (List ℕ)) (input : List ℕ) → AreSegments low exe.segments → Ascend 0 exe.segments → end_of_last exe.segments ≤ exe.brk_start → exe.entry < 2 ^ 32 → exe.brk_start < 2 ^ 32
    → All OfBytes exe.segments → All AreBytes words → AreBytes input → IsSound (opening exe (arguments words) input)
opens exe low words input a o h entry brk l w i =
    let top = stack_top (arguments words) in
    let all = open_regions low exe.brk_start 0 exe.segments top a o h l (top_bytes (arguments words) (All-cons AreBytes (codes "guest") words name_bytes w)) in
    record {
      regs = open_regs (stack_pointer (arguments words)) (pointer_small (arguments words));
      eip = entry;
      brk = brk;
      bytes = their_bytes exe.brk_start (opening_regions exe top) all;
      apart = their_code exe.brk_start (opening_regions exe top) all;
      input = i;
    }

segments_of_bytes : (reach : Reach) (file : List ℕ) (exe : Exe) → AreBytes file → elf reach file ≡ Ok exe → All OfBytes exe.segments
unfolding elf
segments_of_bytes reach file exe h e = by_result (first_refused 1 (refusals reach file)) e
  where
    each : (hs : List Header) → All OfBytes (map (segment_of file) hs)
    each [] = All-nil OfBytes
    each (x ∷ hs) = All-cons OfBytes (segment_of file x) (map (segment_of file) hs) (first_bytes x.filesz _ (last_bytes x.offset file h)) (each hs)

    by_result : (r : Option Refused) → unless_refused r (exe_of (field 4 24 file) (map (segment_of file) (loaded file))) ≡ Ok exe → All OfBytes exe.segments
    by_result None e = let is : exe_of (field 4 24 file) (map (segment_of file) (loaded file)) ≡ exe = cc in subst (λ (x : Exe). All OfBytes x.segments) is (each (loaded file))
    by_result (Some r) e = cc

pub accepted_opens : (reach : Reach) (file : List ℕ) (exe : Exe) (words : List (List ℕ)) (input : List ℕ) → elf reach file ≡ Ok exe → AreOfBytes file words input → IsSound (opening exe (arguments words) input)
accepted_opens reach file exe words input e h =
    let x = accepted_exe reach file exe e in
    let high = end_high (lowest reach) exe.segments x.segments in
    let b : exe.brk_start ≡ (end_of_last exe.segments + 4095) / 4096 * 4096 = x.brk in
    opens exe (lowest reach) words input x.segments x.order (omega arith) (entry_bound (lowest reach) exe.entry exe.segments x.segments x.entry) (omega arith) (segments_of_bytes reach file exe h.file e) h.words h.input

pub file_opens : (file : List ℕ) (words : List (List ℕ)) (input : List ℕ) → AreOfBytes file words input → IsSound (opening_of file words input)
file_opens file words input h = by_result (elf Guest file) refl
  where
    by_result : (r : Result Exe Refused) → elf Guest file ≡ r → IsSound (opening (exe_or_none r) (arguments words) input)
    by_result (Ok exe) e = accepted_opens Guest file exe words input e h
    by_result (Err r) e = opens (exe_or_none (Err r)) 0 words input tt tt (omega arith) (omega arith) (omega arith) (All-nil OfBytes) h.words h.input
