-- What stands at an address, and that it lies below the end of the guest's memory.
use Rattle.std.proofs.Common.{◌≡◌, ℕ, ◌+◌, ◌-◌, ◌<◌, ◌≤◌, Bool, true, false, ◌&&◌, ◌||◌, List, [], ◌∷◌, ◌++◌, length, take, drop, Option, Some, None, refl, sym, ap, ◌∙◌, arith, length-drop, length-append}
use Rattle.std.specs.Prelude.{if◌then◌else◌, IfSome}
use Rattle.std.proofs.lemmas.List.{take_at, take-take, take-append-le, length-take, length-replicate}
use Rattle.std.proofs.lemmas.Bool.Decides.{nat_tests}
use Rattle.br_word.specs.Memory.{zeros}
use Rattle.elf_read.specs.declared.exe.Exe.{Exe}
use Rattle.elf_read.specs.declared.exe.Segment.{Segment}
use Rattle.elf_read.specs.Elf.{AreSegments, IsGuest, in_segment, is_exec}
use Rattle.elf_read.specs.Code.{segment_bytes, code_at}
use Rattle.ia_inst.specs.declared.inst.Inst.{Inst}
use Rattle.ia_inst.specs.Instructions.{decode_of}
use Rattle.ia_inst.specs.Step.{NoCode, There, found_from}
use Rattle.block_cut.specs.Places.{found_at, inst_found}

-- what is read has bytes, which are there
abbrev pub HasBytes : Type 0
HasBytes = (bs : List ℕ) (i : Inst) (n : ℕ) → decode_of bs ≡ Some (i, n) → (1 ≤ n) × (n ≤ 15) × (n ≤ length bs)

-- the first 15 bytes decide what is read
abbrev pub FrontDecides : Type 0
FrontDecides = (bytes : List ℕ) → decode_of (take 15 bytes) ≡ decode_of bytes

length-segment_bytes : (s : Segment) → length s.bytes ≤ s.size → length (segment_bytes s) ≡ s.size
unfolding zeros
length-segment_bytes s h = omega (arith, length-append s.bytes (zeros (s.size - length s.bytes)), length-replicate {A = ℕ} (s.size - length s.bytes) 0)

decode_empty : HasBytes → decode_of [] ≡ None
decode_empty law = go (decode_of []) refl
  where
    go : (r : Option (Inst × ℕ)) → decode_of [] ≡ r → r ≡ None
    go None e = refl
    go (Some x) e = let l = law [] x.0 x.1 e in absurd (omega (arith, l.0, l.2))

no_code : (at : ℕ) (ss : List Segment) → is_exec at ss ≡ false → code_at at ss ≡ []
no_code at [] e = refl
no_code at (s ∷ ss) e = go (s.perms.exec && in_segment at s) (no_code at ss) e
  where
    go : (b : Bool) → (is_exec at ss ≡ false → code_at at ss ≡ []) → (b || is_exec at ss) ≡ false → (if b then drop (at - s.start) (segment_bytes s) else code_at at ss) ≡ []
    go true rest e = cc
    go false rest e = rest e

pub found_is : (exe : Exe) (at : ℕ) → HasBytes → inst_found (found_at exe at) ≡ decode_of (code_at at exe.segments)
unfolding found_at
found_is exe at law = go (is_exec at exe.segments) refl
  where
    answer : (r : Option (Inst × ℕ)) → inst_found (found_from r) ≡ r
    answer None = refl
    answer (Some x) = refl

    go : (b : Bool) → is_exec at exe.segments ≡ b → inst_found (if b then found_from (decode_of (code_at at exe.segments)) else NoCode) ≡ decode_of (code_at at exe.segments)
    go true e = answer (decode_of (code_at at exe.segments))
    go false e = sym (ap decode_of (no_code at exe.segments e) ∙ decode_empty law)

within : (exec : Bool) (at : ℕ) (s : Segment) → (exec && in_segment at s) ≡ true → (s.start ≤ at) × (at < s.start + s.size)
within true at s e = (grind (arith, nat_tests), grind (arith, nat_tests))
within false at s e = cc

code_inside : (low at : ℕ) (ss : List Segment) → AreSegments low ss → 0 < length (code_at at ss) → at + length (code_at at ss) ≤ 0xA0000000
code_inside low at [] each some = absurd (omega (arith, some))
code_inside low at (s ∷ ss) each some = go (s.perms.exec && in_segment at s) refl (code_inside low at ss each.1) some
  where
    here : (s.perms.exec && in_segment at s) ≡ true → at + length (drop (at - s.start) (segment_bytes s)) ≤ 0xA0000000
    here e =
        let w = within s.perms.exec at s e in
        let high = each.0.high in
        omega (arith, w.0, w.1, high, length-segment_bytes s each.0.bytes, length-drop (at - s.start) (segment_bytes s))

    go : (b : Bool) → (s.perms.exec && in_segment at s) ≡ b → (0 < length (code_at at ss) → at + length (code_at at ss) ≤ 0xA0000000) → 0 < length (if b then drop (at - s.start) (segment_bytes s) else code_at at ss) → at + length (if b then drop (at - s.start) (segment_bytes s) else code_at at ss) ≤ 0xA0000000
    go true e rest some = here e
    go false e rest some = rest some

pub found_size : (exe : Exe) (at : ℕ) (i : Inst) (n : ℕ) → HasBytes → found_at exe at ≡ There i n → 0 < n
found_size exe at i n law e =
    let l = law (code_at at exe.segments) i n (sym (found_is exe at law) ∙ ap inst_found e) in
    omega (arith, l.0)

-- it is read from the first bytes
pub read_here : (exe : Exe) (at count : ℕ) (old new : List ℕ) (r : Option (Inst × ℕ)) → HasBytes → FrontDecides → count ≡ length (take 15 (code_at at exe.segments)) → new ≡ take 15 (code_at at exe.segments) ++ drop count old → r ≡ decode_of (take count new) → r ≡ inst_found (found_at exe at)
read_here exe at count old new r law front_decides len is e =
    let bytes = code_at at exe.segments in
    let front : take count new ≡ take 15 bytes = ap (λ t. take count t) is ∙ take_at (take 15 bytes) _ count (sym len) in
    e ∙ (ap decode_of front ∙ front_decides bytes) ∙ sym (found_is exe at law)

-- the bytes that it is read from are the first of the code there
pub bytes_here : (exe : Exe) (at count n : ℕ) (old new : List ℕ) → count ≡ length (take 15 (code_at at exe.segments)) → new ≡ take 15 (code_at at exe.segments) ++ drop count old → n ≤ length (take count new) → take n new ≡ take n (code_at at exe.segments)
bytes_here exe at count n old new len is few =
    let bytes = code_at at exe.segments in
    let front : take count new ≡ take 15 bytes = ap (λ t. take count t) is ∙ take_at (take 15 bytes) _ count (sym len) in
    let same = ap length front in
    let most = length-take 15 bytes in
    ap (take n) is ∙ take-append-le n (take 15 bytes) (drop count old) (omega (arith, few, same)) ∙ take-take n 15 bytes (omega (arith, few, same, most))

pub inside : (exe : Exe) (at : ℕ) (r : Option (Inst × ℕ)) → HasBytes → IsGuest exe → r ≡ inst_found (found_at exe at) → IfSome r (λ i. at + i.1 ≤ 0xA0000000)
inside exe at None law g e = tt
inside exe at (Some x) law g e =
    let l = law (code_at at exe.segments) x.0 x.1 (sym (e ∙ found_is exe at law)) in
    let c = code_inside 0x01000000 at exe.segments g.segments (omega (arith, l.0, l.2)) in
    omega (arith, l.2, c)
