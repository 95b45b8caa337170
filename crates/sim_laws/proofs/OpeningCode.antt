-- The code with which a guest begins is that of its executable.
use Rattle.std.proofs.Common.{◌≡◌, ℕ, ◌+◌, ◌-◌, ◌≤◌, Bool, true, false, ◌&&◌, ◌||◌, List, [], ◌∷◌, ◌++◌, length, drop, map, Some, None, refl, ap, ◌∙◌, arith}
use Rattle.std.specs.Prelude.{if◌then◌else◌, nat_lt, nat_le}
use Rattle.std.proofs.lemmas.Bool.Decides.{nat_tests}
use Rattle.br_word.specs.Memory.{Region, Runs, covers, bytes_at}
use Rattle.elf_read.specs.declared.exe.Segment.{Segment}
use Rattle.elf_read.specs.declared.exe.Exe.{Exe}
use Rattle.elf_read.specs.Elf.{AreSegments, in_segment, is_exec}
use Rattle.elf_read.specs.Code.{segment_bytes, code_at}
use Rattle.elf_read.proofs.Parts.{length-segment_bytes}
use Rattle.ia_inst.specs.Instructions.{decode_of}
use Rattle.ia_inst.specs.Step.{NoCode, found_from, found_in, found}
use Rattle.elf_read.specs.Regions.{region_of, stack_region, heap_region, opening_regions}
use Rattle.block_cut.specs.Places.{found_at}

same_test : (a : ℕ) (s : Segment) (b : Bool) → length s.bytes ≤ s.size → (covers (region_of s) a 1 && b) ≡ (b && in_segment a s)
same_test a s b l =
    let e : length (region_of s).bytes ≡ s.size = length-segment_bytes s l in
    let t : nat_le (a + 1) (s.start + length (region_of s).bytes) ≡ nat_lt a (s.start + s.size) = ap (λ n. nat_le (a + 1) (s.start + n)) e ∙ next a (s.start + s.size) in
    ap (λ t. (nat_le s.start a && t) && b) t ∙ turned (nat_le s.start a && nat_lt a (s.start + s.size)) b
  where
    next : (a n : ℕ) → nat_le (a + 1) n ≡ nat_lt a n
    next a n = grind (arith, nat_tests)

    turned : (x y : Bool) → (x && y) ≡ (y && x)
    turned true true = refl
    turned true false = refl
    turned false true = refl
    turned false false = refl

no_code : (a start : ℕ) (top : List ℕ) → bytes_at Runs a 1 (stack_region top ∷ heap_region start ∷ []) ≡ None
unfolding bytes_at
no_code a start top = go (covers (stack_region top) a 1) (covers (heap_region start) a 1)
  where
    go : (b c : Bool) → (if b && false then Some (drop (a - (stack_region top).start) (stack_region top).bytes) else (if c && false then Some (drop (a - start) []) else None)) ≡ None
    go true true = refl
    go true false = refl
    go false true = refl
    go false false = refl

from_code : (a low : ℕ) (ss : List Segment) (more : List Region) → AreSegments low ss → bytes_at Runs a 1 more ≡ None → found a (map region_of ss ++ more) ≡ (if is_exec a ss then found_from (decode_of (code_at a ss)) else NoCode)
unfolding bytes_at
from_code a low [] more h e = ap found_in e
from_code a low (s ∷ ss) more h e =
    ap (λ b. found_in (if b then Some (drop (a - s.start) (segment_bytes s)) else bytes_at Runs a 1 (map region_of ss ++ more))) (same_test a s s.perms.exec h.0.bytes)
    ∙ go (s.perms.exec && in_segment a s) (from_code a low ss more h.1 e)
  where
    go : (b : Bool) → found a (map region_of ss ++ more) ≡ (if is_exec a ss then found_from (decode_of (code_at a ss)) else NoCode)
        → found_in (if b then Some (drop (a - s.start) (segment_bytes s)) else bytes_at Runs a 1 (map region_of ss ++ more)) ≡ (if b || is_exec a ss then found_from (decode_of (if b then drop (a - s.start) (segment_bytes s) else code_at a ss)) else NoCode)
    go true k = refl
    go false k = k

pub opening_code : (exe : Exe) (low : ℕ) (top : List ℕ) (a : ℕ) → AreSegments low exe.segments → found a (opening_regions exe top) ≡ found_at exe a
unfolding found_at
opening_code exe low top a h = from_code a low exe.segments _ h (no_code a exe.brk_start top)
