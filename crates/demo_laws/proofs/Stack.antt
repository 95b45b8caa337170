-- The memory of the demonstration: its code, and the stack, in which one word is written and read.
use Rattle.std.proofs.Common.{◌≡◌, ℕ, ◌+◌, ◌-◌, ◌^◌, ◌<◌, ◌≤◌, Bool, true, false, ◌&&◌, ◌||◌, List, [], ◌∷◌, ◌++◌, length, take, drop, Some, refl, sym, ap, ◌∙◌, arith, length-append}
use Rattle.std.specs.Prelude.{option_map, nat_lt, nat_le, if◌then◌else◌}
use Rattle.std.proofs.lemmas.Bool.{le-leb, lt-leb, lt-ltb}
use Rattle.std.proofs.lemmas.List.{take_at, drop_at, length-take, length-drop}
use Rattle.br_word.specs.Memory.{Region, Reads, Runs, covers, bytes_at, put_over, written, number_of, bytes_of, load, store}
use Rattle.elf_read.specs.Code.{segment_bytes}
use Rattle.elf_read.specs.Regions.{region_of, heap_region}
use Rattle.elf_read.proofs.Numbers.{number_again, length_bytes_of}
use Rattle.ia_inst.specs.Instructions.{decode_of}
use Rattle.ia_inst.specs.Step.{NoCode, found_from, found_in, found}
use Rattle.block_cut.specs.Places.{found_at}
use Rattle.elf_flat.specs.Flat.{flat_start}
use Rattle.demo_gen.specs.Demonstration.{demo_length}
use Rattle.demo_laws.proofs.Lengths.{file_length}
use Rattle.demo_laws.proofs.Sites.{segment_whole}
use Rattle.demo_laws.specs.Accepted.{demo_of, demo_segment}

abbrev pub stack_of : List ℕ → Region
stack_of bytes = record { start = 0xBFF00000; perms = record { read = true; write = true; exec = false }; bytes = bytes }

abbrev pub code_of : ℕ → Region
code_of count = region_of (demo_segment count)

-- memory with these bytes as its stack
abbrev pub memory : ℕ → List ℕ → List Region
memory count stack = code_of count ∷ stack_of stack ∷ heap_region (demo_of count).brk_start ∷ []

-- where in the stack the one word is
pub place : ℕ
place = 0xFFFDC

pub place_is : place ≡ 0xFFFDC
unfolding place
place_is = refl

-- a stack of full size
abbrev pub IsStack : List ℕ → Type 0
IsStack stack = length stack ≡ 1048576

-- with this word
pub with_word : List ℕ → ℕ → List ℕ
with_word stack v = put_over stack place (bytes_of 4 v)

code_size : (count : ℕ) → length (code_of count).bytes ≡ demo_length count
code_size count = ap length (segment_whole count) ∙ file_length count

-- code is found in memory as in the executable
pub found_same : (count at : ℕ) (stack : List ℕ) → flat_start ≤ at → at < flat_start + demo_length count → found at (memory count stack) ≡ found_at (demo_of count) at
unfolding bytes_at found_at
found_same count at stack low high =
    let bytes = segment_bytes (demo_segment count) in
    let here = found_from (decode_of (drop (at - flat_start) bytes)) in
    let others = bytes_at Runs at 1 (stack_of stack ∷ heap_region (demo_of count).brk_start ∷ []) in
    let c = code_size count in
    let a : nat_le flat_start at ≡ true = le-leb flat_start at low in
    let b : nat_le (at + 1) (flat_start + length (code_of count).bytes) ≡ true = le-leb (at + 1) (flat_start + length (code_of count).bytes) (omega (arith, c, high)) in
    let d : nat_lt at (flat_start + demo_length count) ≡ true = lt-ltb at (flat_start + demo_length count) high in
    ap (λ t. found_in (if (t && nat_le (at + 1) (flat_start + length (code_of count).bytes)) && true then Some (drop (at - flat_start) bytes) else others)) a
    ∙ ap (λ t. found_in (if t && true then Some (drop (at - flat_start) bytes) else others)) b
    ∙ sym (ap (λ t. if (t && nat_lt at (flat_start + demo_length count)) || false then found_from (decode_of (if t && nat_lt at (flat_start + demo_length count) then drop (at - flat_start) bytes else [])) else NoCode) a
    ∙ ap (λ t. if t || false then found_from (decode_of (if t then drop (at - flat_start) bytes else [])) else NoCode) d)

and_no : (a b : Bool) → b ≡ false → (a && b) ≡ false
and_no true b e = e
and_no false b e = refl

-- ---- one word, at an address in the stack

word_length : (v : ℕ) → length (bytes_of 4 v) ≡ 4
word_length v = length_bytes_of 4 v

write_at : (count at off : ℕ) (stack new : List ℕ) → at ≡ 0xBFF00000 + off → off + length new ≤ length stack → written at new (memory count stack) ≡ Some (memory count (put_over stack off new))
unfolding written
write_at count at off stack new e l =
    let heap = heap_region (demo_of count).brk_start in
    let rest = stack_of stack ∷ heap ∷ [] in
    let some = Some (record (code_of count) { bytes = put_over (code_of count).bytes (at - flat_start) new } ∷ rest) in
    let o : at - 0xBFF00000 ≡ off = omega arith in
    let a : nat_le 0xBFF00000 at ≡ true = le-leb 0xBFF00000 at (omega arith) in
    let b : nat_le (at + length new) (0xBFF00000 + length stack) ≡ true = le-leb (at + length new) (0xBFF00000 + length stack) (omega arith) in
    ap (λ t. if t then some else option_map (λ rest. code_of count ∷ rest) (written at new rest)) (and_no (covers (code_of count) at (length new)) false refl)
    ∙ ap (λ t. option_map (λ rest. code_of count ∷ rest) (if (t && nat_le (at + length new) (0xBFF00000 + length stack)) && true then Some (stack_of (put_over stack (at - 0xBFF00000) new) ∷ heap ∷ []) else option_map (λ rest. stack_of stack ∷ rest) (written at new (heap ∷ [])))) a
    ∙ ap (λ t. option_map (λ rest. code_of count ∷ rest) (if t && true then Some (stack_of (put_over stack (at - 0xBFF00000) new) ∷ heap ∷ []) else option_map (λ rest. stack_of stack ∷ rest) (written at new (heap ∷ [])))) b
    ∙ ap (λ off. Some (memory count (put_over stack off new))) o

read_at : (count at off : ℕ) (stack : List ℕ) → count ≤ 1000 → at ≡ 0xBFF00000 + off → off + 4 ≤ length stack → bytes_at Reads at 4 (memory count stack) ≡ Some (drop off stack)
unfolding bytes_at
read_at count at off stack few e l =
    let heap = heap_region (demo_of count).brk_start in
    let c = code_size count in
    let o : at - 0xBFF00000 ≡ off = omega arith in
    let n : nat_le (at + 4) (flat_start + length (code_of count).bytes) ≡ false = lt-leb (at + 4) (flat_start + length (code_of count).bytes) (omega arith) in
    let none : covers (code_of count) at 4 ≡ false = and_no (nat_le flat_start at) (nat_le (at + 4) (flat_start + length (code_of count).bytes)) n in
    let a : nat_le 0xBFF00000 at ≡ true = le-leb 0xBFF00000 at (omega arith) in
    let b : nat_le (at + 4) (0xBFF00000 + length stack) ≡ true = le-leb (at + 4) (0xBFF00000 + length stack) (omega arith) in
    ap (λ t. if t && true then Some (drop (at - flat_start) (code_of count).bytes) else bytes_at Reads at 4 (stack_of stack ∷ heap ∷ [])) none
    ∙ ap (λ t. if (t && nat_le (at + 4) (0xBFF00000 + length stack)) && true then Some (drop (at - 0xBFF00000) stack) else bytes_at Reads at 4 (heap ∷ [])) a
    ∙ ap (λ t. if t && true then Some (drop (at - 0xBFF00000) stack) else bytes_at Reads at 4 (heap ∷ [])) b
    ∙ ap (λ off. Some (drop off stack)) o

top_is : 0xBFFFFFDC ≡ 0xBFF00000 + place
unfolding place
top_is = refl

inside : (stack : List ℕ) (n : ℕ) → IsStack stack → n ≤ 36 → place + n ≤ length stack
inside stack n h l = let p = place_is in omega arith

pub store_here : (count v : ℕ) (stack : List ℕ) → IsStack stack → store 0xBFFFFFDC 4 v (memory count stack) ≡ Some (memory count (with_word stack v))
unfolding with_word
store_here count v stack h =
    let l = word_length v in
    let i = inside stack 4 h (omega arith) in
    write_at count 0xBFFFFFDC place stack (bytes_of 4 v) top_is (omega arith)

pub word_size : (stack : List ℕ) (v : ℕ) → IsStack stack → IsStack (with_word stack v)
unfolding with_word
word_size stack v h =
    let l = word_length v in
    let p = place_is in
    let new = bytes_of 4 v in
    let a = length-append (take place stack) (new ++ drop (place + length new) stack) in
    let b = length-append new (drop (place + length new) stack) in
    let c = length-take place stack in
    let d = length-drop (place + length new) stack in
    let i = inside stack 4 h (omega arith) in
    omega arith

-- the word is read back
pub word_back : (stack : List ℕ) (v : ℕ) → IsStack stack → take 4 (drop place (with_word stack v)) ≡ bytes_of 4 v
unfolding with_word
word_back stack v h =
    let new = bytes_of 4 v in
    let rest = drop (place + length new) stack in
    let i = inside stack 4 h (omega arith) in
    let c = length-take place stack in
    let p : length (take place stack) ≡ place = omega arith in
    ap (take 4) (drop_at (take place stack) (new ++ rest) place p) ∙ take_at new rest 4 (word_length v)

pub read_here : (count v : ℕ) (stack : List ℕ) → count ≤ 1000 → IsStack stack → bytes_at Reads 0xBFFFFFDC 4 (memory count (with_word stack v)) ≡ Some (drop place (with_word stack v))
read_here count v stack few h =
    let s = word_size stack v h in
    read_at count 0xBFFFFFDC place (with_word stack v) few top_is (inside (with_word stack v) 4 s (omega arith))

pub load_here : (count v : ℕ) (stack : List ℕ) → count ≤ 1000 → IsStack stack → v < 2 ^ 32 → load 0xBFFFFFDC 4 (memory count (with_word stack v)) ≡ Some v
load_here count v stack few h s =
    ap (option_map (λ bs. number_of (take 4 bs))) (read_here count v stack few h)
    ∙ ap (λ bs. Some (number_of bs)) (word_back stack v h)
    ∙ ap Some (number_again 4 v (omega arith))
