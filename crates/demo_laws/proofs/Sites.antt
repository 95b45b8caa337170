-- What stands in the code of the demonstration.
use Rattle.std.proofs.Common.{◌≡◌, ℕ, zero, suc, ◌+◌, ◌-◌, ◌*◌, ◌^◌, ◌<◌, ◌≤◌, true, false, ◌&&◌, ◌||◌, List, [], ◌∷◌, ◌++◌, length, drop, Some, refl, sym, ap, ◌∙◌, arith, append-nil, append_assoc}
use Rattle.std.specs.Prelude.{nat_lt, nat_le, if◌then◌else◌}
use Rattle.std.proofs.lemmas.Bool.{le-leb, lt-ltb}
use Rattle.std.proofs.lemmas.Nat.{mod_below}
use Rattle.std.proofs.lemmas.List.{drop_at, drop-drop}
use Rattle.br_word.specs.Memory.{bytes_of, zeros}
use Rattle.elf_read.specs.Code.{segment_bytes}
use Rattle.elf_write.specs.File.{word}
use Rattle.ia_inst.specs.declared.inst.Inst.{Inst}
use Rattle.ia_inst.specs.Instructions.{decode_of}
use Rattle.ia_inst.specs.Step.{NoCode, There, found_from}
use Rattle.block_cut.specs.Places.{found_at}
use Rattle.elf_flat.specs.Flat.{flat_start, flat_entry, headed}
use Rattle.demo_gen.specs.Demonstration.{demo_length, next_number, call_code, calls_code, write_code, exit_code, function_code, functions_code, demo_code, demo_file}
use Rattle.demo_laws.proofs.Lengths.{file_headed, file_length, calls_length}
use Rattle.demo_laws.proofs.Spelled.{move_again, call_again, add_again, move_eax, move_ebx, move_edx, push_eax, move_esp, system_call, jump_sign, invert_eax, return}
use Rattle.demo_laws.specs.Accepted.{demo_of, demo_segment}
use Rattle.demo_laws.specs.Sites.{Stand, call_site, write_site, exit_site, function_site, number_added, entry_part, call_part, write_part, exit_part, function_part, HasDemoSites}

-- ---- the bytes from an offset on

nothing : (count : ℕ) → demo_file count ++ zeros 0 ≡ demo_file count
unfolding zeros
nothing count = append-nil (demo_file count)

pub segment_whole : (count : ℕ) → segment_bytes (demo_segment count) ≡ demo_file count
segment_whole count =
    let l = file_length count in
    let z : demo_length count - length (demo_file count) ≡ 0 = omega arith in
    ap (λ n. demo_file count ++ zeros n) z ∙ nothing count

-- what is found at an offset
pub found_there : (count off : ℕ) → off < demo_length count → found_at (demo_of count) (flat_start + off) ≡ found_from (decode_of (drop off (demo_file count)))
unfolding found_at
found_there count off h =
    let at = flat_start + off in
    let file = segment_bytes (demo_segment count) in
    let a : nat_le flat_start at ≡ true = le-leb flat_start at (omega arith) in
    let b : nat_lt at (flat_start + demo_length count) ≡ true = lt-ltb at (flat_start + demo_length count) (omega arith) in
    let o : at - flat_start ≡ off = omega arith in
    ap (λ t. if (t && nat_lt at (flat_start + demo_length count)) || false then found_from (decode_of (if t && nat_lt at (flat_start + demo_length count) then drop (at - flat_start) file else [])) else NoCode) a
    ∙ ap (λ t. if t || false then found_from (decode_of (if t then drop (at - flat_start) file else [])) else NoCode) b
    ∙ ap (λ n. found_from (decode_of (drop n file))) o
    ∙ ap (λ bs. found_from (decode_of (drop off bs))) (segment_whole count)

-- the bytes from an offset on are these
abbrev At : ℕ → ℕ → List ℕ → Type 0
At count off bytes = drop off (demo_file count) ≡ bytes

further : (count off n : ℕ) (bytes : List ℕ) → At count off bytes → At count (off + n) (drop n bytes)
further count off n bytes h = sym (drop-drop n off (demo_file count)) ∙ ap (drop n) h

-- one instruction
there : (count off : ℕ) (bytes : List ℕ) (i : Inst) (n : ℕ) → off < demo_length count → At count off bytes → decode_of bytes ≡ Some (i, n) → found_at (demo_of count) (flat_start + off) ≡ There i n
there count off bytes i n h a d = found_there count off h ∙ ap (λ bs. found_from (decode_of bs)) a ∙ ap found_from d

-- the code behind the calls, and behind the system calls
abbrev ends : ℕ → List ℕ
ends count = write_code ++ (exit_code ++ functions_code count count)

headers_passed : (size : ℕ) (rest : List ℕ) → drop 84 (headed size rest) ≡ rest
unfolding bytes_of
headers_passed size rest = refl

at_entry : (count : ℕ) → At count 84 (demo_code count)
at_entry count = ap (drop 84) (file_headed count) ∙ headers_passed (demo_length count) (demo_code count)

move_passed : (v : ℕ) (rest : List ℕ) → drop 5 (0xB8 ∷ (word v ++ rest)) ≡ rest
unfolding bytes_of
move_passed v rest = refl

at_calls : (count : ℕ) → At count 89 (calls_code count 0 count ++ ends count)
at_calls count = further count 84 5 (demo_code count) (at_entry count) ∙ move_passed count (calls_code count 0 count ++ ends count)

-- ---- pieces of equal length

calls_split : (n j i k : ℕ) → calls_code n j (i + k) ≡ calls_code n j i ++ calls_code n (j + i) k
calls_split n j zero k = let a : 0 + k ≡ k = omega arith in let b : j + 0 ≡ j = omega arith in ap (calls_code n j) a ∙ sym (ap (λ m. calls_code n m k) b)
calls_split n j (suc i) k =
    let a : suc i + k ≡ suc (i + k) = omega arith in
    let b : suc j + i ≡ j + suc i = omega arith in
    ap (calls_code n j) a
    ∙ ap (λ x. call_code n j ++ x) (calls_split n (suc j) i k ∙ ap (λ m. calls_code n (suc j) i ++ calls_code n m k) b)
    ∙ sym (append_assoc (call_code n j) (calls_code n (suc j) i) (calls_code n (j + suc i) k))

at_call : (count i : ℕ) → i ≤ count → At count (89 + 5 * i) (calls_code count i (count - i) ++ ends count)
at_call count i h =
    let s : i + (count - i) ≡ count = omega arith in
    let z : 0 + i ≡ i = omega arith in
    let first = calls_code count 0 i in
    let rest = calls_code count i (count - i) in
    let e : calls_code count 0 count ≡ first ++ rest = ap (calls_code count 0) (sym s) ∙ calls_split count 0 i (count - i) ∙ ap (λ m. first ++ calls_code count m (count - i)) z in
    further count 89 (5 * i) (calls_code count 0 count ++ ends count) (at_calls count)
    ∙ ap (λ x. drop (5 * i) (x ++ ends count)) e
    ∙ ap (drop (5 * i)) (append_assoc first rest (ends count))
    ∙ drop_at first (rest ++ ends count) (5 * i) (calls_length count 0 i)

at_write : (count : ℕ) → At count (89 + 5 * count) (ends count)
at_write count =
    let z : count - count ≡ 0 = omega arith in
    at_call count count (omega arith) ∙ ap (λ k. calls_code count count k ++ ends count) z

one_passed : (x : ℕ) (rest : List ℕ) → drop 11 (function_code x ++ rest) ≡ rest
unfolding bytes_of
one_passed x rest = refl

-- function i of a list of functions, and what stands behind it
functions_passed : (x i k : ℕ) → i < k → (rest : List ℕ) × (drop (11 * i) (functions_code x k) ≡ function_code (number_added x i) ++ rest)
functions_passed x i zero h = absurd (omega arith)
functions_passed x zero (suc k) h = (functions_code (next_number x) k, refl)
functions_passed x (suc i) (suc k) h =
    let r = functions_passed (next_number x) i k (omega arith) in
    let e : 11 * suc i ≡ 11 + 11 * i = omega arith in
    let more = functions_code (next_number x) k in
    let f = function_code (next_number x) in
    (r.0, ap (λ n. drop n (f ++ more)) e ∙ sym (drop-drop (11 * i) 11 (f ++ more)) ∙ ap (drop (11 * i)) (one_passed (next_number x) more) ∙ r.1)

at_function : (count i : ℕ) → i < count → (rest : List ℕ) × At count (121 + 5 * count + 11 * i) (function_code (number_added count i) ++ rest)
at_function count i h =
    let r = functions_passed count i count h in
    let e : 121 + 5 * count + 11 * i ≡ (89 + 5 * count) + (32 + 11 * i) = omega arith in
    let f = functions_code count count in (
      r.0,
      ap (λ n. drop n (demo_file count)) e
          ∙ further count (89 + 5 * count) (32 + 11 * i) (ends count) (at_write count)
          ∙ sym (drop-drop (11 * i) 32 (ends count))
          ∙ r.1,
    )

number_small : (x i : ℕ) → number_added x i < 2 ^ 32
number_small x zero = mod_below (1103515245 * x + 12345) (2 ^ 32) (omega arith)
number_small x (suc i) = number_small (next_number x) i

module _ (count : ℕ) (few : count ≤ 1000) where
  -- one instruction at an address
  stands : (at off : ℕ) (bytes : List ℕ) (i : Inst) (n : ℕ) → at ≡ flat_start + off → off < demo_length count → At count off bytes → decode_of bytes ≡ Some (i, n) → found_at (demo_of count) at ≡ There i n
  stands at off bytes i n e h a d = ap (found_at (demo_of count)) e ∙ there count off bytes i n h a d

  entry_stands : Stand (demo_of count) flat_entry (entry_part count)
  entry_stands =
      (refl, stands flat_entry 84 (demo_code count) _ 5 refl (omega arith) (at_entry count) (move_again count (calls_code count 0 count ++ ends count) (omega arith)), tt)

  call_stands : (i : ℕ) → i < count → Stand (demo_of count) (call_site i) (call_part (27 + 5 * count + 6 * i))
  call_stands i h =
      let s : count - i ≡ suc (count - (i + 1)) = omega (arith, h) in
      let rest = calls_code count (suc i) (count - (i + 1)) in
      let bytes = call_code count i ++ (rest ++ ends count) in
      let a : At count (89 + 5 * i) bytes = at_call count i (omega arith) ∙ ap (λ k. calls_code count i k ++ ends count) s ∙ append_assoc (call_code count i) rest (ends count) in
      (refl, stands (call_site i) (89 + 5 * i) bytes _ 5 (omega arith) (omega arith) a (call_again (27 + 5 * count + 6 * i) (rest ++ ends count) (omega arith)), tt)

  module _ (base : ℕ) (off : ℕ) (whole : List ℕ) (b : base ≡ flat_start + off) (inside : off + 20 < demo_length count) (a : At count off whole) where
    pub next : (k : ℕ) (i : Inst) (n : ℕ) → k ≤ 20 → (at : ℕ) → at ≡ base + k → decode_of (drop k whole) ≡ Some (i, n) → found_at (demo_of count) at ≡ There i n
    next k i n l at e d = stands at (off + k) (drop k whole) i n (omega arith) (omega arith) (further count off k whole a) d

  write_stands : Stand (demo_of count) (write_site count) write_part
  write_stands =
      let behind = exit_code ++ functions_code count count in
      let at = next (write_site count) (89 + 5 * count) (ends count) (omega arith) (omega arith) (at_write count) in (
        refl,
        at 0 _ 1 (omega arith) (write_site count) (omega arith) (push_eax (drop 1 (ends count))),
        (
          refl,
          at 1 _ 5 (omega arith) (write_site count + 1) (omega arith) (move_eax 4 (drop 6 (ends count))),
          (
            refl,
            at 6 _ 5 (omega arith) (write_site count + 1 + 5) (omega arith) (move_ebx 1 (drop 11 (ends count))),
            (
              refl,
              at 11 _ 2 (omega arith) (write_site count + 1 + 5 + 5) (omega arith) (move_esp (drop 13 (ends count))),
              (
                refl,
                at 13 _ 5 (omega arith) (write_site count + 1 + 5 + 5 + 2) (omega arith) (move_edx 4 (drop 18 (ends count))),
                (refl, at 18 _ 2 (omega arith) (write_site count + 1 + 5 + 5 + 2 + 5) (omega arith) (system_call (drop 20 (ends count))), tt),
              ),
            ),
          ),
        ),
      )

  at_exit : At count (109 + 5 * count) (exit_code ++ functions_code count count)
  at_exit =
      let e : 109 + 5 * count ≡ (89 + 5 * count) + 20 = omega arith in
      ap (λ n. drop n (demo_file count)) e ∙ further count (89 + 5 * count) 20 (ends count) (at_write count)

  exit_stands : 1 ≤ count → Stand (demo_of count) (exit_site count) exit_part
  exit_stands some =
      let f = functions_code count count in
      let at = next (exit_site count) (109 + 5 * count) (exit_code ++ f) (omega arith) (omega arith) at_exit in (
        refl,
        at 0 _ 5 (omega arith) (exit_site count) (omega arith) (move_eax 1 (drop 5 (exit_code ++ f))),
        (
          refl,
          at 5 _ 5 (omega arith) (exit_site count + 5) (omega arith) (move_ebx 0 (drop 10 (exit_code ++ f))),
          (refl, at 10 _ 2 (omega arith) (exit_site count + 5 + 5) (omega arith) (system_call (drop 12 (exit_code ++ f))), tt),
        ),
      )

  module _ (i : ℕ) (h : i < count) where
    rest : List ℕ
    rest = (at_function count i h).0

    base : ℕ
    base = function_site count i

    pub bytes : List ℕ
    bytes = function_code (number_added count i) ++ rest

    -- one instruction of it
    one_of : (k : ℕ) (j : Inst) (n : ℕ) → k < 11 → (at : ℕ) → at ≡ function_site count i + k → decode_of (drop k bytes) ≡ Some (j, n) → found_at (demo_of count) at ≡ There j n
    unfolding bytes rest
    one_of k j n l at e d = stands at (121 + 5 * count + 11 * i + k) (drop k bytes) j n (omega arith) (omega (arith, h)) (further count (121 + 5 * count + 11 * i) k bytes (at_function count i h).1) d

    function_stands : Stand (demo_of count) (function_site count i) (function_part (number_added count i))
    unfolding bytes bytes_of
    function_stands =
        let x = number_added count i in (
          refl,
          one_of 0 _ 6 (omega arith) (function_site count i) (omega arith) (add_again x (0x78 ∷ 0x02 ∷ 0xF7 ∷ 0xD0 ∷ 0xC3 ∷ rest) (number_small count i)),
          (
            refl,
            one_of 6 _ 2 (omega arith) (function_site count i + 6) (omega arith) (jump_sign (0xF7 ∷ 0xD0 ∷ 0xC3 ∷ rest)),
            (
              refl,
              one_of 8 _ 2 (omega arith) (function_site count i + 6 + 2) (omega arith) (invert_eax (0xC3 ∷ rest)),
              (refl, one_of 10 _ 1 (omega arith) (function_site count i + 6 + 2 + 2) (omega arith) (return rest), tt),
            ),
          ),
        )

pub sites : (count : ℕ) → 1 ≤ count → count ≤ 1000 → HasDemoSites count
sites count some few = record {
  entry = entry_stands count few;
  call = call_stands count few;
  write = write_stands count few;
  exit = exit_stands count few some;
  function = function_stands count few;
}
