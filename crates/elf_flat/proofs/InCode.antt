-- The code of a flat file stands from its entry on.
use Rattle.std.proofs.Common.{◌≡◌, ℕ, ◌+◌, ◌-◌, ◌<◌, ◌≤◌, true, ◌&&◌, ◌||◌, false, List, [], ◌++◌, length, drop, refl, sym, ap, ◌∙◌, arith, append-nil}
use Rattle.std.specs.Prelude.{nat_lt, nat_le, if◌then◌else◌}
use Rattle.std.proofs.lemmas.Bool.{le-leb, lt-ltb}
use Rattle.std.proofs.lemmas.List.{drop-drop}
use Rattle.br_word.specs.Memory.{bytes_of, zeros, AreBytes}
use Rattle.elf_read.specs.Elf.{is_exec}
use Rattle.elf_read.specs.Code.{segment_bytes, code_at}
use Rattle.elf_flat.specs.Flat.{flat_start, flat_entry, flat_length, headed, flat_file, flat_segment, flat_exe, IsFlatAccepted}
use Rattle.elf_flat.proofs.Bytes.{file_length, file_bytes}
use Rattle.elf_flat.proofs.Accepted.{is_read}

nothing : (code : List ℕ) → flat_file code ++ zeros 0 ≡ flat_file code
unfolding zeros
nothing code = append-nil (flat_file code)

segment_whole : (code : List ℕ) → segment_bytes (flat_segment code) ≡ flat_file code
segment_whole code =
    let l = file_length code in
    let z : flat_length code - length (flat_file code) ≡ 0 = omega arith in
    ap (λ n. flat_file code ++ zeros n) z ∙ nothing code

headers_passed : (size : ℕ) (rest : List ℕ) → drop 84 (headed size rest) ≡ rest
unfolding bytes_of
headers_passed size rest = refl

code_passed : (code : List ℕ) → drop 84 (flat_file code) ≡ code
unfolding flat_file
code_passed code = headers_passed (flat_length code) code

inside : (code : List ℕ) (off : ℕ) → off < length code → (nat_le flat_start (flat_entry + off) && nat_lt (flat_entry + off) (flat_start + flat_length code)) ≡ true
inside code off h =
    ap (λ b. b && nat_lt (flat_entry + off) (flat_start + flat_length code)) (le-leb flat_start (flat_entry + off) (omega arith))
    ∙ lt-ltb (flat_entry + off) (flat_start + flat_length code) (omega arith)

runs : (code : List ℕ) (off : ℕ) → off < length code → is_exec (flat_entry + off) (flat_exe code).segments ≡ true
runs code off h = ap (λ b. b || false) (inside code off h)

stands : (code : List ℕ) (off : ℕ) → off < length code → code_at (flat_entry + off) (flat_exe code).segments ≡ drop off code
stands code off h =
    let at = flat_entry + off in
    let o : at - flat_start ≡ 84 + off = omega arith in
    ap (λ b. if b then drop (at - flat_start) (segment_bytes (flat_segment code)) else []) (inside code off h)
    ∙ ap (λ n. drop n (segment_bytes (flat_segment code))) o
    ∙ ap (drop (84 + off)) (segment_whole code)
    ∙ sym (drop-drop off 84 (flat_file code))
    ∙ ap (drop off) (code_passed code)

pub is_accepted : (code : List ℕ) → AreBytes code → 0 < length code → flat_length code ≤ 67108864 → IsFlatAccepted code
is_accepted code bytes some few = record {
  bytes = file_bytes code bytes;
  long = file_length code;
  reads = λ reach. is_read reach code some few;
  runs = runs code;
  stands = stands code;
}
