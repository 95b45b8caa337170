-- How long a written file is at most.
use Rattle.std.proofs.Common.{◌≡◌, ◌<◌, ◌≤◌, ◌+◌, ◌-◌, ◌*◌, ℕ, Bool, true, false, if◌then◌else◌, List, [], ◌∷◌, ◌++◌, length, ap, arith, length-append}
use Rattle.br_word.specs.Memory.{bytes_of, zeros}
use Rattle.br_word.proofs.Numbers.{length_zeros}
use Rattle.elf_read.specs.declared.exe.Segment.{Segment}
use Rattle.elf_read.specs.declared.exe.Exe.{Exe}
use Rattle.elf_write.specs.File.{padding, has_none, end_after, piece_of, program_header, program_headers, pieces, file_header, head_length, file_of}
use Rattle.code_layout.specs.declared.place.TheConstants.{CODE_START}
use Rattle.code_layout.specs.Image.{segments_with, image_with}

-- a segment's bytes with their padding
abbrev most_of : Segment → ℕ
most_of s = 4096 + length s.bytes

abbrev pub room : List Segment → ℕ
room [] = 0
room (s ∷ ss) = most_of s + room ss

padding_few : (at : ℕ) (s : Segment) → padding at s < 4096
padding_few at s = omega arith

piece_most : (at : ℕ) (s : Segment) → length (piece_of at s) ≤ most_of s
piece_most at s = go (has_none s)
  where
    go : (b : Bool) → length (if b then [] else zeros (padding at s) ++ s.bytes) ≤ most_of s
    go true = omega arith
    go false =
        let a = length-append (zeros (padding at s)) s.bytes in
        let b = length_zeros (padding at s) in
        let c = padding_few at s in
        omega (arith, a, b, c)

pieces_most : (at : ℕ) (ss : List Segment) → length (pieces at ss) ≤ room ss
pieces_most at [] = omega arith
pieces_most at (s ∷ ss) =
    let a = piece_most at s in
    let b = pieces_most (end_after at s) ss in
    let c = length-append (piece_of at s) (pieces (end_after at s) ss) in
    omega (arith, a, b, c)

row_length : (at : ℕ) (s : Segment) (rest : List ℕ) → length (program_header at s rest) ≡ 32 + length rest
unfolding bytes_of
row_length at s rest = omega arith

table_length : (at : ℕ) (ss : List Segment) (rest : List ℕ) → length (program_headers at ss rest) ≡ 32 * length ss + length rest
table_length at [] rest = omega arith
table_length at (s ∷ ss) rest =
    let a = row_length at s (program_headers (end_after at s) ss rest) in
    let b = table_length (end_after at s) ss rest in
    omega (arith, a, b)

header_length : (count entry : ℕ) (rest : List ℕ) → length (file_header count entry rest) ≡ 52 + length rest
unfolding bytes_of
header_length count entry rest = omega arith

file_most : (ss : List Segment) (entry : ℕ) → length (file_of ss entry) ≤ 52 + 32 * length ss + room ss
unfolding file_of
file_most ss entry =
    let start = head_length ss in
    let a = header_length (length ss) entry (program_headers start ss (pieces start ss)) in
    let b = table_length start ss (pieces start ss) in
    let c = pieces_most start ss in
    omega (arith, a, b, c)

-- of an original with one segment
pub image_most : (exe : Exe) (code : List ℕ) (s : Segment) → exe.segments ≡ s ∷ [] → length (image_with exe code) ≤ 12436 + length code + length s.bytes
unfolding image_with
image_most exe code s one =
    let f = file_most (segments_with exe code) CODE_START in
    let l = ap length one in
    let r = ap room one in
    omega (arith, f, l, r)
