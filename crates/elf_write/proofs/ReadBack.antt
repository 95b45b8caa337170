-- What is written is read again.
use Rattle.std.proofs.Common.{◌≡◌, ℕ, ◌+◌, ◌-◌, ◌*◌, ◌%◌, ◌^◌, ◌<◌, ◌≤◌, Bool, true, false, not, ◌&&◌, ◌||◌, List, [], ◌∷◌, ◌++◌, length, take, drop, map, get_or, Option, Some, None, refl, sym, ap, ◌∙◌, arith, append_assoc, length-append, lit<}
use Rattle.std.specs.Prelude.{Ok, filter, nat_eq, nat_lt, nat_le, if◌then◌else◌}
use Rattle.std.proofs.lemmas.Bool.{le-ltb, lt-ltb, ne_eqb, eqb-true}
use Rattle.std.proofs.lemmas.List.{take_at, drop_at}
use Rattle.br_word.specs.declared.types.Perms.{Perms}
use Rattle.br_word.specs.Memory.{number_of, bytes_of, zeros}
use Rattle.elf_read.specs.declared.exe.Segment.{Segment}
use Rattle.elf_read.specs.declared.exe.Reach.TheVariants.{Guest}
use Rattle.elf_read.specs.declared.header.Header.{Header}
use Rattle.elf_read.specs.Elf.{AreSegments, Ascend, is_exec, sizes, field, header_at, headers, table_of, perms_of, is_loaded, loaded, first_where, place_if, is_other_kind, writes_code, is_outside, first_below, holds_entry, has_more_bytes, first_past, refusals, first_refused, segment_of, exe_of, unless_refused, elf}
use Rattle.elf_write.specs.File.{flags_of_perms, has_none, padding, offset_of, end_after, piece_of, program_header, program_headers, pieces, file_header, head_length, file_of, IsWritable}
use Rattle.elf_read.proofs.Refusals.{or_none, pass}
use Rattle.elf_read.proofs.Walk.{make, same_make}
use Rattle.elf_read.proofs.Numbers.{number_again, length_zeros}

abbrev head_of : ℕ → ℕ → Segment → Header
head_of at place s = record {
  place = place;
  kind = 1;
  offset = offset_of at s;
  vaddr = s.start;
  filesz = length s.bytes;
  memsz = s.size;
  flags = flags_of_perms s.perms;
}

abbrev heads : ℕ → ℕ → List Segment → List Header
heads at place [] = []
heads at place (s ∷ ss) = head_of at place s ∷ heads (end_after at s) (place + 32) ss

head_read : (at place : ℕ) (s : Segment) (rest : List ℕ) → header_at place (program_header at s rest) ≡ make place 1 (number_of (bytes_of 4 (offset_of at s))) (number_of (bytes_of 4 s.start)) (number_of (bytes_of 4 (length s.bytes))) (number_of (bytes_of 4 s.size)) (number_of (bytes_of 4 (flags_of_perms s.perms)))
unfolding make bytes_of number_of
head_read at place s rest = refl

head_passed : (at : ℕ) (s : Segment) (rest : List ℕ) → drop 32 (program_header at s rest) ≡ rest
unfolding bytes_of
head_passed at s rest = refl

flags_small : (p : Perms) → flags_of_perms p < 8
flags_small p = go p.read p.write p.exec
  where
    go : (r w x : Bool) → flags_of_perms (record { read = r; write = w; exec = x }) < 8
    go true true true = lit< tt
    go true true false = lit< tt
    go true false true = lit< tt
    go true false false = lit< tt
    go false true true = lit< tt
    go false true false = lit< tt
    go false false true = lit< tt
    go false false false = lit< tt

perms_again : (p : Perms) → perms_of (flags_of_perms p) ≡ p
perms_again p = go p.read p.write p.exec
  where
    go : (r w x : Bool) → perms_of (flags_of_perms (record { read = r; write = w; exec = x })) ≡ record { read = r; write = w; exec = x }
    go true true true = refl
    go true true false = refl
    go true false true = refl
    go true false false = refl
    go false true true = refl
    go false true false = refl
    go false false true = refl
    go false false false = refl

pub end_bound : (at : ℕ) (s : Segment) → length s.bytes ≤ s.size → end_after at s ≤ at + 4096 + s.size
end_bound at s h = go (has_none s)
  where
    go : (b : Bool) → (if b then at else at + padding at s + length s.bytes) ≤ at + 4096 + s.size
    go true = omega arith
    go false = omega arith

offset_bound : (at : ℕ) (s : Segment) → at ≤ 2 ^ 31 → offset_of at s < 256 ^ 4
offset_bound at s h = go (has_none s)
  where
    go : (b : Bool) → (if b then s.start % 4096 else at + padding at s) < 256 ^ 4
    go true = omega arith
    go false = omega arith

headers_read : (low at place : ℕ) (ss : List Segment) (rest : List ℕ) → AreSegments low ss → at + 4096 * length ss + sizes ss ≤ 2 ^ 31 → headers (length ss) place (program_headers at ss rest) ≡ heads at place ss
unfolding make
headers_read low at place [] rest h f = refl
headers_read low at place (s ∷ ss) rest h f =
    let more = program_headers (end_after at s) ss rest in
    let f1 : at ≤ 2 ^ 31 = omega arith in
    let lo = h.0.high in
    let b = h.0.bytes in
    let n1 : s.start < 256 ^ 4 = omega arith in
    let n2 : length s.bytes < 256 ^ 4 = omega arith in
    let n3 : s.size < 256 ^ 4 = omega arith in
    let g = flags_small s.perms in
    let n4 : flags_of_perms s.perms < 256 ^ 4 = omega arith in
    let e = end_bound at s b in
    let f2 : end_after at s + 4096 * length ss + sizes ss ≤ 2 ^ 31 = omega arith in
    ap (λ x. x ∷ headers (length ss) (place + 32) (drop 32 (program_header at s more)))
    (head_read at place s more ∙ same_make place 1 1 _ _ _ _ _ _ _ _ _ _ refl (number_again 4 _ (offset_bound at s f1)) (number_again 4 _ n1) (number_again 4 _ n2) (number_again 4 _ n3) (number_again 4 _ n4))
    ∙ ap (λ bytes. make place 1 (offset_of at s) s.start (length s.bytes) s.size (flags_of_perms s.perms) ∷ headers (length ss) (place + 32) bytes) (head_passed at s more)
    ∙ ap (λ hs. make place 1 (offset_of at s) s.start (length s.bytes) s.size (flags_of_perms s.perms) ∷ hs) (headers_read low (end_after at s) (place + 32) ss rest h.1 f2)

all_loaded : (low at place : ℕ) (ss : List Segment) → AreSegments low ss → filter is_loaded (heads at place ss) ≡ heads at place ss
all_loaded low at place [] h = refl
all_loaded low at place (s ∷ ss) h =
    let rest = heads (end_after at s) (place + 32) ss in
    ap (λ b. if b then head_of at place s ∷ filter is_loaded rest else filter is_loaded rest) (lt-ltb 0 s.size h.0.some)
    ∙ ap (λ hs. head_of at place s ∷ hs) (all_loaded low (end_after at s) (place + 32) ss h.1)

empty_taken : (xs ys : List ℕ) → length xs ≡ 0 → take (length xs) ys ≡ xs
empty_taken [] ys h = refl
empty_taken (x ∷ xs) ys h = absurd (omega arith)

bytes_read : (pre more : List ℕ) (at : ℕ) (s : Segment) → length pre ≡ at → take (length s.bytes) (drop (offset_of at s) (pre ++ (piece_of at s ++ more))) ≡ s.bytes
bytes_read pre more at s h = go (has_none s) refl
  where
    go : (b : Bool) → has_none s ≡ b → take (length s.bytes) (drop (if b then s.start % 4096 else at + padding at s) (pre ++ ((if b then [] else zeros (padding at s) ++ s.bytes) ++ more))) ≡ s.bytes
    go true e = empty_taken s.bytes _ (eqb-true (length s.bytes) 0 e)
    go false e =
        let p = zeros (padding at s) in
        let flat : pre ++ ((p ++ s.bytes) ++ more) ≡ (pre ++ p) ++ (s.bytes ++ more) = simp append_assoc in
        let l : length (pre ++ p) ≡ at + padding at s = omega (arith, length-append pre p, length_zeros (padding at s)) in
        ap (λ bytes. take (length s.bytes) (drop (at + padding at s) bytes)) flat
        ∙ ap (take (length s.bytes)) (drop_at (pre ++ p) (s.bytes ++ more) (at + padding at s) l)
        ∙ take_at s.bytes more (length s.bytes) refl

piece_length : (pre : List ℕ) (at : ℕ) (s : Segment) → length pre ≡ at → length (pre ++ piece_of at s) ≡ end_after at s
piece_length pre at s h = go (has_none s)
  where
    go : (b : Bool) → length (pre ++ (if b then [] else zeros (padding at s) ++ s.bytes)) ≡ (if b then at else at + padding at s + length s.bytes)
    go true = omega (arith, length-append pre [])
    go false = omega (arith, length-append pre (zeros (padding at s) ++ s.bytes), length-append (zeros (padding at s)) s.bytes, length_zeros (padding at s))

make_segment : ℕ → ℕ → Perms → List ℕ → Segment
make_segment start size perms bytes = record { start = start; size = size; perms = perms; bytes = bytes }

segments_read : (pre : List ℕ) (at place : ℕ) (ss : List Segment) → length pre ≡ at → map (segment_of (pre ++ pieces at ss)) (heads at place ss) ≡ ss
unfolding make_segment
segments_read pre at place [] h = refl
segments_read pre at place (s ∷ ss) h =
    let more = pieces (end_after at s) ss in
    let all = pre ++ (piece_of at s ++ more) in
    let flat : (pre ++ piece_of at s) ++ more ≡ all = append_assoc pre (piece_of at s) more in
    ap (λ bytes. make_segment s.start s.size (perms_of (flags_of_perms s.perms)) bytes ∷ map (segment_of all) (heads (end_after at s) (place + 32) ss)) (bytes_read pre more at s h)
    ∙ ap (λ perms. make_segment s.start s.size perms s.bytes ∷ map (segment_of all) (heads (end_after at s) (place + 32) ss)) (perms_again s.perms)
    ∙ ap (λ bytes. s ∷ map (segment_of bytes) (heads (end_after at s) (place + 32) ss)) (sym flat)
    ∙ ap (λ ss. s ∷ ss) (segments_read (pre ++ piece_of at s) (end_after at s) (place + 32) ss (piece_length pre at s h))

and_no : (a b : Bool) → b ≡ false → (a && b) ≡ false
and_no true b e = e
and_no false b e = refl

none_where : (p : Header → Bool) (h : Header) (hs : List Header) → p h ≡ false → first_where p hs ≡ None → first_where p (h ∷ hs) ≡ None
none_where p h hs e f = ap (λ b. if b then Some h.place else first_where p hs) e ∙ f

no_other_kind : (at place : ℕ) (ss : List Segment) → first_where is_other_kind (heads at place ss) ≡ None
no_other_kind at place [] = refl
no_other_kind at place (s ∷ ss) = no_other_kind (end_after at s) (place + 32) ss

none_writes_code : (low at place : ℕ) (ss : List Segment) → AreSegments low ss → first_where writes_code (heads at place ss) ≡ None
none_writes_code low at place [] h = refl
none_writes_code low at place (s ∷ ss) h =
    none_where writes_code (head_of at place s) (heads (end_after at s) (place + 32) ss) (ap (λ p. p.write && p.exec) (perms_again s.perms) ∙ h.0.perms) (none_writes_code low (end_after at s) (place + 32) ss h.1)

none_outside : (at place total : ℕ) (ss : List Segment) → AreSegments 0x01000000 ss → at + length (pieces at ss) ≤ total → first_where (is_outside Guest total) (heads at place ss) ≡ None
none_outside at place total [] h l = refl
none_outside at place total (s ∷ ss) h l =
    none_where (is_outside Guest total) (head_of at place s) (heads (end_after at s) (place + 32) ss)
    (or_none _ _ (le-ltb s.start 0x01000000 h.0.low) (or_none _ _ (le-ltb 0xA0000000 (s.start + s.size) h.0.high) (inside (has_none s) refl)))
    (none_outside (end_after at s) (place + 32) total ss h.1 rest_inside)
  where
    more : ℕ
    more = length (pieces (end_after at s) ss)

    whole : (b : Bool) → has_none s ≡ b → length (pieces at (s ∷ ss)) ≡ length (if b then [] else zeros (padding at s) ++ s.bytes) + more
    whole b e = ap (λ b. length ((if b then [] else zeros (padding at s) ++ s.bytes) ++ pieces (end_after at s) ss)) e ∙ length-append (if b then [] else zeros (padding at s) ++ s.bytes) (pieces (end_after at s) ss)

    sum_is : (b : Bool) → has_none s ≡ b → at + length (pieces at (s ∷ ss)) ≡ (if b then at else at + padding at s + length s.bytes) + more
    sum_is true e = omega (arith, whole true e)
    sum_is false e = omega (arith, whole false e, length-append (zeros (padding at s)) s.bytes, length_zeros (padding at s))

    rest_inside : end_after at s + more ≤ total
    rest_inside = let e = sum_is (has_none s) refl in omega arith

    inside : (b : Bool) → has_none s ≡ b → (nat_lt 0 (length s.bytes) && nat_lt total ((if b then s.start % 4096 else at + padding at s) + length s.bytes)) ≡ false
    inside true e =
        let z = eqb-true (length s.bytes) 0 e in
        ap (λ b. b && nat_lt total (s.start % 4096 + length s.bytes)) (le-ltb 0 (length s.bytes) (omega arith))
    inside false e =
        let z = sum_is false e in
        and_no _ _ (le-ltb total (at + padding at s + length s.bytes) (omega arith))

none_below : (end at place : ℕ) (ss : List Segment) → Ascend end ss → first_below end (heads at place ss) ≡ None
none_below end at place [] h = refl
none_below end at place (s ∷ ss) h =
    ap (λ b. if b then Some place else first_below (s.start + s.size) (heads (end_after at s) (place + 32) ss)) (le-ltb s.start end h.0)
    ∙ none_below (s.start + s.size) (end_after at s) (place + 32) ss h.1

entry_held : (entry at place : ℕ) (ss : List Segment) → holds_entry entry (heads at place ss) ≡ is_exec entry ss
entry_held entry at place [] = refl
entry_held entry at place (s ∷ ss) =
    ap (λ p. (p.exec && (nat_le s.start entry && nat_lt entry (s.start + s.size))) || holds_entry entry (heads (end_after at s) (place + 32) ss)) (perms_again s.perms)
    ∙ ap (λ b. (s.perms.exec && (nat_le s.start entry && nat_lt entry (s.start + s.size))) || b) (entry_held entry (end_after at s) (place + 32) ss)

none_has_more : (low at place : ℕ) (ss : List Segment) → AreSegments low ss → first_where has_more_bytes (heads at place ss) ≡ None
none_has_more low at place [] h = refl
none_has_more low at place (s ∷ ss) h =
    none_where has_more_bytes (head_of at place s) (heads (end_after at s) (place + 32) ss) (le-ltb s.size (length s.bytes) h.0.bytes) (none_has_more low (end_after at s) (place + 32) ss h.1)

none_past : (count room at place : ℕ) (ss : List Segment) → length ss ≤ count → sizes ss ≤ room → first_past count room (heads at place ss) ≡ None
none_past count room at place [] h k = refl
none_past count room at place (s ∷ ss) h k =
    ap (λ b. if b then Some place else first_past (count - 1) (room - s.size) (heads (end_after at s) (place + 32) ss))
    (or_none _ _ (ne_eqb count 0 (omega arith)) (le-ltb room s.size (omega arith)))
    ∙ none_past (count - 1) (room - s.size) (end_after at s) (place + 32) ss (omega arith) (omega arith)

one_header_length : (at : ℕ) (s : Segment) (more : List ℕ) → length (program_header at s more) ≡ 32 + length more
unfolding bytes_of
one_header_length at s more = omega arith

headers_length : (at : ℕ) (ss : List Segment) (rest : List ℕ) → length (program_headers at ss rest) ≡ 32 * length ss + length rest
headers_length at [] rest = omega arith
headers_length at (s ∷ ss) rest =
    let e = headers_length (end_after at s) ss rest in
    one_header_length at s (program_headers (end_after at s) ss rest) ∙ omega arith

file_head_length : (count entry : ℕ) (rest : List ℕ) → length (file_header count entry rest) ≡ 52 + length rest
unfolding bytes_of
file_head_length count entry rest = omega arith

pub headers_apart : (at : ℕ) (ss : List Segment) (rest : List ℕ) → program_headers at ss rest ≡ program_headers at ss [] ++ rest
unfolding bytes_of
headers_apart at [] rest = refl
headers_apart at (s ∷ ss) rest = ap (program_header at s) (headers_apart (end_after at s) ss rest)

pub file_head_apart : (count entry : ℕ) (a rest : List ℕ) → file_header count entry (a ++ rest) ≡ file_header count entry a ++ rest
unfolding bytes_of
file_head_apart count entry a rest = refl

no_place : (b : Bool) (place : ℕ) (o : Option ℕ) → b ≡ false → o ≡ None → place_if b place o ≡ None
no_place b place o e f = ap (λ b. place_if b place o) e ∙ f

module _ (segments : List Segment) (entry : ℕ) (w : IsWritable segments entry) where
  body : List ℕ
  body = pieces (head_length segments) segments

  table : List ℕ
  table = program_headers (head_length segments) segments (pieces (head_length segments) segments)

  field_count : field 2 44 (file_of segments entry) ≡ length segments
  unfolding file_of bytes_of number_of
  field_count = let c = w.count in number_again 2 (length segments) (omega arith)

  field_entry : field 4 24 (file_of segments entry) ≡ entry
  unfolding file_of bytes_of number_of
  field_entry = let c = w.entry_small in number_again 4 entry (omega arith)

  field_table : field 4 28 (file_of segments entry) ≡ 52
  unfolding file_of bytes_of number_of
  field_table = refl

  table_passed : drop 52 (file_of segments entry) ≡ table
  unfolding file_of bytes_of table
  table_passed = refl

  table_read : table_of (file_of segments entry) ≡ heads (head_length segments) 52 segments
  unfolding table
  table_read =
      let c = w.count in
      let m = w.memory in
      ap (λ n. headers n (field 4 28 (file_of segments entry)) (drop (field 4 28 (file_of segments entry)) (file_of segments entry))) field_count
      ∙ ap (λ at. headers (length segments) at (drop at (file_of segments entry))) field_table
      ∙ ap (headers (length segments) 52) table_passed
      ∙ headers_read 0x01000000 (head_length segments) 52 segments (pieces (head_length segments) segments) w.each (omega arith)

  loaded_read : loaded (file_of segments entry) ≡ heads (head_length segments) 52 segments
  loaded_read = ap (filter is_loaded) table_read ∙ all_loaded 0x01000000 (head_length segments) 52 segments w.each

  file_length : length (file_of segments entry) ≡ head_length segments + length (pieces (head_length segments) segments)
  unfolding file_of
  file_length = omega (arith, file_head_length (length segments) entry (program_headers (head_length segments) segments (pieces (head_length segments) segments)), headers_length (head_length segments) segments (pieces (head_length segments) segments))

  head : List ℕ
  head = file_header (length segments) entry (program_headers (head_length segments) segments [])

  file_apart : file_of segments entry ≡ head ++ pieces (head_length segments) segments
  unfolding file_of head
  file_apart = ap (file_header (length segments) entry) (headers_apart (head_length segments) segments (pieces (head_length segments) segments)) ∙ file_head_apart (length segments) entry (program_headers (head_length segments) segments []) (pieces (head_length segments) segments)

  head_is : length head ≡ head_length segments
  unfolding head
  head_is = omega (arith, file_head_length (length segments) entry (program_headers (head_length segments) segments []), headers_length (head_length segments) segments [])

  segments_again : map (segment_of (file_of segments entry)) (loaded (file_of segments entry)) ≡ segments
  segments_again =
      ap (map (segment_of (file_of segments entry))) loaded_read
      ∙ ap (λ bytes. map (segment_of bytes) (heads (head_length segments) 52 segments)) file_apart
      ∙ segments_read head (head_length segments) 52 segments head_is

  magic : place_if (not (nat_eq (get_or (file_of segments entry) 0 0) 0x7F)) 0 (place_if (not (nat_eq (get_or (file_of segments entry) 1 0) 0x45)) 1 (place_if (not (nat_eq (get_or (file_of segments entry) 2 0) 0x4C)) 2 (place_if (not (nat_eq (get_or (file_of segments entry) 3 0) 0x46)) 3 None))) ≡ None
  unfolding file_of
  magic = refl

  versions : place_if (not (nat_eq (get_or (file_of segments entry) 4 0) 1)) 4 (place_if (not (nat_eq (get_or (file_of segments entry) 5 0) 1)) 5 (place_if (not (nat_eq (get_or (file_of segments entry) 6 0) 1)) 6 (place_if (not (nat_eq (field 4 20 (file_of segments entry)) 1)) 20 None))) ≡ None
  unfolding file_of bytes_of number_of
  versions = refl

  kinds : (place_if (not (nat_eq (field 2 16 (file_of segments entry)) 2)) 16 None ≡ None) × (place_if (not (nat_eq (field 2 18 (file_of segments entry)) 3)) 18 None ≡ None)
  unfolding file_of bytes_of number_of
  kinds = (refl, refl)

  sizes_right : (o : Option ℕ) → place_if (not (nat_eq (field 2 40 (file_of segments entry)) 52)) 40 (place_if (not (nat_eq (field 2 42 (file_of segments entry)) 32)) 42 o) ≡ o
  unfolding file_of bytes_of number_of
  sizes_right o = refl

  table_inside : nat_lt (length (file_of segments entry)) (field 4 28 (file_of segments entry) + 32 * field 2 44 (file_of segments entry)) ≡ false
  table_inside =
      let a = field_count in
      let b = field_table in
      let c = file_length in
      le-ltb _ _ (omega arith)

  no_refusal : first_refused 1 (refusals Guest (file_of segments entry)) ≡ None
  no_refusal =
      let file = file_of segments entry in
      let hs = heads (head_length segments) 52 segments in
      let l = file_length in
      pass 1 _ _ (no_place _ _ _ (le-ltb (length file) 52 (omega arith)) refl)
      ∙ pass 2 _ _ magic
      ∙ pass 3 _ _ versions
      ∙ pass 4 _ _ kinds.0
      ∙ pass 5 _ _ kinds.1
      ∙ pass 6 _ _ (sizes_right _ ∙ no_place _ _ _ table_inside refl)
      ∙ pass 7 _ _ (ap (first_where is_other_kind) table_read ∙ no_other_kind (head_length segments) 52 segments)
      ∙ pass 8 _ _ (ap (first_where writes_code) loaded_read ∙ none_writes_code 0x01000000 (head_length segments) 52 segments w.each)
      ∙ pass 9 _ _ (ap (first_where (is_outside Guest (length file))) loaded_read ∙ none_outside (head_length segments) 52 (length file) segments w.each (omega arith))
      ∙ pass 10 _ _ (ap (first_below 0) loaded_read ∙ none_below 0 (head_length segments) 52 segments w.order)
      ∙ pass 11 _ _ (no_place _ _ _ (ap not (ap (holds_entry (field 4 24 file)) loaded_read ∙ ap (λ e. holds_entry e hs) field_entry ∙ entry_held entry (head_length segments) 52 segments ∙ w.entry_held)) refl)
      ∙ pass 12 _ _ (ap (first_where has_more_bytes) table_read ∙ none_has_more 0x01000000 (head_length segments) 52 segments w.each)
      ∙ pass 13 _ _ (ap (first_past 66 268435456) loaded_read ∙ none_past 66 268435456 (head_length segments) 52 segments w.count w.memory)

  pub read_back : elf Guest (file_of segments entry) ≡ Ok (exe_of entry segments)
  unfolding elf
  read_back =
      ap (λ r. unless_refused r (exe_of (field 4 24 (file_of segments entry)) (map (segment_of (file_of segments entry)) (loaded (file_of segments entry))))) no_refusal
      ∙ ap (λ e. Ok (exe_of e (map (segment_of (file_of segments entry)) (loaded (file_of segments entry))))) field_entry
      ∙ ap (λ ss. Ok (exe_of entry ss)) segments_again
