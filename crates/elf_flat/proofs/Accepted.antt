-- A flat file is read as its executable.
use Rattle.std.proofs.Common.{◌≡◌, ℕ, ◌+◌, ◌*◌, ◌<◌, ◌≤◌, Bool, true, false, not, ◌&&◌, ◌||◌, List, [], ◌∷◌, length, map, get_or, Option, None, refl, ap, ◌∙◌, arith, lit≤}
use Rattle.std.specs.Prelude.{Ok, filter, nat_eq, nat_lt, if◌then◌else◌}
use Rattle.std.proofs.lemmas.Bool.{le-ltb, lt-ltb}
use Rattle.std.proofs.lemmas.List.{take_all}
use Rattle.br_word.specs.Memory.{number_of, bytes_of}
use Rattle.elf_read.specs.declared.exe.Segment.{Segment}
use Rattle.elf_read.specs.declared.exe.Reach.{Reach}
use Rattle.elf_read.specs.declared.exe.Reach.TheVariants.{Original, Guest}
use Rattle.elf_read.specs.declared.header.Header.{Header}
use Rattle.elf_read.specs.Elf.{lowest, most_segments, most_memory, field, table_of, is_loaded, loaded, first_where, place_if, is_other_kind, writes_code, is_outside, first_below, holds_entry, has_more_bytes, first_past, refusals, first_refused, segment_of, exe_of, unless_refused, elf}
use Rattle.elf_read.proofs.Refusals.{or_none, all_none}
use Rattle.elf_read.proofs.Numbers.{number_again}
use Rattle.elf_flat.specs.Flat.{flat_start, flat_entry, flat_length, headed, flat_file, flat_exe}
use Rattle.elf_flat.proofs.Bytes.{file_length}

abbrev head_with : ℕ → Header
head_with size = record { place = 52; kind = 1; offset = 0; vaddr = flat_start; filesz = size; memsz = size; flags = 5 }

no_place : (b : Bool) (place : ℕ) (o : Option ℕ) → b ≡ false → o ≡ None → place_if b place o ≡ None
no_place b place o e f = ap (λ b. place_if b place o) e ∙ f

and_no : (a b : Bool) → b ≡ false → (a && b) ≡ false
and_no true b e = e
and_no false b e = refl

table_is : (size : ℕ) (rest : List ℕ) → table_of (headed size rest) ≡ head_with (number_of (bytes_of 4 size)) ∷ []
unfolding bytes_of number_of
table_is size rest = refl

entry_is : (size : ℕ) (rest : List ℕ) → field 4 24 (headed size rest) ≡ flat_entry
unfolding bytes_of number_of
entry_is size rest = refl

module _ (reach : Reach) (size : ℕ) (rest : List ℕ) (whole : length (headed size rest) ≡ size) (some : 84 < size) (few : size ≤ 67108864) (low : nat_lt flat_start (lowest reach) ≡ false) (one : nat_eq (most_segments reach) 0 ≡ false) (room : 67108864 ≤ most_memory reach) where
  table_read : table_of (headed size rest) ≡ head_with size ∷ []
  table_read = table_is size rest ∙ ap (λ n. head_with n ∷ []) (number_again 4 size (omega arith))

  loaded_read : loaded (headed size rest) ≡ head_with size ∷ []
  loaded_read = ap (filter is_loaded) table_read ∙ ap (λ b. if b then head_with size ∷ [] else []) (lt-ltb 0 size (omega arith))

  magic : place_if (not (nat_eq (get_or (headed size rest) 0 0) 0x7F)) 0 (place_if (not (nat_eq (get_or (headed size rest) 1 0) 0x45)) 1 (place_if (not (nat_eq (get_or (headed size rest) 2 0) 0x4C)) 2 (place_if (not (nat_eq (get_or (headed size rest) 3 0) 0x46)) 3 None))) ≡ None
  magic = refl

  versions : place_if (not (nat_eq (get_or (headed size rest) 4 0) 1)) 4 (place_if (not (nat_eq (get_or (headed size rest) 5 0) 1)) 5 (place_if (not (nat_eq (get_or (headed size rest) 6 0) 1)) 6 (place_if (not (nat_eq (field 4 20 (headed size rest)) 1)) 20 None))) ≡ None
  unfolding bytes_of number_of
  versions = refl

  kind : place_if (not (nat_eq (field 2 16 (headed size rest)) 2)) 16 None ≡ None
  unfolding bytes_of number_of
  kind = refl

  machine : place_if (not (nat_eq (field 2 18 (headed size rest)) 3)) 18 None ≡ None
  unfolding bytes_of number_of
  machine = refl

  sizes : (o : Option ℕ) → place_if (not (nat_eq (field 2 40 (headed size rest)) 52)) 40 (place_if (not (nat_eq (field 2 42 (headed size rest)) 32)) 42 o) ≡ o
  unfolding bytes_of number_of
  sizes o = refl

  table_end : field 4 28 (headed size rest) + 32 * field 2 44 (headed size rest) ≡ 84
  unfolding bytes_of number_of
  table_end = refl

  table_inside : nat_lt (length (headed size rest)) (field 4 28 (headed size rest) + 32 * field 2 44 (headed size rest)) ≡ false
  table_inside = let e = table_end in le-ltb _ _ (omega arith)

  not_short : nat_lt (length (headed size rest)) 52 ≡ false
  not_short = le-ltb (length (headed size rest)) 52 (omega arith)

  not_outside : is_outside reach (length (headed size rest)) (head_with size) ≡ false
  not_outside =
      or_none _ _ low (or_none _ _ (le-ltb 0xA0000000 (flat_start + size) (omega arith)) (and_no _ _ (le-ltb (length (headed size rest)) (0 + size) (omega arith))))

  is_held : holds_entry (field 4 24 (headed size rest)) (loaded (headed size rest)) ≡ true
  is_held =
      ap (holds_entry (field 4 24 (headed size rest))) loaded_read
      ∙ ap (λ e. holds_entry e (head_with size ∷ [])) (entry_is size rest)
      ∙ ap (λ b. b || false) (lt-ltb flat_entry (flat_start + size) (omega arith))

  not_past : (nat_eq (most_segments reach) 0 || nat_lt (most_memory reach) size) ≡ false
  not_past = or_none _ _ one (le-ltb (most_memory reach) size (omega arith))

  no_refusal : first_refused 1 (refusals reach (headed size rest)) ≡ None
  no_refusal =
      let file = headed size rest in
      all_none 1 (refusals reach (headed size rest)) (
        no_place (nat_lt (length file) 52) (length file) None not_short refl,
        (
          magic,
          (
            versions,
            (
              kind,
              (
                machine,
                (
                  sizes _ ∙ no_place (nat_lt (length file) (field 4 28 file + 32 * field 2 44 file)) 28 None table_inside refl,
                  (
                    ap (first_where is_other_kind) table_read,
                    (
                      ap (first_where writes_code) loaded_read,
                      (
                        ap (first_where (is_outside reach (length file))) loaded_read ∙ no_place (is_outside reach (length file) (head_with size)) 52 None not_outside refl,
                        (
                          ap (first_below 0) loaded_read,
                          (
                            no_place (not (holds_entry (field 4 24 file) (loaded file))) 24 None (ap not is_held) refl,
                            (
                              ap (first_where has_more_bytes) table_read ∙ no_place (nat_lt size size) 52 None (le-ltb size size (omega arith)) refl,
                              (ap (first_past (most_segments reach) (most_memory reach)) loaded_read ∙ no_place (nat_eq (most_segments reach) 0 || nat_lt (most_memory reach) size) 52 None not_past refl, tt),
                            ),
                          ),
                        ),
                      ),
                    ),
                  ),
                ),
              ),
            ),
          ),
        ),
      )

  segments_read : map (segment_of (headed size rest)) (loaded (headed size rest)) ≡ (record { start = flat_start; size = size; perms = record { read = true; write = false; exec = true }; bytes = headed size rest }) ∷ []
  segments_read =
      ap (map (segment_of (headed size rest))) loaded_read
      ∙ ap (λ (bytes : List ℕ). let s : Segment = record { start = flat_start; size = size; perms = record { read = true; write = false; exec = true }; bytes = bytes } in s ∷ []) (take_all size (headed size rest) (omega arith))

  pub accepted : elf reach (headed size rest) ≡ Ok (exe_of flat_entry (record { start = flat_start; size = size; perms = record { read = true; write = false; exec = true }; bytes = headed size rest } ∷ []))
  unfolding elf
  accepted =
      ap (λ r. unless_refused r (exe_of (field 4 24 (headed size rest)) (map (segment_of (headed size rest)) (loaded (headed size rest))))) no_refusal
      ∙ ap (λ e. Ok (exe_of e (map (segment_of (headed size rest)) (loaded (headed size rest))))) (entry_is size rest)
      ∙ ap (λ ss. Ok (exe_of flat_entry ss)) segments_read

in_reach : (reach : Reach) (code : List ℕ) → 0 < length code → flat_length code ≤ 67108864 → nat_lt flat_start (lowest reach) ≡ false → nat_eq (most_segments reach) 0 ≡ false → 67108864 ≤ most_memory reach → elf reach (flat_file code) ≡ Ok (flat_exe code)
unfolding flat_file
in_reach reach code some few low one room = accepted reach (flat_length code) code (file_length code) (omega arith) few low one room

pub is_read : (reach : Reach) (code : List ℕ) → 0 < length code → flat_length code ≤ 67108864 → elf reach (flat_file code) ≡ Ok (flat_exe code)
is_read Original code some few = in_reach Original code some few refl refl (lit≤ tt)
is_read Guest code some few = in_reach Guest code some few refl refl (lit≤ tt)
