-- The file: what it is read as, and how long it is.
use Rattle.std.proofs.Common.{◌≡◌, ℕ, ◌+◌, ◌*◌, ◌<◌, ◌≤◌, true, false, ◌&&◌, if◌then◌else◌, List, [], ◌∷◌, ◌++◌, length, refl, sym, ap, ◌∙◌, arith, length-append, lit<, lit≤, ⊎_elim}
use Rattle.std.specs.Prelude.{Ok, ◌||◌}
use Rattle.std.proofs.lemmas.Bool.{cases_Bool, lt-ltb, eqb-true}
use Rattle.br_word.specs.Memory.{bytes_of, zeros}
use Rattle.elf_read.specs.declared.exe.Segment.{Segment}
use Rattle.elf_read.specs.declared.exe.Exe.{Exe}
use Rattle.elf_read.specs.declared.exe.Reach.TheVariants.{Guest}
use Rattle.elf_read.specs.Elf.{IsOriginal, is_exec, end_of_last, round_up, exe_of, elf}
use Rattle.elf_read.proofs.Accepted.{lower, ascend_from}
use Rattle.elf_write.specs.File.{has_none, padding, piece_of, end_after, program_header, program_headers, pieces, file_header, head_length, file_of, IsWritable, ReadsBack}
use Rattle.code_layout.specs.declared.place.TheConstants.{CODE_START, MAX_CODE}
use Rattle.code_layout.specs.Image.{code_segment, private_segment, segments_with, image_with}
use Rattle.sim_runs.specs.Promised.{laid_exe}

-- ---- what it is read as

module _ (exe : Exe) (original : IsOriginal exe) (code : List ℕ) (some : 0 < length code) (room : length code ≤ MAX_CODE) where
  writable : IsWritable (segments_with exe code) CODE_START
  writable =
      let c = original.count in
      let m = original.memory in
      record {
        count = omega (arith, c);
        each = (
          record { low = lit≤ tt; high = omega (arith, room); some = some; bytes = omega arith; perms = refl },
          (record { low = lit≤ tt; high = lit≤ tt; some = lit< tt; bytes = lit≤ tt; perms = refl }, lower 0x01000000 0x08000000 exe.segments (lit≤ tt) original.segments),
        );
        order = (lit≤ tt, (omega (arith, room), ascend_from (0x07000000 + 65536) 0x08000000 exe.segments (lit≤ tt) original.segments original.order));
        entry_small = lit< tt;
        entry_held = ap (λ b. (true && (true && b)) || (false || is_exec CODE_START exe.segments)) (lt-ltb CODE_START (CODE_START + length code) (omega (arith, some)));
        memory = omega (arith, m, room);
      }

  not_empty : (ss : List Segment) → is_exec exe.entry ss ≡ true → end_of_last (private_segment ∷ ss) ≡ end_of_last ss
  not_empty [] e = cc
  not_empty (s ∷ ss) e = refl

  with_brk : ℕ → Exe
  with_brk b = record { entry = CODE_START; segments = segments_with exe code; brk_start = b }

  same_brk : exe_of CODE_START (segments_with exe code) ≡ laid_exe exe (code_segment code)
  unfolding with_brk
  same_brk = ap (λ n. with_brk (round_up n)) (not_empty exe.segments original.entry) ∙ ap with_brk (sym original.brk)

  pub accepted_as : ReadsBack → elf Guest (image_with exe code) ≡ Ok (laid_exe exe (code_segment code))
  unfolding image_with
  accepted_as reads = reads (segments_with exe code) CODE_START writable ∙ ap Ok same_brk

-- ---- how long it is

header_long : (count entry : ℕ) (rest : List ℕ) → length (file_header count entry rest) ≡ 52 + length rest
unfolding bytes_of
header_long count entry rest = omega arith

row_long : (at : ℕ) (s : Segment) (rest : List ℕ) → length (program_header at s rest) ≡ 32 + length rest
unfolding bytes_of
row_long at s rest = omega arith

table_long : (at : ℕ) (ss : List Segment) (rest : List ℕ) → 32 * length ss + length rest ≤ length (program_headers at ss rest)
table_long at [] rest = omega arith
table_long at (s ∷ ss) rest =
    let q = table_long (end_after at s) ss rest in
    let r = row_long at s (program_headers (end_after at s) ss rest) in
    omega (arith, q, r)

piece_long : (at : ℕ) (s : Segment) → length s.bytes ≤ length (piece_of at s)
piece_long at s = ⊎_elim
    (λ (e : has_none s ≡ true). let z = eqb-true (length s.bytes) 0 e in omega (arith, z))
    (λ (e : has_none s ≡ false).
    let q = length-append (zeros (padding at s)) s.bytes in
    let r : piece_of at s ≡ zeros (padding at s) ++ s.bytes = ap (λ b. if b then [] else zeros (padding at s) ++ s.bytes) e in
    let l = ap length r in
    omega (arith, q, l))
    (cases_Bool (has_none s))

pieces_long : (at : ℕ) (s : Segment) (ss : List Segment) → length s.bytes ≤ length (pieces at (s ∷ ss))
pieces_long at s ss =
    let q = piece_long at s in
    let r = length-append (piece_of at s) (pieces (end_after at s) ss) in
    omega (arith, q, r)

pub file_long : (exe : Exe) (code : List ℕ) → 52 + 32 * (2 + length exe.segments) + length code ≤ length (image_with exe code)
unfolding image_with file_of
file_long exe code =
    let ss = segments_with exe code in
    let start = head_length ss in
    let h = header_long (length ss) CODE_START (program_headers start ss (pieces start ss)) in
    let t = table_long start ss (pieces start ss) in
    let p = pieces_long start (code_segment code) (private_segment ∷ exe.segments) in
    omega (arith, h, t, p)
