-- What the reader answers, from its checks.
use Rattle.std.proofs.Common.{◌≡◌, ℕ, suc, ◌+◌, List, [], ◌∷◌, ◌++◌, length, take, map, Option, Some, None, sym, ap, ◌∙◌, arith}
use Rattle.std.specs.Prelude.{Ok, Err}
use Rattle.std.proofs.lemmas.Option.{none-some}
use Rattle.elf_read.specs.declared.exe.Segment.{Segment}
use Rattle.elf_read.specs.declared.exe.Exe.{Exe}
use Rattle.elf_read.specs.declared.exe.Reach.{Reach}
use Rattle.elf_read.specs.declared.exe.Reach.TheVariants.{Original}
use Rattle.elf_read.specs.declared.error.ElfError.{ElfError}
use Rattle.elf_read.specs.declared.error.ElfError.TheVariants as Answer
use Rattle.elf_read.specs.Elf.{Refused, field, loaded, refusals, table_refusals, first_refused, segment_of, end_of_last, round_up, exe_of, unless_refused, IsExe, elf}
use Rattle.elf_read.specs.Reads.{ReadsElf, Blames}
use Rattle.elf_read.proofs.Accepted.{accepted_exe}

stays : (n : ℕ) (xs ys : List (Option ℕ)) (r : Refused) → first_refused n xs ≡ Some r → first_refused n (xs ++ ys) ≡ Some r
stays n [] ys r e = absurd (none-some r e)
stays n (None ∷ xs) ys r e = stays (n + 1) xs ys r e
stays n (Some place ∷ xs) ys r e = e

goes_on : (n : ℕ) (xs ys : List (Option ℕ)) → first_refused n xs ≡ None → first_refused n (xs ++ ys) ≡ first_refused (n + length xs) ys
goes_on n [] ys e = let z : n ≡ n + 0 = omega arith in ap (λ n. first_refused n ys) z
goes_on n (None ∷ xs) ys e = let z : n + 1 + length xs ≡ n + suc (length xs) = omega arith in goes_on (n + 1) xs ys e ∙ ap (λ n. first_refused n ys) z
goes_on n (Some place ∷ xs) ys e = absurd (none-some _ (sym e))

pub refused_early : (reach : Reach) (bytes : List ℕ) (e : ElfError) → Blames e (first_refused 1 (take 6 (refusals Original bytes))) → ReadsElf reach bytes (Err e)
unfolding elf
refused_early reach bytes (Answer.Refused number place) h =
    ap (λ r. unless_refused r (exe_of (field 4 24 bytes) (map (segment_of bytes) (loaded bytes)))) (stays 1 (take 6 (refusals Original bytes)) (table_refusals reach bytes) _ h)
refused_early reach bytes Answer.Memory h = absurd h

whole : (reach : Reach) (bytes : List ℕ) → first_refused 1 (take 6 (refusals Original bytes)) ≡ None → first_refused 1 (refusals reach bytes) ≡ first_refused 7 (table_refusals reach bytes)
whole reach bytes h = goes_on 1 (take 6 (refusals Original bytes)) (table_refusals reach bytes) h

pub refused_late : (reach : Reach) (bytes : List ℕ) (e : ElfError) → first_refused 1 (take 6 (refusals Original bytes)) ≡ None → Blames e (first_refused 7 (table_refusals reach bytes)) → ReadsElf reach bytes (Err e)
unfolding elf
refused_late reach bytes (Answer.Refused number place) n h =
    ap (λ r. unless_refused r (exe_of (field 4 24 bytes) (map (segment_of bytes) (loaded bytes)))) (whole reach bytes n ∙ h)
refused_late reach bytes Answer.Memory n h = absurd h

pub accepted_now : (reach : Reach) (bytes : List ℕ) → first_refused 1 (take 6 (refusals Original bytes)) ≡ None → first_refused 7 (table_refusals reach bytes) ≡ None → elf reach bytes ≡ Ok (exe_of (field 4 24 bytes) (map (segment_of bytes) (loaded bytes)))
unfolding elf
accepted_now reach bytes n h = ap (λ r. unless_refused r (exe_of (field 4 24 bytes) (map (segment_of bytes) (loaded bytes)))) (whole reach bytes n ∙ h)

pub fields_now : (reach : Reach) (bytes : List ℕ) → first_refused 1 (take 6 (refusals Original bytes)) ≡ None → first_refused 7 (table_refusals reach bytes) ≡ None → IsExe reach (exe_of (field 4 24 bytes) (map (segment_of bytes) (loaded bytes)))
fields_now reach bytes n h = accepted_exe reach bytes _ (accepted_now reach bytes n h)

make_exe : ℕ → List Segment → ℕ → Exe
make_exe entry segments brk = record { entry = entry; segments = segments; brk_start = brk }

pub the_exe : (reach : Reach) (bytes : List ℕ) (entry : ℕ) (segments : List Segment) (brk : ℕ) → first_refused 1 (take 6 (refusals Original bytes)) ≡ None → first_refused 7 (table_refusals reach bytes) ≡ None → entry ≡ field 4 24 bytes → segments ≡ map (segment_of bytes) (loaded bytes) → brk ≡ round_up (end_of_last segments) → elf reach bytes ≡ Ok (record { entry = entry; segments = segments; brk_start = brk })
unfolding make_exe
the_exe reach bytes entry segments brk n h e s b =
    accepted_now reach bytes n h
    ∙ ap (λ x. Ok (exe_of x (map (segment_of bytes) (loaded bytes)))) (sym e)
    ∙ ap (λ x. Ok (exe_of entry x)) (sym s)
    ∙ ap (λ x. Ok (make_exe entry segments x)) (sym b)
