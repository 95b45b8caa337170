-- A file is of bytes or not; of one that is, so are the segments.
use Rattle.std.proofs.Common.{◌≡◌, ℕ, ◌-◌, ◌<◌, Bool, true, false, List, [], ◌∷◌, length, drop, map, Ok, Option, Some, None, ◌⊎◌, inl, inr, refl, subst, arith}
use Rattle.std.specs.Prelude.{nat_lt}
use Rattle.std.proofs.lemmas.Bool.{ltb-true, ltb-false}
use Rattle.std.proofs.lemmas.List.Elements.{All-nil, All-cons, All-head, All-tail, All-append, All-take, All-drop, All-replicate}
use Rattle.br_word.specs.Memory.{zeros, AreBytes, HoldBytes}
use Rattle.elf_read.specs.declared.exe.Exe.{Exe}
use Rattle.elf_read.specs.declared.exe.Reach.{Reach}
use Rattle.elf_read.specs.declared.header.Header.{Header}
use Rattle.elf_read.specs.Elf.{Refused, field, loaded, refusals, first_refused, segment_of, exe_of, unless_refused, elf}
use Rattle.elf_read.specs.Regions.{region_of}
use Rattle.image_laws.specs.Serves.{HaveBytes}

abbrev IsByte : ℕ → Type 0
IsByte b = b < 256

-- ---- whether it is

pub bytes_or_not : (file : List ℕ) → AreBytes file ⊎ (AreBytes file → ⊥)
bytes_or_not [] = inl (All-nil IsByte)
bytes_or_not (b ∷ bs) = join (nat_lt b 256) refl (bytes_or_not bs)
  where
    join : (t : Bool) → nat_lt b 256 ≡ t → AreBytes bs ⊎ (AreBytes bs → ⊥) → AreBytes (b ∷ bs) ⊎ (AreBytes (b ∷ bs) → ⊥)
    join true e (inl h) = inl (All-cons IsByte b bs (ltb-true b 256 e) h)
    join true e (inr wrong) = inr (λ h. wrong (All-tail IsByte b bs h))
    join false e r = inr (λ h. let l = ltb-false b 256 e in let k = All-head IsByte b bs h in absurd (omega (arith, l, k)))

-- ---- its segments

zero_bytes : (n : ℕ) → AreBytes (zeros n)
unfolding zeros
zero_bytes n = All-replicate IsByte n 0 (omega arith)

pub segments_of_bytes : (reach : Reach) (file : List ℕ) (exe : Exe) → AreBytes file → elf reach file ≡ Ok exe → HaveBytes exe
unfolding elf
segments_of_bytes reach file exe h e = by_result (first_refused 1 (refusals reach file)) e
  where
    each : (hs : List Header) → HoldBytes (map region_of (map (segment_of file) hs))
    each [] = All-nil (λ r. AreBytes r.bytes)
    each (x ∷ hs) =
        let s = segment_of file x in
        All-cons (λ r. AreBytes r.bytes) (region_of s) (map region_of (map (segment_of file) hs))
        (All-append IsByte s.bytes (zeros (s.size - length s.bytes)) (All-take IsByte x.filesz (drop x.offset file) (All-drop IsByte x.offset file h)) (zero_bytes (s.size - length s.bytes))) (each hs)

    by_result : (r : Option Refused) → unless_refused r (exe_of (field 4 24 file) (map (segment_of file) (loaded file))) ≡ Ok exe → HaveBytes exe
    by_result None e = let is : exe_of (field 4 24 file) (map (segment_of file) (loaded file)) ≡ exe = cc in subst HaveBytes is (each (loaded file))
    by_result (Some r) e = cc
