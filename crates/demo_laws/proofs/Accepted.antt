-- The demonstration is the flat file of its code.
use Rattle.std.proofs.Common.{◌≡◌, ℕ, ◌+◌, ◌≤◌, true, false, List, [], ◌∷◌, length, Result, Ok, sym, ap, ◌∙◌, subst, arith}
use Rattle.br_word.specs.Memory.{AreBytes}
use Rattle.elf_read.specs.declared.exe.Exe.{Exe}
use Rattle.elf_read.specs.declared.exe.Reach.{Reach}
use Rattle.elf_read.specs.declared.exe.Reach.TheVariants.{Original, Guest}
use Rattle.elf_read.specs.Elf.{round_up, elf}
use Rattle.elf_flat.specs.Flat.{flat_start, flat_entry, flat_length, headed, flat_file, flat_exe, FlatAccepted}
use Rattle.demo_gen.specs.Demonstration.{demo_length, demo_code, demo_file}
use Rattle.demo_laws.specs.Accepted.{demo_of, IsDemoAccepted}
use Rattle.demo_laws.proofs.Lengths.{code_length, code_bytes}

same_length : (count : ℕ) → flat_length (demo_code count) ≡ demo_length count
same_length count = let l = code_length count in omega (arith, l)

file_flat : (count : ℕ) → demo_file count ≡ flat_file (demo_code count)
unfolding demo_file flat_file
file_flat count = ap (λ n. headed n (demo_code count)) (sym (same_length count))

-- one segment of this size with these bytes
abbrev exe_with : ℕ → List ℕ → Exe
exe_with size file = record {
  entry = flat_entry;
  segments = record { start = flat_start; size = size; perms = record { read = true; write = false; exec = true }; bytes = file } ∷ [];
  brk_start = round_up (flat_start + size);
}

exe_flat : (count : ℕ) → flat_exe (demo_code count) ≡ demo_of count
exe_flat count = ap (λ n. exe_with n (flat_file (demo_code count))) (same_length count) ∙ ap (exe_with (demo_length count)) (sym (file_flat count))

pub is_accepted : FlatAccepted → (count : ℕ) → 1 ≤ count → count ≤ 1000 → IsDemoAccepted count
is_accepted flat count a b =
    let l = code_length count in
    let h = flat (demo_code count) (code_bytes count) (omega (arith, l)) (omega (arith, l, b)) in
    let reads : (reach : Reach) → elf reach (demo_file count) ≡ Ok (demo_of count) = λ reach. ap (elf reach) (file_flat count) ∙ h.reads reach ∙ ap (λ (e : Exe). Ok e) (exe_flat count) in
    record { original = reads Original; guest = reads Guest; bytes = subst AreBytes (sym (file_flat count)) h.bytes }
