-- Behaviour preservation: what a second file does is what the first one does.
use Rattle.std.specs.Prelude.{◌≡◌, ℕ, ◌+◌, ◌*◌, ◌≤◌, List, [], length, Ok}
use Rattle.elf_read.specs.declared.exe.Exe.{Exe}
use Rattle.elf_read.specs.declared.exe.Reach.TheVariants.{Guest}
use Rattle.elf_read.specs.Elf.{elf}
use Rattle.run_model.specs.Opening.{FitArguments}
use Rattle.run_model.specs.Run.{AreOfBytes, AreChoices, observed_of, IsWellDefinedRun}

-- Forward: where the original's run of k steps is well defined, the file comes to the same observation
-- within a bound, and on the way shows only what the original shows at some moment up to k.
pub record ReachesAt (e n : List ℕ) (words : List (List ℕ)) (input choices : List ℕ) (k : ℕ) : Type 0 where
  pub steps : ℕ
  pub bound : steps ≤ length n * (k + 1)
  pub same : observed_of n words input choices steps ≡ observed_of e words input [] k
  pub before : (m : ℕ) → m ≤ steps
      → (j : ℕ) × (j ≤ k) × (observed_of n words input choices m ≡ observed_of e words input [] j)

-- Backward: at its moment m the file shows what the original shows at some moment up to 64 * (m + 1).
abbrev pub ShowsAt : (e n : List ℕ) (words : List (List ℕ)) (input choices : List ℕ) → ℕ → Type 0
ShowsAt e n words input choices m =
    (k : ℕ) × (k ≤ 64 * (m + 1)) × (observed_of n words input choices m ≡ observed_of e words input [] k)

-- e and n are the bytes of the files. Words, input and choices are any that a run can have; what e, words
-- and input hold are bytes.
pub record Preserves (e n : List ℕ) : Type 0 where
  pub accepted : (exe : Exe) × (elf Guest n ≡ Ok exe)
  pub forward : (words : List (List ℕ)) (input choices : List ℕ)
      → FitArguments words → AreOfBytes e words input → AreChoices choices
      → (k : ℕ) → IsWellDefinedRun e words input k → ReachesAt e n words input choices k
  pub backward : (words : List (List ℕ)) (input choices : List ℕ)
      → FitArguments words → AreOfBytes e words input → AreChoices choices
      → (m : ℕ) → IsWellDefinedRun e words input (64 * (m + 1)) → ShowsAt e n words input choices m
