-- Coverage: a run that keeps to recorded edges runs no original instruction.
use Rattle.std.specs.Prelude.{ℕ, ◌+◌, ◌*◌, ◌<◌, true, ◌≡◌, List, [], ◌∷◌, Contains}
use Rattle.elf_read.specs.declared.exe.Segment.{Segment}
use Rattle.elf_read.specs.Elf.{in_segment}
use Rattle.run_model.specs.Opening.{FitArguments, guest_of}
use Rattle.run_model.specs.Run.{AreOfBytes, AreChoices, run_of, IsWellDefinedRun}
use Rattle.run_model.specs.Edges.{Edge, edges_of}

-- each edge of a list is in a set
abbrev pub AllIn : List Edge → List Edge → Type 0
AllIn set [] = Unit {0}
AllIn set (e ∷ es) = Contains set e × AllIn set es

-- every edge of the first n steps was recorded
abbrev pub KeepsTo : List ℕ → List Edge → List (List ℕ) → List ℕ → ℕ → Type 0
KeepsTo file set words input n = AllIn set (edges_of file words input n)

-- an address lies in none of the segments
abbrev pub IsOutside : ℕ → List Segment → Type 0
IsOutside at [] = Unit {0}
IsOutside at (s ∷ ss) = (in_segment at s ≡ true → ⊥) × IsOutside at ss

-- e and n are the bytes of the files, set the recorded edges
pub record Covers (e n : List ℕ) (set : List Edge) : Type 0 where
  pub outside : (words : List (List ℕ)) (input choices : List ℕ)
      → FitArguments words → AreOfBytes e words input → AreChoices choices
      → (m : ℕ) → IsWellDefinedRun e words input (64 * (m + 1)) → KeepsTo e set words input (64 * (m + 1))
      → (k : ℕ) → k < m → IsOutside (run_of n words input choices k).eip (guest_of e).segments
