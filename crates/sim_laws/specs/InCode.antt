-- The states of a guest's runs, and the code of its executable.
use Rattle.std.specs.Prelude.{◌≡◌, ℕ, List, Ok}
use Rattle.br_word.specs.State.{State}
use Rattle.elf_read.specs.declared.exe.Exe.{Exe}
use Rattle.elf_read.specs.declared.exe.Reach.TheVariants.{Guest}
use Rattle.elf_read.specs.Elf.{elf}
use Rattle.ia_inst.specs.Step.{found, step}
use Rattle.block_cut.specs.Places.{found_at}
use Rattle.run_model.specs.Run.{AreOfBytes, run_of}
use Rattle.run_model.specs.Sound.{IsSound}

-- a sound state with the code of an executable
pub record IsStateOf (exe : Exe) (s : State) : Type 0 where
  pub sound : IsSound s
  pub code : (a : ℕ) → found a s.regions ≡ found_at exe a

-- whatever bits undefined flags take, a run of an accepted file comes to such states alone
abbrev pub StaysInCode : Type 0
StaysInCode = (file : List ℕ) (exe : Exe) (words : List (List ℕ)) (input choices : List ℕ) (n : ℕ)
    → elf Guest file ≡ Ok exe → AreOfBytes file words input → IsStateOf exe (run_of file words input choices n)

-- one step from such a state leads to such a state
abbrev pub StepsInCode : Type 0
StepsInCode = (exe : Exe) (s : State) (c : ℕ) → IsStateOf exe s → IsStateOf exe (step s c)
