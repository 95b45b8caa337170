-- The states of a run are sound and have the code of the executable.
use Rattle.std.proofs.Common.{◌≡◌, ℕ, List, Ok, sym, ap, ◌∙◌, subst}
use Rattle.br_word.specs.State.{State}
use Rattle.elf_read.specs.declared.exe.Exe.{Exe}
use Rattle.elf_read.specs.declared.exe.Reach.TheVariants.{Guest}
use Rattle.elf_read.specs.Elf.{lowest, elf}
use Rattle.elf_read.proofs.Accepted.{accepted_exe}
use Rattle.ia_inst.specs.Step.{found}
use Rattle.block_cut.specs.Places.{found_at}
use Rattle.run_model.specs.Opening.{arguments, stack_top, opening, exe_or_none, opening_of}
use Rattle.run_model.specs.Sound.{KeepsSound, RunsKeepSound, OpensSoundly}
use Rattle.sim_laws.specs.InCode.{StaysInCode, StepsInCode}
use Rattle.sim_laws.proofs.OpeningCode.{opening_code}

pub step_in_code : KeepsSound → StepsInCode
step_in_code keeps exe s c h = let k = keeps s c h.sound in record { sound = k.sound; code = λ a. k.code a ∙ h.code a }

-- what stands at an address at the opening
begins : (file : List ℕ) (exe : Exe) (words : List (List ℕ)) (input : List ℕ) (a : ℕ) → elf Guest file ≡ Ok exe → found a (opening_of file words input).regions ≡ found_at exe a
begins file exe words input a accepted =
    let same : opening exe (arguments words) input ≡ opening_of file words input = ap (λ r. opening (exe_or_none r) (arguments words) input) (sym accepted) in
    subst (λ (s : State). found a s.regions ≡ found_at exe a) same (opening_code exe (lowest Guest) (stack_top (arguments words)) a (accepted_exe Guest file exe accepted).segments)

pub run_in_code : OpensSoundly → RunsKeepSound → StaysInCode
run_in_code opens keeps file exe words input choices n accepted h =
    let k = keeps n (opening_of file words input) choices (opens file words input h) in
    record { sound = k.sound; code = λ a. k.code a ∙ begins file exe words input a accepted }
