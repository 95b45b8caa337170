-- What is known of the lines of each block, whatever stands at its start.
use Rattle.std.specs.Prelude.{◌≡◌, ℕ, ◌*◌, ◌≤◌, true, length}
use Rattle.elf_read.specs.declared.exe.Exe.{Exe}
use Rattle.block_cut.specs.Blocks.{block_of}
use Rattle.ssa_form.specs.Checked.{checked}
use Rattle.lift_flow.specs.LiftedBlock.{lift_of}

-- It has at most 32 lines for each instruction of its basic block, and each name in it stands for something.
pub record FewLines : Type 0 where
  pub few : (exe : Exe) (start : ℕ) → length (lift_of exe start).lines ≤ 32 * length (block_of exe start).insts
  pub whole : (exe : Exe) (start : ℕ) → checked (lift_of exe start) ≡ true
