-- The lines of a block do what its steps do.
use Rattle.std.specs.Prelude.{◌≡◌, ◌≢◌, ◌≤◌, ℕ, List, [], length}
use Rattle.br_word.specs.Memory.{Region}
use Rattle.br_word.specs.State.{State, Running}
use Rattle.elf_read.specs.declared.exe.Exe.{Exe}
use Rattle.elf_read.specs.Elf.{IsGuest}
use Rattle.block_cut.specs.declared.ends.End.TheVariants.{Island}
use Rattle.block_cut.specs.Blocks.{block_of}
use Rattle.run_model.specs.Run.{run, WellDefined}
use Rattle.sim_laws.specs.ByKind.{IsQuiet}
use Rattle.sim_laws.specs.InCode.{IsStateOf}
use Rattle.ssa_form.specs.declared.form.Block.{Block}
use Rattle.ssa_form.specs.Value.{outs_of, exit_of}
use Rattle.ssa_form.specs.Agree.{AgreesOn, AreBits, every}
use Rattle.ssa_form.specs.Same.{end_env, IsAllowedAt}
use Rattle.lift_flow.specs.LiftedBlock.{lift_of}

-- from these numbers and this memory the lines are allowed, and give the registers, the flags that are
-- marked, DF, the memory and the address of a state
pub record Gives (b : Block) (p : ℕ → ℕ) (m : List Region) (t : State) : Type 0 where
  pub allowed : IsAllowedAt b p m
  pub agrees : AgreesOn every t.cpu (outs_of b.outs (end_env b p m))
  pub bits : AreBits (outs_of b.outs (end_env b p m))
  pub memory : (end_env b p m).mem ≡ t.regions
  pub exit : exit_of b.exit (end_env b p m) ≡ t.eip

-- at the start of a block that is not native, for any numbers that are the state's where its marks are set
-- and bits at the flags: where its steps are well defined, its lines give the state after them
abbrev pub BlockMeans : Type 0
BlockMeans = (exe : Exe) (s : State) (p : ℕ → ℕ)
    → IsGuest exe → IsStateOf exe s → s.stop ≡ Running → (block_of exe s.eip).end ≢ Island
    → AgreesOn every s.cpu p → AreBits p
    → let n = length (block_of exe s.eip).insts in WellDefined n s
    → Gives (lift_of exe s.eip) p s.regions (run n s [])

-- up to its end, where its steps so far are well defined, nothing is seen of it, and the break stays
abbrev pub BlocksAreQuiet : Type 0
BlocksAreQuiet = (exe : Exe) (s : State) (j : ℕ)
    → IsGuest exe → IsStateOf exe s → s.stop ≡ Running → (block_of exe s.eip).end ≢ Island
    → j ≤ length (block_of exe s.eip).insts → WellDefined j s → IsQuiet s (run j s [])
