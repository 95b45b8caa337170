-- How a well-defined run goes through a block.
use Rattle.std.specs.Prelude.{◌≡◌, ℕ, ◌+◌, ◌≤◌, ◌≢◌, List, [], length}
use Rattle.br_word.specs.State.{State, Running}
use Rattle.elf_read.specs.declared.exe.Exe.{Exe}
use Rattle.elf_read.specs.Elf.{IsGuest}
use Rattle.block_cut.specs.declared.ends.End.TheVariants.{Island}
use Rattle.block_cut.specs.Places.{Placed}
use Rattle.block_cut.specs.Blocks.{size_of, StandFrom, ArePlain, block_of}
use Rattle.run_model.specs.Run.{run, WellDefined}
use Rattle.sim_laws.specs.ByKind.{IsQuiet}
use Rattle.sim_laws.specs.InCode.{IsStateOf}

-- a running state of the executable, which came about quietly
pub record Comes (exe : Exe) (s t : State) : Type 0 where
  pub of : IsStateOf exe t
  pub running : t.stop ≡ Running
  pub quiet : IsQuiet s t

-- plain instructions that stand one behind the other run so
abbrev pub RunsThrough : Type 0
RunsThrough = (exe : Exe) (is : List Placed) (s : State)
    → IsGuest exe → IsStateOf exe s → s.stop ≡ Running → StandFrom exe s.eip is → ArePlain is
    → WellDefined (length is) s
    → Comes exe s (run (length is) s []) × ((run (length is) s []).eip ≡ s.eip + size_of is)

-- through a block that is not native, each moment up to its end came about quietly
abbrev pub GoesThrough : Type 0
GoesThrough = (exe : Exe) (s : State) (k : ℕ)
    → IsGuest exe → IsStateOf exe s → s.stop ≡ Running → (block_of exe s.eip).end ≢ Island
    → let n = length (block_of exe s.eip).insts in WellDefined n s → k ≤ n → Comes exe s (run k s [])
