-- What is lifted and what becomes code of it serve each other.
use Rattle.std.specs.Prelude.{◌≡◌, ℕ, ◌≤◌, true, false, List, length, map, IsTrue}
use Rattle.br_word.specs.Memory.{HoldBytes}
use Rattle.elf_read.specs.declared.exe.Exe.{Exe}
use Rattle.elf_read.specs.Regions.{region_of}
use Rattle.run_model.specs.Edges.{Edge}
use Rattle.block_cut.specs.Blocks.{block_of}
use Rattle.ssa_form.specs.Checked.{checked}
use Rattle.ssa_form.specs.Same.{SpellsWords}
use Rattle.lift_flow.specs.LiftedBlock.{lift_of}
use Rattle.block_make.specs.Prepared.{SpellsFew}
use Rattle.sim_runs.specs.Recovered.{Coded, is_island_end, is_start_of}
use Rattle.sim_runs.specs.Promised.{ServesAt}
use Rattle.sim_runs.specs.WholeBlock.{IsWay}
use Rattle.image_laws.specs.Coded.{coding_at}
use Rattle.image_laws.specs.Linked.{KeepsRegisters}

-- the segments of an executable are of bytes
abbrev pub HaveBytes : Exe → Type 0
HaveBytes exe = HoldBytes (map region_of exe.segments)

-- what is known of each lifted block: names stand for something, numbers have 32 bits, those of the exit too, it has at most 2048
-- lines, and the exit is native exactly where the instruction is
pub record IsLifted (exe : Exe) (x : ℕ) : Type 0 where
  pub whole : IsTrue (checked (lift_of exe x))
  pub words : SpellsWords (lift_of exe x)
  pub few : length (lift_of exe x).lines ≤ 2048
  pub exit : SpellsFew (lift_of exe x).exit
  pub way : is_island_end (block_of exe x).end ≡ false → IsWay (lift_of exe x).exit

abbrev pub EachIsLifted : Type 0
EachIsLifted = (exe : Exe) (x : ℕ) → HaveBytes exe → IsLifted exe x

-- the coding of each block of the graph that is not native serves it
abbrev pub CodingsServe : Type 0
CodingsServe = (exe : Exe) (edges : List Edge) (c : Coded) → HaveBytes exe → KeepsRegisters exe edges c
    → (x : ℕ) → is_start_of exe edges x ≡ true → is_island_end (block_of exe x).end ≡ false
    → ServesAt exe edges c x (coding_at exe edges x)
