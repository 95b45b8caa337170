-- Fragments are made of pieces that do what they have to.
use Rattle.std.specs.Prelude.{◌≡◌, ℕ, ◌^◌, ◌<◌, ◌≤◌, true, false, List, length, get_or}
use Rattle.elf_read.specs.declared.exe.Exe.{Exe}
use Rattle.elf_read.specs.Elf.{IsGuest}
use Rattle.ia_encode.specs.Items.{AreDistinct, AreValid}
use Rattle.run_model.specs.Edges.{Edge}
use Rattle.trace_file.specs.Edges.{ascends}
use Rattle.block_cut.specs.Blocks.{block_of}
use Rattle.flow_graph.specs.declared.error.TheConstants.{MAX_BLOCKS}
use Rattle.flow_graph.specs.GraphOf.{graph_of}
use Rattle.lift_flow.specs.LiftedBlock.{lift_of}
use Rattle.block_make.specs.Keys as keys
use Rattle.sim_runs.specs.Recovered.{Coded, is_island_end, is_start_of}
use Rattle.sim_runs.specs.Pieces.{is_out, FragmentsMade}
use Rattle.image_laws.specs.Coded.{key_at, start_items, coding_at}
use Rattle.image_laws.specs.Linked.{HasFragments}
use Rattle.image_laws.specs.Serves.{HaveBytes}

-- what the fragment of a start asks of its key: its items have encodings, with each label once; each known exit stands once; and an exit
-- to a fixed address has 32 bits
pub record IsMade (exe : Exe) (edges : List Edge) (x : ℕ) : Type 0 where
  pub valid : AreValid (start_items exe edges x)
  pub labels : AreDistinct (start_items exe edges x)
  pub exits : keys.AreDistinct (key_at exe edges x).exits
  pub outs : (y : ℕ) → is_out (lift_of exe x).exit y ≡ true → y < 2 ^ 32

-- of each start that is not native, where the code is of bytes
abbrev pub FragmentsAreMade : Type 0
FragmentsAreMade = (exe : Exe) (edges : List Edge) (out : ℕ → ℕ) (c : Coded) → HaveBytes exe → HasFragments exe edges out c
    → ((i : ℕ) → get_or c.code.bytes i 0 < 256)
    → ((x : ℕ) → is_start_of exe edges x ≡ true → is_island_end (block_of exe x).end ≡ false → IsMade exe edges x)
    → FragmentsMade exe edges c (coding_at exe edges)

-- it has what it asks for, for edges in order, not too many
abbrev pub EachIsMade : Type 0
EachIsMade = (exe : Exe) (edges : List Edge) → IsGuest exe → HaveBytes exe → ascends edges ≡ true
    → length (graph_of exe edges) ≤ MAX_BLOCKS → (x : ℕ) → is_start_of exe edges x ≡ true → IsMade exe edges x
