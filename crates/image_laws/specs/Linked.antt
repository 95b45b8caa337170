-- Recovered code into which the fragments of an executable and edges were linked, with addresses of the original where a map says, whatever
-- stands behind the fragments.
use Rattle.std.specs.Prelude.{◌≡◌, ℕ, ◌^◌, ◌<◌, Bool, ◌&&◌, not, if◌then◌else◌, List, ◌++◌, get_or}
use Rattle.br_word.specs.Memory.{Region}
use Rattle.elf_read.specs.declared.exe.Exe.{Exe}
use Rattle.run_model.specs.Edges.{Edge}
use Rattle.lift_flow.specs.LiftedBlock.{lift_of}
use Rattle.par_moves.specs.Homes.{home_of}
use Rattle.code_laws.specs.Seen.{IsCode}
use Rattle.block_make.specs.Keys.{has}
use Rattle.code_layout.specs.declared.place.TheConstants.{CODE_START}
use Rattle.code_layout.specs.Keys.{live_of, keys_of}
use Rattle.code_layout.specs.Linked.{code_of_keys}
use Rattle.sim_runs.specs.Recovered.{Coded, knows_of}
use Rattle.sim_runs.specs.Pieces.{is_out}
use Rattle.image_laws.specs.Coded.{address_of}

-- the code at the entry and the fragments stand first in it, addresses of the original lying where out says; bytes stand behind
pub record BeginsLinked (exe : Exe) (edges : List Edge) (out : ℕ → ℕ) (code : Region) : Type 0 where
  pub start : code.start ≡ CODE_START
  pub behind : List ℕ
  pub bytes : code.bytes ≡ code_of_keys out exe (keys_of exe edges) ++ behind
  pub small : (i : ℕ) → get_or behind i 0 < 256

-- virtual registers are kept, and live at starts, as the fragments have them
pub record KeepsRegisters (exe : Exe) (edges : List Edge) (c : Coded) : Type 0 where
  pub home : c.home ≡ home_of
  pub live : c.live ≡ (λ x v. has (live_of exe edges x) v)

-- the exit of the block of x leads directly to y, which is not known
abbrev pub is_side_exit : Exe → List Edge → ℕ → ℕ → Bool
is_side_exit exe edges x y = is_out (lift_of exe x).exit y && not (knows_of exe edges x y)

-- there a block goes where out says; by an indirect exit it goes to the address itself
abbrev pub beyond_by : Exe → List Edge → (ℕ → ℕ) → ℕ → ℕ → ℕ
beyond_by exe edges out x y = if is_side_exit exe edges x y then out y else y

-- the fragments are those of the recovered code, and it goes on so beyond its blocks; addresses have 32 bits where out puts them
pub record HasFragments (exe : Exe) (edges : List Edge) (out : ℕ → ℕ) (c : Coded) : Type 0 where
  pub here : IsCode c.code
  pub begins : BeginsLinked exe edges out c.code
  pub registers : KeepsRegisters exe edges c
  pub address : c.address ≡ address_of exe edges
  pub beyond : (x y : ℕ) → c.beyond x y ≡ beyond_by exe edges out x y
  pub low : (y : ℕ) → y < 2 ^ 32 → out y < 2 ^ 32
