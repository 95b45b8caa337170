-- From the laws of one instruction to the turns that the simulation asks for.
use Rattle.std.specs.Prelude.{◌≡◌, ◌≢◌, ◌<◌, ◌⊎◌, ◌||◌, ◌^◌, ℕ, suc, ◌+◌, List, IsTrue, true, length, None}
use Rattle.ia_encode.specs.declared.item.Dest.TheVariants as dests
use Rattle.fall_stubs.specs.Exchange.{closing_items}
use Rattle.sim_runs.specs.Passes.{Gets}
use Rattle.sim_runs.specs.Laws.{Landed as Comes_to}
use Rattle.br_word.specs.State.{State, Running}
use Rattle.elf_read.specs.declared.exe.Exe.{Exe}
use Rattle.elf_read.specs.Elf.{is_exec}
use Rattle.ia_inst.specs.declared.inst.Kind.TheVariants as kinds
use Rattle.ia_inst.specs.Canonical.{valid_of}
use Rattle.ia_inst.specs.Kinds.{kind_of}
use Rattle.ia_inst.specs.Meaning.{wrap}
use Rattle.ia_inst.specs.Step.{There, step, IsWellDefined}
use Rattle.ia_encode.specs.declared.item.Dest.{Dest}
use Rattle.ia_encode.specs.Items.{Stands, dest_at}
use Rattle.block_cut.specs.Places.{Placed, found_at}
use Rattle.block_cut.specs.Blocks.{kind_found}
use Rattle.block_cut.specs.Transfers.{direct_targets}
use Rattle.par_moves.specs.Homes.{register_homes}
use Rattle.code_laws.specs.Seen.{IsCode}
use Rattle.piece_laws.specs.Exchange.{HomesMeet}
use Rattle.sim_runs.specs.Relation.{Plan, InPlace, InCopy}
use Rattle.sim_runs.specs.Laws.{Leads, Turned}
use Rattle.sim_runs.specs.Promised.{IsOf}
use Rattle.cold_laws.specs.Copies.{Copies}
use Rattle.cold_code.specs.Copies.{own_items}
use Rattle.cold_laws.specs.InPlace.{Landed, StepsInPlace}
use Rattle.cold_laws.specs.Ends.{end_by, goes_cold, AreLanding, AreLow, Dispatches, EndsInPlace}

-- behind the last own bytes of a copy that has no transfer: the code there leads on, and the address behind, where an instruction is read, is a start or cold
pub record Leads_on (plan : Plan) (copies : Copies) (exe : Exe) (p : Placed) (to : ℕ) : Type 0 where
  pub goes : (s t : State) (cs : List ℕ) → IsOf exe s → s.stop ≡ Running → s.eip ≡ wrap (p.at + p.size) → InPlace plan to s t
      → Leads (Landed plan copies exe s.eip s) 128 t cs
  pub closed : (y : ℕ) → y ≡ wrap (p.at + p.size) → is_exec y exe.segments ≡ true → kind_found (found_at exe y) ≢ None → (plan.is_start y || copies.cold y) ≡ true

-- an instruction that is no transfer stands at its place, and behind it the next one or the end
pub record Stood (plan : Plan) (copies : Copies) (exe : Exe) (x k : ℕ) (p : Placed) : Type 0 where
  pub dest : Dest → ℕ
  pub to : ℕ
  pub kind : kind_of p.inst ≢ kinds.Transfer
  pub stands : Stands dest plan.code (copies.place x k) (own_items exe p) to
  pub low : to < 0x07000000
  pub on : ((suc k < plan.copied x) × (to ≡ copies.place x (suc k)) × (plan.original x (suc k) ≡ wrap (p.at + p.size)))
      ⊎ Leads_on plan copies exe p to

-- the code of a transfer stands at its place
pub record Ended (plan : Plan) (copies : Copies) (exe : Exe) (x k : ℕ) (p : Placed) : Type 0 where
  pub dest : Dest → ℕ
  pub to : ℕ
  pub kind : kind_of p.inst ≡ kinds.Transfer
  pub valid : IsTrue (valid_of p.inst)
  pub is : dest ≡ dest_at (goes_cold plan copies) (copies.place x k) (end_by plan copies p.inst (wrap (p.at + p.size)))
  pub stands : Stands dest plan.code (copies.place x k) (end_by plan copies p.inst (wrap (p.at + p.size))) to
  pub landing : AreLanding plan copies exe (direct_targets p.inst p.size p.at)

-- where instruction k of each copy stands so
pub record CopiesStand (plan : Plan) (copies : Copies) (exe : Exe) : Type 0 where
  pub code : IsCode plan.code
  pub homes : HomesMeet register_homes plan
  pub low_starts : AreLow plan copies
  pub dispatches : Dispatches plan copies exe
  pub cold : (x : ℕ) → plan.cold x ≡ copies.cold x
  pub copy : (x k : ℕ) → plan.copy x k ≡ copies.place x k
  pub placed : ℕ → ℕ → Placed
  pub at : (x k : ℕ) → (placed x k).at ≡ plan.original x k
  pub low : (x k : ℕ) → plan.cold x ≡ true → k < plan.copied x → copies.place x k < 0x07000000
  pub found : (x k : ℕ) → plan.cold x ≡ true → k < plan.copied x → found_at exe (placed x k).at ≡ There (placed x k).inst (placed x k).size
  pub stood : (x k : ℕ) → plan.cold x ≡ true → k < plan.copied x
      → Stood plan copies exe x k (placed x k) ⊎ Ended plan copies exe x k (placed x k)

-- then each turn is as the simulation asks
abbrev pub CopiesTurn : Type 0
CopiesTurn = (exe : Exe) (plan : Plan) (copies : Copies) → StepsInPlace → EndsInPlace → CopiesStand plan copies exe
    → (x k : ℕ) (s t : State) (cs : List ℕ) → InCopy plan (IsOf exe) x k s t → IsWellDefined s → IsOf exe (step s 0)
    → Turned plan (IsOf exe) 130 s t cs

-- the re-entry of a start stands at an address
pub record Reentry (plan : Plan) (y at : ℕ) : Type 0 where
  pub start : plan.is_start y ≡ true
  pub dest : Dest → ℕ
  pub to : ℕ
  pub stands : Stands dest plan.code at (closing_items register_homes (dests.Block y)) to
  pub there : dest (dests.Block y) ≡ plan.address y
  pub small : plan.address y < 2 ^ 32

-- where a way leads to itself, to a copy or to a re-entry, a side exit that does not lead to itself lands
abbrev pub BeyondLands : Type 0
BeyondLands = (exe : Exe) (plan : Plan) → HomesMeet register_homes plan → (x : ℕ) (s t : State) (cs : List ℕ)
    → (plan.beyond x s.eip ≡ s.eip) ⊎ (((plan.cold s.eip ≡ true) × (plan.beyond x s.eip ≡ plan.copy s.eip 0)) ⊎ Reentry plan s.eip (plan.beyond x s.eip))
    → (plan.beyond x s.eip ≡ s.eip → ⊥) → IsOf exe s → s.stop ≡ Running → InPlace plan (plan.beyond x s.eip) s t
    → Gets (Comes_to plan (IsOf exe) s) 0 (14 + length register_homes) t cs
