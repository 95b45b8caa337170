-- A copy of one instruction does what the original's does.
use Rattle.std.specs.Prelude.{◌≡◌, ◌≢◌, ℕ, ◌+◌, ◌<◌, ◌≤◌, ◌⊎◌, true, false, List, length}
use Rattle.br_word.specs.State.{State, Running}
use Rattle.elf_read.specs.declared.exe.Exe.{Exe}
use Rattle.ia_inst.specs.declared.inst.Kind.TheVariants as kinds
use Rattle.ia_inst.specs.Kinds.{kind_of}
use Rattle.ia_inst.specs.Meaning.{wrap}
use Rattle.ia_inst.specs.Step.{There, step, IsWellDefined}
use Rattle.ia_encode.specs.declared.item.Dest.{Dest}
use Rattle.ia_encode.specs.Items.{Stands}
use Rattle.block_cut.specs.Places.{Placed, found_at}
use Rattle.run_model.specs.Run.{observed, run}
use Rattle.code_laws.specs.Seen.{IsCode}
use Rattle.sim_runs.specs.Relation.{Plan, IsBeside, AtBlock, InPlace}
use Rattle.sim_runs.specs.Promised.{IsOf}
use Rattle.cold_code.specs.Copies.{own_items}
use Rattle.cold_laws.specs.Copies.{Copies}

-- it has come to where it goes on for an address: the block of a start, a copy, or the original, where there is neither or the original's
-- next step is not well defined
pub data Landed (plan : Plan) (copies : Copies) (exe : Exe) (y : ℕ) (s u : State) : Type 0 where
  in_block : AtBlock plan (IsOf exe) y s u → Landed plan copies exe y s u
  in_copy : copies.cold y ≡ true → InPlace plan (copies.place y 0) s u → Landed plan copies exe y s u
  in_original : ((plan.is_start y ≡ false) × (copies.cold y ≡ false)) ⊎ (IsWellDefined s → ⊥)
      → (own : List ℕ) → length own ≡ 65536 → IsBeside plan own y s u → Landed plan copies exe y s u

-- ---- one instruction that is no transfer

-- one step of both, and one more of the file behind CLD and STD
pub record TurnInPlace (plan : Plan) (p : Placed) (at to : ℕ) (s t : State) (cs : List ℕ) : Type 0 where
  pub steps : ℕ
  pub some : 0 < steps
  pub few : steps ≤ 2
  pub shows : (i : ℕ) → 0 < i → i ≤ steps → observed (run i t cs) ≡ observed (step s 0)
  pub inside : (i : ℕ) → i < steps → (run i t cs).eip < 0x07000000
  pub place : ℕ
  pub stays : (((step s 0).eip ≡ s.eip) × (place ≡ at)) ⊎ (((step s 0).eip ≡ wrap (s.eip + p.size)) × (place ≡ to))
  pub next : InPlace plan place (step s 0) (run steps t cs)

-- wherever its own bytes stand in the code
abbrev pub StepsInPlace : Type 0
StepsInPlace = (exe : Exe) (plan : Plan) (dest : Dest → ℕ) (p : Placed) (at to : ℕ) (s t : State) (cs : List ℕ)
    → IsCode plan.code → IsOf exe s → s.stop ≡ Running → IsWellDefined s → s.eip ≡ p.at
    → found_at exe p.at ≡ There p.inst p.size → kind_of p.inst ≢ kinds.Transfer
    → Stands dest plan.code at (own_items exe p) to → InPlace plan at s t
    → TurnInPlace plan p at to s t cs
