-- What stands at an address, by the table of spellings alone.
use Rattle.std.specs.Prelude.{◌≡◌, ℕ, ◌≤◌, List, length, take, Option, Some, None}
use Rattle.br_word.specs.Memory.{Region, Runs, bytes_at}
use Rattle.br_word.specs.State.{State}
use Rattle.ia_inst.specs.declared.inst.Inst.{Inst}
use Rattle.ia_inst.specs.Spells.{Spells}
use Rattle.ia_inst.specs.Step.{Found, NoCode, NoInst, There, result_at, settled, unless_stopped}

-- at the head of bytes: an instruction whose spelling they begin with, or none where they begin with no spelling
abbrev pub StandsFirst : List ℕ → Found → Type 0
StandsFirst bytes NoCode = ⊥
StandsFirst bytes NoInst = (n : ℕ) (i : Inst) → Spells (take n bytes) i → ⊥
StandsFirst bytes (There i n) = (n ≤ length bytes) × Spells (take n bytes) i

-- the same, where there are such bytes
abbrev pub StandsIn : Option (List ℕ) → Found → Type 0
StandsIn (Some bytes) f = StandsFirst bytes f
StandsIn None NoCode = Unit {0}
StandsIn None NoInst = ⊥
StandsIn None (There i n) = ⊥

-- at an address, from there to the end of its region, where it may be executed
abbrev pub Stands : ℕ → List Region → Found → Type 0
Stands at rs f = StandsIn (bytes_at Runs at 1 rs) f

-- the state after a step with what stands there
abbrev pub step_at : Found → State → ℕ → State
step_at f s c = unless_stopped s.stop s (settled (result_at f s c) s)

-- a step by the table leads from a state to another
pub record StepsTo (s : State) (c : ℕ) (t : State) : Type 0 where
  pub there : Found
  pub stands : Stands s.eip s.regions there
  pub to : t ≡ step_at there s c
