-- A guest's state seen by places, and runs that lead somewhere.
use Rattle.std.specs.Prelude.{◌≡◌, ℕ, zero, suc, ◌+◌, ◌*◌, ◌^◌, ◌<◌, ◌≤◌, Bool, true, false, List, ◌∷◌, length, take, drop, get_or}
use Rattle.br_word.specs.declared.types.Flags.{Flags}
use Rattle.br_word.specs.Memory.{Region, number_of}
use Rattle.br_word.specs.State.{State, Running}
use Rattle.ia_inst.specs.Step.{step}
use Rattle.run_model.specs.Run.{Observation, observed, first_choice}
use Rattle.par_moves.specs.declared.locations.Place.{Place}
use Rattle.par_moves.specs.declared.locations.Place.TheVariants.{Reg, Slot}
use Rattle.par_moves.specs.Locations.{InRange}

-- registers and slots in one function, and what else a state holds
pub record Cells : Type 0 where
  pub cell : Place → ℕ
  pub flags : Flags
  pub marks : Flags
  pub df : Bool
  -- the memory behind code and private segment
  pub outer : List Region
  pub seen : Observation
  pub brk_start : ℕ
  pub brk : ℕ

abbrev pub private_region : List ℕ → Region
private_region own = record { start = 0x07000000; perms = record { read = true; write = true; exec = false }; bytes = own }

abbrev pub word : List ℕ → ℕ → ℕ
word own k = number_of (take 4 (drop (4 * k) own))

-- code lies below the private segment and is executed
pub record IsCode (code : Region) : Type 0 where
  pub below : code.start + length code.bytes ≤ 0x07000000
  pub runs : code.perms.exec ≡ true

-- own is the private segment
pub record OwnSeen (own : List ℕ) (slot : ℕ → ℕ) : Type 0 where
  pub size : length own ≡ 65536
  pub bytes : (i : ℕ) → get_or own i 0 < 256
  pub words : (k : ℕ) → k < 16384 → word own k ≡ slot k

pub record RegsSeen (regs : List ℕ) (reg : ℕ → ℕ) : Type 0 where
  pub count : length regs ≡ 8
  pub each : (r : ℕ) → r < 8 → get_or regs r 0 ≡ reg r

-- the running state t, seen as a, where this code stands first in memory
pub record Sees (code : Region) (t : State) (a : Cells) : Type 0 where
  pub own : List ℕ
  pub regions : t.regions ≡ code ∷ private_region own ∷ a.outer
  pub slots : OwnSeen own (λ k. a.cell (Slot k))
  pub regs : RegsSeen t.cpu.regs (λ r. a.cell (Reg r))
  pub small : (p : Place) → InRange p → a.cell p < 2 ^ 32
  pub flags : t.cpu.flags ≡ a.flags
  pub marks : t.cpu.marks ≡ a.marks
  pub df : t.cpu.df ≡ a.df
  pub seen : observed t ≡ a.seen
  pub brk_start : t.brk_start ≡ a.brk_start
  pub brk : t.brk ≡ a.brk
  pub running : t.stop ≡ Running

-- For these choices P holds after exactly n steps, and W before each of them.
unfoldable pub Leads : (State → Type 0) → (State → Type 0) → ℕ → State → List ℕ → Type 0
Leads W P zero s cs = P s
Leads W P (suc n) s cs = W s × Leads W P n (step s (first_choice cs)) (drop 1 cs)

-- this is what shows, and eip lies in the code
pub record Quiet (seen : Observation) (t : State) : Type 0 where
  pub shows : observed t ≡ seen
  pub live : t.stop ≡ Running
  pub in_code : t.eip < 0x07000000
