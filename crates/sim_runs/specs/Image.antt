-- What the code at the entry does, and what a capture of the state needs.
use Rattle.std.specs.Prelude.{◌≡◌, ℕ, ◌^◌, ◌<◌, true, false, List, ◌∷◌, length, get_or}
use Rattle.br_word.specs.Memory.{Region}
use Rattle.br_word.specs.State.{State, Running}
use Rattle.code_laws.specs.Seen.{private_region}
use Rattle.sim_runs.specs.Relation.{Plan, Ready, IsBeside, aside}
use Rattle.sim_runs.specs.Laws.{Leads, Captured}

-- the two guests at their openings
pub record Opening (plan : Plan) (Static : State → Type 0) (top : ℕ) (s t : State) : Type 0 where
  pub static : Static s
  pub goes : s.stop ≡ Running
  pub own : List ℕ
  pub ready : Ready own s.cpu.df
  pub wider : IsBeside plan own 0x01000000 s t
  pub captured : plan.is_start s.eip ≡ true → (cs : List ℕ) → Leads (Captured plan s.eip s.regions t) top t cs
  pub jumps : plan.is_start s.eip ≡ false → (cs : List ℕ) → Leads (λ u. IsBeside plan own (aside plan s.eip) s u) top t cs

-- what a capture needs
pub record Capturable (plan : Plan) (outer : List Region) (t : State) : Type 0 where
  pub own : List ℕ
  pub mem : t.regions ≡ plan.code ∷ private_region own ∷ outer
  pub ready : Ready own t.cpu.df
  pub count : length t.cpu.regs ≡ 8
  pub small : (r : ℕ) → r < 8 → get_or t.cpu.regs r 0 < 2 ^ 32
  pub goes : t.stop ≡ Running
