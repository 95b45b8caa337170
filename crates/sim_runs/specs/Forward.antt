-- One machine's run covers another's: records of a move, and of a run.
use Rattle.std.specs.Prelude.{◌≡◌, ℕ, zero, suc, ◌+◌, ◌*◌, ◌<◌, ◌≤◌, List, [], drop, ◌⊎◌}
use Rattle.br_word.specs.State.{State}
use Rattle.run_model.specs.Run.{observed, run}
use Rattle.ia_inst.specs.Step.{step}

-- the choices that are left after n steps
abbrev pub after : ℕ → List ℕ → List ℕ
after zero cs = cs
after (suc n) cs = after n (drop 1 cs)

-- the next n steps are good
abbrev pub AllGood : (State → Type 0) → ℕ → State → Type 0
AllGood good zero s = Unit {0}
AllGood good (suc n) s = good s × AllGood good n (step s 0)

-- some steps of t, at most high, cover some steps of s, at most 64 and at most left
pub record Moved (R : State → State → Type 0) (W : State → Type 0) (high left : ℕ) (s t : State) (cs : List ℕ) : Type 0 where
  pub took : ℕ
  pub steps : ℕ
  pub some : 0 < took
  pub few : took ≤ 64
  pub in_time : took ≤ left
  pub going : 0 < steps
  pub bound : steps ≤ high
  pub shows : (i : ℕ) → i ≤ steps → (j : ℕ) × (j ≤ took) × (observed (run i t cs) ≡ observed (run j s []))
  pub quiet : (i : ℕ) → i < steps → W (run i t cs)
  pub next : R (run took s []) (run steps t cs)

-- the steps that are left end before the next move does
pub record Short (left : ℕ) (s : State) : Type 0 where
  pub few : left < 64
  pub same : observed (run left s []) ≡ observed s

-- what one move of a relation is
abbrev pub Moves : (good : State → Type 0) (R : State → State → Type 0) (W : State → Type 0) → ℕ → Type 0
Moves good R W high = (s t : State) (cs : List ℕ) (left : ℕ)
    → 0 < left → R s t → AllGood good left s → Moved R W high left s t cs ⊎ Short left s

-- so many steps of t cover n steps of s
pub record Mirrors (W : State → Type 0) (n : ℕ) (s t : State) (cs : List ℕ) : Type 0 where
  pub steps : ℕ
  pub shows : (i : ℕ) → i ≤ steps → (j : ℕ) × (j ≤ n) × (observed (run i t cs) ≡ observed (run j s []))
  pub arrives : observed (run steps t cs) ≡ observed (run n s [])
  pub quiet : (i : ℕ) → i < steps → W (run i t cs)

-- and their number is bounded both ways
pub record Forward (W : State → Type 0) (high n : ℕ) (s t : State) (cs : List ℕ) : Type 0 where
  pub covers : Mirrors W n s t cs
  pub bound : covers.steps ≤ high * n
  pub reach : n < 64 * (covers.steps + 1)
