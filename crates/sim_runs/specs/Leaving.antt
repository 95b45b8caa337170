-- Where the recovered code may be left.
use Rattle.std.specs.Prelude.{◌≡◌, ℕ, ◌<◌, ◌≤◌, false, ◌⊎◌, []}
use Rattle.br_word.specs.State.{State, Running}
use Rattle.run_model.specs.Run.{run}
use Rattle.ia_inst.specs.Step.{step, IsWellDefined}
use Rattle.sim_runs.specs.Forward.{AllGood}
use Rattle.sim_runs.specs.Relation.{Plan, InCopy}
use Rattle.sim_runs.specs.Laws.{Starts, IsIndirect}

-- nothing is asked of a state
abbrev pub Anything : State → Type 0
Anything t = Unit {0}

-- eip is below all segments of an original
abbrev pub IsBelow : State → Type 0
IsBelow t = 0x08000000 ≤ t.eip → ⊥

-- what a claim asks of the original's steps, what it says of the file's, and whether the recovered code may be left
pub record Claim (plan : Plan) (Static good W : State → Type 0) (may : Type 0) : Type 0 where
  pub fine : (s : State) → good s → IsWellDefined s
  pub low : (t : State) → t.eip < 0x07000000 → W t
  pub gone : may → (t : State) → W t
  -- by an exit that is not known and has no other place it is left, or the original comes to nothing there
  pub leaves : (x : ℕ) (s : State) → Starts plan Static x s → AllGood good (plan.count x) s
      → plan.knows x (run (plan.count x) s []).eip ≡ false
      → plan.beyond x (run (plan.count x) s []).eip ≡ (run (plan.count x) s []).eip
      → may ⊎ (IsWellDefined (run (plan.count x) s []) → ⊥)
  -- so it is from a copy, where an indirect transfer leads to neither a block nor a copy
  pub lost : (x k : ℕ) (s t : State) → InCopy plan Static x k s t → good s → IsIndirect s → (step s 0).stop ≡ Running
      → plan.is_start (step s 0).eip ≡ false → plan.cold (step s 0).eip ≡ false → may ⊎ (IsWellDefined (step s 0) → ⊥)
