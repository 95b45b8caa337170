-- Runs from an opening: how the code at the entry leads to the relation, and what follows.
use Rattle.std.specs.Prelude.{◌≡◌, ℕ, ◌+◌, ◌*◌, ◌<◌, ◌≤◌, List}
use Rattle.br_word.specs.State.{State}
use Rattle.ia_inst.specs.Step.{IsWellDefined}
use Rattle.run_model.specs.Run.{observed, run}
use Rattle.run_model.specs.Edges.{Edge, edge_of}
use Rattle.sim_laws.specs.Covers.{AllIn}
use Rattle.sim_runs.specs.Forward.{Mirrors}

-- the next step keeps to the set
abbrev pub Keeps : List Edge → State → Type 0
Keeps set s = AllIn set (edge_of s.stop s 0)

-- the code at the start leads to the relation, and shows nothing new
pub record Entered (R : State → State → Type 0) (W : State → Type 0) (top : ℕ) (s t : State) (cs : List ℕ) : Type 0 where
  pub steps : ℕ
  pub going : 0 < steps
  pub bound : steps ≤ top
  pub shows : (i : ℕ) → i ≤ steps → observed (run i t cs) ≡ observed s
  pub quiet : (i : ℕ) → i < steps → W (run i t cs)
  pub next : R s (run steps t cs)

-- the run from the start on
pub record Begun (W : State → Type 0) (top high n : ℕ) (s t : State) (cs : List ℕ) : Type 0 where
  pub covers : Mirrors W n s t cs
  pub bound : covers.steps ≤ top + high * n
  pub reach : n < 64 * covers.steps

-- a well-defined step that keeps to the set
pub record IsKept (set : List Edge) (s : State) : Type 0 where
  pub fine : IsWellDefined s
  pub keeps : Keeps set s
