-- Runs of a guest, what they show, and when they are well defined.
use Rattle.std.specs.Prelude.{ℕ, zero, suc, ◌<◌, List, [], ◌∷◌, drop, All}
use Rattle.br_word.specs.State.{State, RunState}
use Rattle.ia_inst.specs.Step.{step, IsWellDefined}
use Rattle.run_model.specs.Opening.{opening_of}
use Rattle.br_word.specs.Memory.{AreBytes}

-- what is seen of a guest: the bytes on descriptors 1 and 2, the input that is left, and whether it goes on
pub record Observation : Type 0 where
  pub out : List ℕ
  pub err : List ℕ
  pub input : List ℕ
  pub stop : RunState

-- what is observed of a state
abbrev pub observed : State → Observation
observed s = record { out = s.out; err = s.err; input = s.input; stop = s.stop }

-- the bits of undefined flags come from a list of choices, one number a step, and are 0 past its end
abbrev pub AreChoices : List ℕ → Type 0
AreChoices choices = All (λ c. c < 32) choices

-- a file, its words and its input are of bytes
pub record AreOfBytes (e : List ℕ) (ws : List (List ℕ)) (i : List ℕ) : Type 0 where
  pub file : AreBytes e
  pub words : All AreBytes ws
  pub input : AreBytes i

-- the choice of the next step
abbrev pub first_choice : List ℕ → ℕ
first_choice [] = 0
first_choice (c ∷ cs) = c

-- the state after n steps
abbrev pub run : ℕ → State → List ℕ → State
run zero s cs = s
run (suc n) s cs = run n (step s (first_choice cs)) (drop 1 cs)

-- none of the first n steps faults or reads an undefined flag
abbrev pub WellDefined : ℕ → State → Type 0
WellDefined zero s = Unit {0}
WellDefined (suc n) s = IsWellDefined s × WellDefined n (step s 0)

-- the same of a file, from its opening
abbrev pub run_of : List ℕ → List (List ℕ) → List ℕ → List ℕ → ℕ → State
run_of file words input choices n = run n (opening_of file words input) choices

-- what is observed of it after n steps
abbrev pub observed_of : List ℕ → List (List ℕ) → List ℕ → List ℕ → ℕ → Observation
observed_of file words input choices n = observed (run_of file words input choices n)

-- its first n steps are well defined
abbrev pub IsWellDefinedRun : List ℕ → List (List ℕ) → List ℕ → ℕ → Type 0
IsWellDefinedRun file words input n = WellDefined n (opening_of file words input)
