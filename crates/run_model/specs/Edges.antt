-- The control-flow edges of a run: the address of each transfer and the address to which it led.
use Rattle.std.specs.Prelude.{ℕ, zero, suc, Bool, true, false, List, [], ◌∷◌, ◌++◌}
use Rattle.ia_inst.specs.declared.inst.Inst.{Inst}
use Rattle.ia_inst.specs.declared.inst.Kind.{Kind}
use Rattle.ia_inst.specs.declared.inst.Kind.TheVariants.{Transfer}
use Rattle.ia_inst.specs.Kinds.{kind_of}
use Rattle.br_word.specs.State.{State, RunState, Running, Exited, Faulted}
use Rattle.ia_inst.specs.Step.{Found, NoCode, NoInst, There, found, step_result, step}
use Rattle.ia_inst.specs.System.{StepResult, On, Bad}
use Rattle.run_model.specs.Opening.{guest_of, opening_of}

-- Jcc, JMP, CALL and RET
abbrev pub is_transfer_kind : Kind → Bool
is_transfer_kind Transfer = true
is_transfer_kind _ = false

-- a transfer
abbrev pub is_transfer : Inst → Bool
is_transfer i = is_transfer_kind (kind_of i)

-- the addresses of a transfer and of where it led
abbrev pub Edge : Type 0
Edge = ℕ × ℕ

-- a step that faults gives no edge
abbrev pub edge_by : Bool → StepResult → ℕ → List Edge
edge_by true (On t) site = (site, t.eip) ∷ []
edge_by true (Bad f) site = []
edge_by false w site = []

-- the edge of a step at what stands at eip: only a transfer gives one
abbrev pub edge_at : Found → State → ℕ → List Edge
edge_at NoCode s c = []
edge_at NoInst s c = []
edge_at (There i n) s c = edge_by (is_transfer i) (step_result s c) s.eip

-- the edge of the next step under a choice, if it has one
abbrev pub edge_of : RunState → State → ℕ → List Edge
edge_of Running s c = edge_at (found s.eip s.regions) s c
edge_of (Exited n) s c = []
edge_of (Faulted f) s c = []

-- the edges of the next n steps
abbrev pub edges_from : ℕ → State → List Edge
edges_from zero s = []
edges_from (suc n) s = edge_of s.stop s 0 ++ edges_from n (step s 0)

-- the edges of the first n steps of a file; the pair of 0 and the entry says that a run began
abbrev pub edges_of : List ℕ → List (List ℕ) → List ℕ → ℕ → List Edge
edges_of file words input n = (0, (guest_of file).entry) ∷ edges_from n (opening_of file words input)
