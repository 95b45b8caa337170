-- A guest with fewer flags that are defined.
use Rattle.std.specs.Prelude.{◌≡◌, ℕ, zero, suc, ◌⊎◌, true, false, List, Contains}
use Rattle.br_word.specs.declared.types.Flags.{Flags}
use Rattle.br_word.specs.State.{State, Running, Flag, flag_of}
use Rattle.ia_inst.specs.Step.{found, asked_at, step}
use Rattle.run_model.specs.Run.{observed, run, WellDefined}

-- the state with these flags defined
abbrev pub with_marks : Flags → State → State
with_marks marks s = record s { cpu = record (s.cpu) { marks = marks } }

-- the next step reads the flag
abbrev pub ReadsFlag : Flag → State → Type 0
ReadsFlag f s = (s.stop ≡ Running) × Contains (asked_at (found s.eip s.regions) s) f

-- the next step writes it: whether it is defined afterwards does not depend on whether it was before
abbrev pub WritesFlag : Flag → State → Type 0
WritesFlag f s = (marks : Flags) → flag_of f (step (with_marks marks s) 0).cpu.marks ≡ flag_of f (step s 0).cpu.marks

-- in the next n steps it is not read before it is written
abbrev pub WrittenFirst : Flag → ℕ → State → Type 0
WrittenFirst f zero s = Unit {0}
WrittenFirst f (suc n) s = ¬ ReadsFlag f s × (WritesFlag f s ⊎ WrittenFirst f n (step s 0))

-- the flag is defined in the state, and not by these marks
abbrev pub IsTaken : Flags → State → Flag → Type 0
IsTaken marks s f = (flag_of f s.cpu.marks ≡ true) × (flag_of f marks ≡ false)

-- where each flag that is taken away is written before it is read, a well-defined run stays so, and
-- shows the same whatever bits undefined flags take
abbrev pub FewerMarks : Type 0
FewerMarks = (n : ℕ) (s : State) (marks : Flags)
    → ((f : Flag) → IsTaken marks s f → WrittenFirst f n s) → WellDefined n s
    → WellDefined n (with_marks marks s)
    × ((choices : List ℕ) → observed (run n (with_marks marks s) choices) ≡ observed (run n s choices))

-- which flags are defined decides nothing else: the states of a run are the same, but for those marks
abbrev pub MarksAlone : Type 0
MarksAlone = (n : ℕ) (s : State) (marks : Flags) (choices : List ℕ)
    → with_marks (run n s choices).cpu.marks (run n (with_marks marks s) choices) ≡ run n s choices
