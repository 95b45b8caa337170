-- The parts of a step, on the processor and the memory alone.
use Rattle.std.specs.Prelude.{◌≡◌, ℕ, ◌+◌, ◌≤◌, Bool, true, false, IsTrue, List, [], Option, Some, None, Result, Ok, Err}
use Rattle.br_word.specs.Words.{bit}
use Rattle.br_word.specs.State.{State, Running}
use Rattle.ia_inst.specs.Canonical.{valid_of}
use Rattle.ia_inst.specs.System.{system}
use Rattle.ia_inst.specs.Step.{Found, NoCode, NoInst, There, result_at, settled, asked_at, some_unmarked}
use Rattle.guest_sys.specs.declared.answers.SysError.{SysError}
use Rattle.br_outside.specs.Streams.{Tells}
use Rattle.guest_sys.specs.Machine.{Machine, state_of, fed, bare}
use Rattle.guest_sys.specs.Calls.{takes_memory, spare, Passes, FailsAt, LeavesRegions}
use Rattle.guest_run.specs.declared.advance.Advanced.{Advanced}
use Rattle.guest_run.specs.declared.advance.Code.{Code}
use Rattle.guest_run.specs.declared.advance.Code.TheVariants as code
use Rattle.run_model.specs.Edges.{Edge, edge_by, is_transfer}
use Rattle.guest_run.specs.Guest.{first_edge, traps_at, asks_by, answer_of}

-- what stands at an address, as the code has it
abbrev pub IsFound : Found → Code → Type 0
IsFound NoCode code.Missing = Unit {0}
IsFound NoInst code.Unreadable = Unit {0}
IsFound (There i n) (code.Inst j m) = (j ≡ i) × (m ≡ n) × IsTrue (valid_of i)
IsFound f c = ⊥

-- what is expected of a step from s
pub record Expected : Type 0 where
  pub after : State
  pub edge : Option Edge
  pub undefined : ℕ
  pub trap : Bool

-- the step was done as expected
pub record Advances (s : State) (x : Expected) (a : Advanced) (old new : Machine) : Type 0 where
  pub stop : a.stop ≡ answer_of x.after.stop
  pub edge : a.edge ≡ x.edge
  pub state : state_of new.cpu new.memory ≡ bare (record (x.after) { stop = Running })
  pub undefined : new.cpu.undefined ≡ old.cpu.undefined + x.undefined
  pub more : ℕ
  pub few : more ≤ spare x.after.stop (asks_by x.trap s)
  pub streams : Passes x.after more old.streams new.streams
  pub idle : asks_by x.trap s ≡ 0 → new.streams.input ≡ old.streams.input

-- the step failed, at a system call
pub record AdvanceFails (e : SysError) (s : State) (x : Expected) (old new : Machine) : Type 0 where
  pub trap : IsTrue x.trap
  pub call : IsTrue (takes_memory s)
  pub cpu : new.cpu ≡ old.cpu
  -- as before, but for the regions
  pub memory : new.memory ≡ record (old.memory) { regions = new.memory.regions }
  pub regions : LeavesRegions e s new.memory.regions
  pub streams : FailsAt e s x.after old.streams new.streams

-- by the answer
abbrev pub AdvanceGives : Result Advanced SysError → State → Expected → Machine → Machine → Type 0
AdvanceGives (Ok a) s x old new = Advances s x a old new
AdvanceGives (Err e) s x old new = AdvanceFails e s x old new

-- the edge of a step that finds this at eip
abbrev pub edge_by_found : Found → State → ℕ → List Edge
edge_by_found NoCode s c = []
edge_by_found NoInst s c = []
edge_by_found (There i n) s c = edge_by (is_transfer i) (result_at (There i n) s c) s.eip

-- what a step does that finds this at eip
abbrev pub expected : Found → State → ℕ → Expected
expected f s c = record {
  after = settled (result_at f s c) s;
  edge = first_edge (edge_by_found f s c);
  undefined = bit (some_unmarked (asked_at f s) s.cpu.marks);
  trap = traps_at f;
}

-- a step that finds this at eip
pub record Advance (f : Found) (result : Result Advanced SysError) (c : ℕ) (old new : Machine) : Type 0 where
  pub left : List ℕ
  pub told : Tells left old.streams.input
  pub gives : AdvanceGives result (fed left (state_of old.cpu old.memory)) (expected f (fed left (state_of old.cpu old.memory)) c) old new

-- what is expected of a system call by an instruction of this address
abbrev pub of_call : ℕ → State → Expected
of_call next s = record { after = settled (system next s) s; edge = None; undefined = 0; trap = true }

-- a system call: `at` is the address of the instruction, and eip of the old machine stands behind it
pub record Trap (at : ℕ) (result : Result Advanced SysError) (old new : Machine) : Type 0 where
  pub left : List ℕ
  pub told : Tells left old.streams.input
  pub gives : AdvanceGives result (fed left (state_of (record (old.cpu) { eip = at }) old.memory))
      (of_call old.cpu.eip (fed left (state_of (record (old.cpu) { eip = at }) old.memory)))
      (record old { cpu = record (old.cpu) { eip = at } }) new

-- the edge from an address to another, if there is one
abbrev pub edge_if : Bool → ℕ → ℕ → Option Edge
edge_if true from to = Some (from, to)
edge_if false from to = None
