-- What a guest is seen as, and what a step and a run do to it and to its streams.
use Rattle.std.specs.Prelude.{◌≡◌, ℕ, zero, suc, ◌+◌, ◌<◌, ◌≤◌, Bool, true, false, IsTrue, List, [], ◌∷◌, ◌++◌, take, drop, length, Option, Some, None, IfSome, Result, Ok, Err}
use Rattle.br_word.specs.Words.{bit}
use Rattle.br_word.specs.State.{State, RunState, Running, Exited, Faulted}
use Rattle.ia_inst.specs.declared.inst.Inst.{Inst}
use Rattle.ia_inst.specs.declared.inst.Inst.TheVariants.{Int80}
use Rattle.ia_inst.specs.Step.{Found, NoCode, NoInst, There, found, step, asked_at, some_unmarked}
use Rattle.br_outside.specs.Outside.{StreamView}
use Rattle.guest_sys.specs.declared.answers.SysError.{SysError}
use Rattle.guest_sys.specs.declared.answers.SysError.TheVariants.{Input, Out, Report, Memory}
use Rattle.br_outside.specs.Streams.{Streams, Steady, Fails, Tells, HasLeft, WasGiven, Leaves, Gains}
use Rattle.guest_mem.specs.View.{MemoryView}
use Rattle.ia_meaning.specs.declared.cpu.Cpu.{Cpu}
use Rattle.guest_sys.specs.Machine.{state_of, fed, bare}
use Rattle.guest_sys.specs.Calls.{asks, takes_memory, spare, Passes, FailsAt, LeavesRegions}
use Rattle.guest_run.specs.declared.stop.Stop as answer
use Rattle.guest_run.specs.declared.stop.Stop.TheVariants as answers
use Rattle.run_model.specs.Edges.{Edge, edge_of}
use Rattle.run_model.specs.Run.{run}
use Rattle.run_model.specs.Opening.{arguments, opening}
use Rattle.elf_read.specs.declared.exe.Exe.{Exe}

-- a guest is seen as its state and how far it has come
pub record GuestView : Type 0 where
  -- the state without its streams
  pub state : State
  -- how many steps were taken, and how many of them read an undefined flag
  pub steps : ℕ
  pub undefined : ℕ
  -- the edge of the last step, if it has one
  pub edge : Option Edge
  -- no step has failed
  pub live : Bool

-- the input and the outputs of descriptors 1 and 2
abbrev pub streams : StreamView → StreamView → StreamView → Streams
streams i o e = record { input = i; out = o; err = e }

-- how a guest stands, as its state has it
abbrev pub stop_of : answer.Stop → RunState
stop_of answers.Budget = Running
stop_of (answers.Exited status) = Exited status
stop_of (answers.Fault f) = Faulted f

-- a guest by its parts
abbrev pub view_of : Cpu → MemoryView → answer.Stop → ℕ → Option Edge → Bool → GuestView
view_of u m stop steps edge live = record {
  state = record (state_of u m) { stop = stop_of stop };
  steps = steps;
  undefined = u.undefined;
  edge = edge;
  live = live;
}

-- the guest of an executable that is given these words, before its first step
abbrev pub beginning : Exe → List (List ℕ) → GuestView
beginning exe words = record {
  state = opening exe (arguments words) [];
  steps = 0;
  undefined = 0;
  edge = None;
  live = true;
}

-- the edge of a step, which has at most one
abbrev pub first_edge : List Edge → Option Edge
first_edge [] = None
first_edge (e ∷ es) = Some e

-- the next step reads an undefined flag
abbrev pub reads_undefined : State → Bool
reads_undefined s = some_unmarked (asked_at (found s.eip s.regions) s) s.cpu.marks

-- int 0x80 calls the system, and nothing else does
abbrev pub is_trap : Inst → Bool
is_trap Int80 = true
is_trap _ = false

-- what was found is int 0x80
abbrev pub traps_at : Found → Bool
traps_at NoCode = false
traps_at NoInst = false
traps_at (There i n) = is_trap i

-- int 0x80 stands at eip
abbrev pub traps : State → Bool
traps s = traps_at (found s.eip s.regions)

-- how many bytes a step asks of the input, if it is a system call
abbrev pub asks_by : Bool → State → ℕ
asks_by true s = asks s
asks_by false s = 0

-- how many bytes the next step asks of the input
abbrev pub asks_next : State → ℕ
asks_next s = asks_by (traps s) s

-- how many bytes beyond what the state has left may have been taken: where a read has faulted, all
-- that it asks for
abbrev pub ahead : State → ℕ
ahead s = spare s.stop (asks_next s)

-- ---- a step

-- the guest after a step from s to t
abbrev pub stepped : GuestView → State → ℕ → State → GuestView
stepped g s c t = record {
  state = bare t;
  steps = g.steps + 1;
  undefined = g.undefined + bit (reads_undefined s);
  edge = first_edge (edge_of s.stop s c);
  live = true;
}

-- a step from s was done
pub record StepDone (s : State) (c : ℕ) (g h : GuestView) (before after : Streams) : Type 0 where
  pub running : s.stop ≡ Running
  pub guest : h ≡ stepped g s c (step s c)
  pub more : ℕ
  pub few : more ≤ ahead (step s c)
  pub streams : Passes (step s c) more before after
  pub idle : asks_next s ≡ 0 → after.input ≡ before.input

-- a step fails only at a read, a write or a brk, and the guest takes no step any more
pub record StepFailed (e : SysError) (s : State) (c : ℕ) (g h : GuestView) (before after : Streams) : Type 0 where
  pub running : s.stop ≡ Running
  pub trap : IsTrue (traps s)
  pub call : IsTrue (takes_memory s)
  -- as before, but for the regions
  pub guest : h ≡ record g { live = false; state = record (g.state) { regions = h.state.regions } }
  pub regions : LeavesRegions e s h.state.regions
  pub streams : FailsAt e s (step s c) before after

-- a guest that has stopped takes no step
pub record NoStep (s : State) (g h : GuestView) (before after : Streams) : Type 0 where
  pub stopped : s.stop ≡ Running → ⊥
  pub guest : h ≡ g
  pub streams : after ≡ before

-- by the answer
abbrev pub StepGives : Result Bool SysError → State → ℕ → GuestView → GuestView → Streams → Streams → Type 0
StepGives (Ok true) s c g h before after = StepDone s c g h before after
StepGives (Ok false) s c g h before after = NoStep s g h before after
StepGives (Err e) s c g h before after = StepFailed e s c g h before after

-- a step of a guest, with what the input has left, where it tells
pub record StepCall (result : Result Bool SysError) (c : ℕ) (g h : GuestView) (before after : Streams) : Type 0 where
  pub left : List ℕ
  pub told : Tells left before.input
  pub gives : StepGives result (fed left g.state) c g h before after

-- ---- a run

-- one thing for a guest that runs, another for one that has stopped
abbrev pub while_running : {A : Type 0} → RunState → A → A → A
while_running Running go stay = go
while_running (Exited n) go stay = stay
while_running (Faulted f) go stay = stay

-- how many of the next n steps are taken before it stands
abbrev pub steps_taken : ℕ → State → ℕ
steps_taken zero s = 0
steps_taken (suc n) s = while_running s.stop (1 + steps_taken n (step s 0)) 0

-- how many of them read an undefined flag
abbrev pub undefined_taken : ℕ → State → ℕ
undefined_taken zero s = 0
undefined_taken (suc n) s = while_running s.stop (bit (reads_undefined s) + undefined_taken n (step s 0)) 0

-- the edge of the last step that is taken, if one is
abbrev pub edge_after : ℕ → State → Option Edge → Option Edge
edge_after zero s e = e
edge_after (suc n) s e = while_running s.stop (edge_after n (step s 0) (first_edge (edge_of s.stop s 0))) e

-- how a guest stands, as a call answers it
abbrev pub answer_of : RunState → answer.Stop
answer_of Running = answers.Budget
answer_of (Exited status) = answers.Exited status
answer_of (Faulted f) = answers.Fault f

-- no step failed: n were taken, or fewer, and then the guest has stopped
pub record RunDone (result : answer.Stop) (n : ℕ) (s : State) (g h : GuestView) (before after : Streams) : Type 0 where
  pub answer : result ≡ answer_of (run n s []).stop
  pub state : h.state ≡ bare (run n s [])
  pub steps : h.steps ≡ g.steps + steps_taken n s
  pub undefined : h.undefined ≡ g.undefined + undefined_taken n s
  pub edge : h.edge ≡ edge_after n s g.edge
  pub more : ℕ
  pub few : more ≤ while_running s.stop (ahead (run n s [])) 0
  pub streams : Passes (run n s []) more before after

-- a sink was given what u has written and a front part of what v has more
pub record PartGiven (first all : List ℕ) (old new : StreamView) : Type 0 where
  pub more : ℕ
  pub given : WasGiven (first ++ take more (drop (length first) all)) old new

-- the same of a sink that did not fail
pub record PartGained (first all : List ℕ) (old new : StreamView) : Type 0 where
  pub part : PartGiven first all old new
  pub steady : Steady old new

-- a run failed in the step from u to v
abbrev pub RunFailsAt : SysError → State → State → Streams → Streams → Type 0
RunFailsAt Input u v before after = ((n : ℕ) × (n < asks u) × HasLeft (drop n u.input) before.input after.input)
    × Fails before.input after.input × Gains u.out before.out after.out × Gains u.err before.err after.err
RunFailsAt Out u v before after = PartGiven u.out v.out before.out after.out × Fails before.out after.out
    × Leaves u.input before.input after.input × Gains u.err before.err after.err
RunFailsAt Report u v before after = PartGiven u.err v.err before.err after.err × Fails before.err after.err
    × Leaves u.input before.input after.input × Gains u.out before.out after.out
RunFailsAt Memory u v before after = ((n : ℕ) × (n ≤ asks u) × Leaves (drop n u.input) before.input after.input)
    × PartGained u.out v.out before.out after.out × PartGained u.err v.err before.err after.err

-- the step after the first `done` steps failed
pub record RunFailed (e : SysError) (n : ℕ) (s : State) (g h : GuestView) (before after : Streams) : Type 0 where
  pub done : ℕ
  pub within : done < n
  pub running : (run done s []).stop ≡ Running
  -- as before that step, but for the regions
  pub state : h.state ≡ bare (record (run done s []) { regions = h.state.regions })
  pub regions : LeavesRegions e (run done s []) h.state.regions
  pub steps : h.steps ≡ g.steps + done
  pub streams : RunFailsAt e (run done s []) (step (run done s []) 0) before after

-- by the answer
abbrev pub RunGives : Result answer.Stop SysError → ℕ → State → GuestView → GuestView → Streams → Streams → Type 0
RunGives (Ok result) n s g h before after = RunDone result n s g h before after
RunGives (Err e) n s g h before after = RunFailed e n s g h before after

-- ---- what holds of a run whether or not the input tells

-- no count of faults has changed
pub record AllSteady (before after : Streams) : Type 0 where
  pub input : Steady before.input after.input
  pub out : Steady before.out after.out
  pub err : Steady before.err after.err

-- the object of the error failed, and no other
abbrev pub OneFails : SysError → Streams → Streams → Type 0
OneFails Input before after = Fails before.input after.input × Steady before.out after.out × Steady before.err after.err
OneFails Out before after = Fails before.out after.out × Steady before.input after.input × Steady before.err after.err
OneFails Report before after = Fails before.err after.err × Steady before.input after.input × Steady before.out after.out
OneFails Memory before after = AllSteady before after

-- a guest that still runs has taken all n steps
pub record RunEnded (result : answer.Stop) (n : ℕ) (g h : GuestView) (before after : Streams) : Type 0 where
  pub answer : result ≡ answer_of h.state.stop
  pub live : h.live ≡ true
  pub most : h.steps ≤ g.steps + n
  pub all : h.state.stop ≡ Running → h.steps ≡ g.steps + n
  pub streams : AllSteady before after

-- a run that failed
pub record RunBroken (e : SysError) (n : ℕ) (g h : GuestView) (before after : Streams) : Type 0 where
  pub live : h.live ≡ false
  pub most : h.steps < g.steps + n
  pub streams : OneFails e before after

-- by the answer
abbrev pub EndGives : Result answer.Stop SysError → ℕ → GuestView → GuestView → Streams → Streams → Type 0
EndGives (Ok result) n g h before after = RunEnded result n g h before after
EndGives (Err e) n g h before after = RunBroken e n g h before after

-- a run of at most n steps
pub record Runs (result : Result answer.Stop SysError) (n : ℕ) (g h : GuestView) (before after : Streams) : Type 0 where
  pub ends : EndGives result n g h before after
  -- for an input that tells what it has left
  pub told : IfSome before.input.bytes (λ left. RunGives result n (fed left g.state) g h before after)
