-- Bounded runs of a guest over any objects, step by step.
use Rattle.std.specs.Prelude.{◌≡◌, ℕ, zero, suc, ◌+◌, ◌<◌, ◌≤◌, true, false, List, [], ◌∷◌, ◌++◌, Option, Some, None, IfSome, Result, Ok, Err}
use Rattle.br_word.specs.State.{State, Running}
use Rattle.ia_inst.specs.Step.{step}
use Rattle.br_outside.specs.Streams.{Streams}
use Rattle.guest_sys.specs.declared.answers.SysError.{SysError}
use Rattle.guest_sys.specs.Machine.{fed, bare}
use Rattle.guest_sys.specs.Calls.{Passes, LeavesRegions}
use Rattle.run_model.specs.Edges.{Edge, edges_from}
use Rattle.run_model.specs.Run.{run}
use Rattle.guest_run.specs.declared.stop.Stop.{Stop}
use Rattle.guest_run.specs.Guest.{GuestView, StepCall, ahead, while_running, steps_taken, undefined_taken, edge_after, answer_of, AllSteady, OneFails, RunFailsAt, Runs}

-- the edge of a step, if it has one, as a list
abbrev pub edge_list : Option Edge → List Edge
edge_list None = []
edge_list (Some e) = e ∷ []

-- one more step, after what was done before it
pub record OneMore (Before : List Edge → GuestView → Streams → Type 0) (edges : List Edge) (h : GuestView) (after : Streams) : Type 0 where
  pub first : List Edge
  pub guest : GuestView
  pub now : Streams
  pub before : Before first guest now
  pub step : StepCall (Ok true) 0 guest h now after
  pub whole : edges ≡ first ++ edge_list h.edge

-- The guest g takes n steps with the choice 0, none of which fails, and then is h. The edges are those of its steps, in order.
unfoldable pub TakesSteps : ℕ → GuestView → Streams → List Edge → GuestView → Streams → Type 0
TakesSteps zero g before edges h after = (edges ≡ []) × (h ≡ g) × (after ≡ before)
TakesSteps (suc n) g before edges h after = OneMore (λ first k now. TakesSteps n g before first k now) edges h after

-- All n steps were taken, or fewer, and then the guest has stopped.
pub record RunStands (result : Stop) (n : ℕ) (g h : GuestView) (before after : Streams) : Type 0 where
  pub taken : ℕ
  pub most : taken ≤ n
  pub edges : List Edge
  pub steps : TakesSteps taken g before edges h after
  pub all : h.state.stop ≡ Running → taken ≡ n
  pub answer : result ≡ answer_of h.state.stop

-- fewer than n steps were taken, and the next one failed
pub record RunBreaks (e : SysError) (n : ℕ) (g h : GuestView) (before after : Streams) : Type 0 where
  pub taken : ℕ
  pub within : taken < n
  pub edges : List Edge
  pub last : GuestView
  pub now : Streams
  pub steps : TakesSteps taken g before edges last now
  pub failed : StepCall (Err e) 0 last h now after

-- a run of at most n steps
abbrev pub BoundedRun : Result Stop SysError → ℕ → GuestView → GuestView → Streams → Streams → Type 0
BoundedRun (Ok result) n g h before after = RunStands result n g h before after
BoundedRun (Err e) n g h before after = RunBreaks e n g h before after

-- ---- what steps come to

-- n steps from s: they are those of its run
pub record StepsTold (n : ℕ) (s : State) (edges : List Edge) (g h : GuestView) (before after : Streams) : Type 0 where
  pub taken : steps_taken n s ≡ n
  pub state : h.state ≡ bare (run n s [])
  pub undefined : h.undefined ≡ g.undefined + undefined_taken n s
  pub edge : h.edge ≡ edge_after n s g.edge
  pub edges_are : edges ≡ edges_from n s
  pub more : ℕ
  pub few : more ≤ while_running s.stop (ahead (run n s [])) 0
  pub streams : Passes (run n s []) more before after

-- n steps were taken: no count of a fault has changed
pub record StepsCome (n : ℕ) (edges : List Edge) (g h : GuestView) (before after : Streams) : Type 0 where
  pub live : h.live ≡ true
  pub streamless : h.state ≡ bare h.state
  pub steps : h.steps ≡ g.steps + n
  pub streams : AllSteady before after
  -- for an input that tells what it has left
  pub told : IfSome before.input.bytes (λ left. StepsTold n (fed left g.state) edges g h before after)

-- the step after n steps from s failed
pub record BreakTold (e : SysError) (n : ℕ) (s : State) (h : GuestView) (before after : Streams) : Type 0 where
  pub running : (run n s []).stop ≡ Running
  -- as before that step, but for the regions
  pub state : h.state ≡ bare (record (run n s []) { regions = h.state.regions })
  pub regions : LeavesRegions e (run n s []) h.state.regions
  pub streams : RunFailsAt e (run n s []) (step (run n s []) 0) before after

-- the step after n steps failed: no count of a fault has changed but that of the object of the error
pub record BreakComes (e : SysError) (n : ℕ) (g h : GuestView) (before after : Streams) : Type 0 where
  pub dead : h.live ≡ false
  pub steps : h.steps ≡ g.steps + n
  pub streams : OneFails e before after
  -- for an input that tells what it has left
  pub told : IfSome before.input.bytes (λ left. BreakTold e n (fed left g.state) h before after)

-- what steps of a live guest come to, over any objects
abbrev pub StepsHold : Type 0
StepsHold = (n : ℕ) (g h : GuestView) (edges : List Edge) (before after : Streams) → g.live ≡ true → g.state ≡ bare g.state
    → TakesSteps n g before edges h after → StepsCome n edges g h before after

-- what a run of a live guest comes to that none of its steps has ended by an error, and which edges it has
abbrev pub RunsHold : Type 0
RunsHold = (result : Stop) (n : ℕ) (g h : GuestView) (before after : Streams) → g.live ≡ true → g.state ≡ bare g.state
    → (run : RunStands result n g h before after)
    → Runs (Ok result) n g h before after × IfSome before.input.bytes (λ left. run.edges ≡ edges_from n (fed left g.state))

-- what steps come to where the next one fails
abbrev pub BreaksHold : Type 0
BreaksHold = (e : SysError) (n : ℕ) (g k h : GuestView) (edges : List Edge) (before now after : Streams)
    → g.live ≡ true → g.state ≡ bare g.state → TakesSteps n g before edges k now → StepCall (Err e) 0 k h now after
    → BreakComes e n g h before after
