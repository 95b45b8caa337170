-- A command as the calls that it makes of the outside, in order, and how a run goes through it.
use Rattle.std.specs.Prelude.{◌≡◌, ◌⊎◌, ◌<◌, ◌≤◌, ℕ, List, [], take, drop, Result, Ok, Err}
use Rattle.std.specs.Option.{option_map}
use Rattle.br_outside.specs.Outside.{ShelfView, StreamView, Fetched, Stored, Gave}
use Rattle.br_outside.specs.declared.errors.ShelfError.{ShelfError}
use Rattle.br_outside.specs.declared.errors.ShelfError.TheVariants as shelf_errors
use Rattle.br_outside.specs.declared.errors.StoreError.{StoreError}
use Rattle.br_outside.specs.declared.errors.StoreError.TheVariants as store_errors
use Rattle.br_outside.specs.declared.errors.SinkError.{SinkError}
use Rattle.br_outside.specs.declared.errors.SinkError.TheVariants as sink_errors
use Rattle.br_outside.specs.Streams.{Steady, Fails, Tells, HasLeft, WasGiven, Leaves, Gains}
use Rattle.top_plan.specs.World.{World, on_shelf, on_out}
use Rattle.top_plan.specs.Texts.{Finished, WorkEnd}
use Rattle.top_plan.specs.declared.pieces.TheConstants.{PIECE_LENGTH}
use Rattle.top_plan.specs.declared.ends.Halt.TheVariants.{Because, Outside, Memory}
use Rattle.top_plan.specs.declared.ends.Cause.{Cause}
use Rattle.top_plan.specs.declared.ends.Cause.TheVariants.{Limited}
use Rattle.top_plan.specs.declared.ends.Object.{Object}
use Rattle.top_plan.specs.declared.ends.Object.TheVariants as objects
use Rattle.top_plan.specs.declared.ends.Limit.TheVariants as limits

-- What one turn of a program that is run does with the streams.
pub record Turned : Type 0 where
  -- what the input has left after it
  pub left : List ℕ
  pub printed : List ℕ
  pub reported : List ℕ
  -- how many bytes it asks of the input, at most
  pub asked : ℕ
  -- how many bytes beyond those that it uses may be taken, at most
  pub spare : ℕ

-- The work ends; or a file is fetched or stored, a text is printed at once, or a turn reads, prints and reports by what the
-- input has left; and the work goes on. The turns within a script may be read from bytes that were taken ahead of them.
pub data Plan : Type 0 where
  Ends : Result Finished Cause → Plan
  Fetches : (name : List ℕ) (limit : ℕ) → (List ℕ → Plan) → Plan
  Stores : (name bytes : List ℕ) → Plan → Plan
  Prints : (text : List ℕ) → Plan → Plan
  Turns : (List ℕ → Turned) → (List ℕ → Plan) → Plan
  Script : Plan → Plan

-- a run: from a world to an end and a world
abbrev pub Run : Type 1
Run = World → WorkEnd → World → Type 0

-- memory may be wanting before each call and before the end
abbrev pub RunsOut : Run
RunsOut s o t = (o ≡ Err Memory) × (t ≡ s)

-- the call that met this object failed
abbrev pub CallFails : Object → Run
CallFails object s o t = (o ≡ Err (Outside object)) × (t ≡ s)

-- what comes after a fetch, by its answer
abbrev pub AfterFetch : ℕ → (List ℕ → Run) → Result (List ℕ) ShelfError → Run
AfterFetch limit next (Ok bytes) s o t = next bytes s o t
AfterFetch limit next (Err shelf_errors.Failed) s o t = CallFails objects.Shelf s o t
AfterFetch limit next (Err shelf_errors.TooLong) s o t = (o ≡ Err (Because (Limited (limits.File limit)))) × (t ≡ s)
AfterFetch limit next (Err shelf_errors.Memory) s o t = RunsOut s o t

-- what comes after a store, by its answer
abbrev pub AfterStore : Run → Result (Unit {0}) StoreError → Run
AfterStore next (Ok _) s o t = next s o t
AfterStore next (Err store_errors.Failed) s o t = CallFails objects.Shelf s o t
AfterStore next (Err store_errors.Memory) s o t = RunsOut s o t

-- what comes after a give to this object, by its answer
abbrev pub AfterGive : Object → Run → Result (Unit {0}) SinkError → Run
AfterGive object next (Ok _) s o t = next s o t
AfterGive object next (Err sink_errors.Failed) s o t = CallFails object s o t
AfterGive object next (Err sink_errors.Memory) s o t = RunsOut s o t

-- ---- a turn

-- The turn was done: for no bytes no object is called.
pub record IsTurned (d : Turned) (s m : World) : Type 0 where
  pub shelf : m.shelf ≡ s.shelf
  pub more : ℕ
  pub few : more ≤ d.spare
  pub input : Leaves (drop more d.left) s.input m.input
  pub idle : d.asked ≡ 0 → m.input ≡ s.input
  pub out : Gains d.printed s.out m.out
  pub report : Gains d.reported s.report m.report

-- the input failed when less than what the turn asks for was taken
pub record InputFails (d : Turned) (left : List ℕ) (s : World) (o : WorkEnd) (t : World) : Type 0 where
  pub ends : o ≡ Err (Outside objects.Input)
  pub taken : ℕ
  pub few : taken < d.asked
  pub rest : HasLeft (drop taken left) s.input t.input
  pub fails : Fails s.input t.input
  pub shelf : t.shelf ≡ s.shelf
  pub out : t.out ≡ s.out
  pub report : t.report ≡ s.report

-- the output failed when a front part of what the turn prints was written
pub record OutputFails (d : Turned) (s : World) (o : WorkEnd) (t : World) : Type 0 where
  pub ends : o ≡ Err (Outside objects.Output)
  pub written : ℕ
  pub given : WasGiven (take written d.printed) s.out t.out
  pub some : d.printed ≡ [] → ⊥
  pub fails : Fails s.out t.out
  pub shelf : t.shelf ≡ s.shelf
  pub input : t.input ≡ s.input
  pub report : t.report ≡ s.report

-- the report failed when a front part of what the turn reports was written
pub record ReportFails (d : Turned) (s : World) (o : WorkEnd) (t : World) : Type 0 where
  pub ends : o ≡ Err (Outside objects.Report)
  pub written : ℕ
  pub given : WasGiven (take written d.reported) s.report t.report
  pub some : d.reported ≡ [] → ⊥
  pub fails : Fails s.report t.report
  pub shelf : t.shelf ≡ s.shelf
  pub input : t.input ≡ s.input
  pub out : t.out ≡ s.out

-- Memory was wanting in the turn, when at most what it asks for was taken, and front parts of what it prints and reports were
-- written.
pub record TurnRunsOut (d : Turned) (left : List ℕ) (s : World) (o : WorkEnd) (t : World) : Type 0 where
  pub ends : o ≡ Err Memory
  pub taken : ℕ
  pub few : taken ≤ d.asked
  pub input : Leaves (drop taken left) s.input t.input
  pub shelf : t.shelf ≡ s.shelf
  pub printed : ℕ
  pub out : WasGiven (take printed d.printed) s.out t.out
  pub out_steady : Steady s.out t.out
  pub reported : ℕ
  pub report : WasGiven (take reported d.reported) s.report t.report
  pub report_steady : Steady s.report t.report

-- a turn with this input left, and what comes after it
pub data AfterTurn (d : Turned) (left : List ℕ) (next : Run) (s : World) (o : WorkEnd) (t : World) : Type 0 where
  GoesOn : (m : World) → IsTurned d s m → next m o t → AfterTurn d left next s o t
  FailsInput : InputFails d left s o t → AfterTurn d left next s o t
  FailsOutput : OutputFails d s o t → AfterTurn d left next s o t
  FailsReport : ReportFails d s o t → AfterTurn d left next s o t
  WantsMemory : TurnRunsOut d left s o t → AfterTurn d left next s o t

-- ---- a script

-- of the input, up to a piece more was taken, and nothing else was done
pub record IsAhead (m t : World) : Type 0 where
  pub shelf : t.shelf ≡ m.shelf
  pub ahead : ℕ
  pub few : ahead ≤ PIECE_LENGTH
  pub input : t.input.bytes ≡ option_map (drop ahead) m.input.bytes
  pub steady : Steady m.input t.input
  pub out : t.out ≡ m.out
  pub report : t.report ≡ m.report

-- the end that the plan comes to
abbrev pub planned_end : Result Finished Cause → WorkEnd
planned_end (Ok done) = Ok done
planned_end (Err cause) = Err (Because cause)

-- the shelf was asked, and what comes then
abbrev pub Fetching : List ℕ → ℕ → (List ℕ → Run) → Run
Fetching name limit next s o t =
    (v : ShelfView) × (answer : Result (List ℕ) ShelfError) × Fetched name limit answer s.shelf v
    × AfterFetch limit next answer (on_shelf s v) o t

-- the file was stored, and what comes then
abbrev pub Storing : List ℕ → List ℕ → Run → Run
Storing name bytes next s o t =
    (v : ShelfView) × (answer : Result (Unit {0}) StoreError) × Stored name bytes answer s.shelf v
    × AfterStore next answer (on_shelf s v) o t

-- the output was given the text, and what comes then
abbrev pub Printing : List ℕ → Run → Run
Printing text next s o t =
    (v : StreamView) × (answer : Result (Unit {0}) SinkError) × Gave text answer s.out v
    × AfterGive objects.Output next answer (on_out s v) o t

-- A run of the plan may end so and leave this.
unfoldable pub Went : Plan → Run
Went (Ends end) s o t = RunsOut s o t ⊎ ((o ≡ planned_end end) × (t ≡ s))
Went (Fetches name limit next) s o t = RunsOut s o t ⊎ Fetching name limit (λ bytes. Went (next bytes)) s o t
Went (Stores name bytes next) s o t = RunsOut s o t ⊎ Storing name bytes (Went next) s o t
Went (Prints text next) s o t = RunsOut s o t ⊎ Printing text (Went next) s o t
Went (Turns turn next) s o t = RunsOut s o t ⊎ ((left : List ℕ) × Tells left s.input × AfterTurn (turn left) left (Went (next left)) s o t)
Went (Script within) s o t = (m : World) × Went within s o m × IsAhead m t
