-- A traced run over any objects: a guest takes steps, and the edge of each is recorded.
use Rattle.std.specs.Prelude.{◌≡◌, ◌⊎◌, ◌<◌, ◌≤◌, ℕ, true, List, length, Option, Some, None, Result, Ok, Err}
use Rattle.elf_read.specs.declared.exe.Exe.{Exe}
use Rattle.br_outside.specs.Streams.{Streams}
use Rattle.guest_sys.specs.declared.answers.SysError.{SysError}
use Rattle.guest_sys.specs.declared.answers.SysError.TheVariants as sys
use Rattle.guest_run.specs.Guest.{GuestView, StepCall, AllSteady, OneFails, answer_of}
use Rattle.guest_run.specs.BoundedRun.{TakesSteps, RunStands, RunBreaks}
use Rattle.trace_file.specs.Edges.{Edge, with_edge, collected}
use Rattle.tracer.specs.declared.answers.Traced.{Traced}
use Rattle.tracer.specs.declared.answers.TracingError.{TracingError}
use Rattle.tracer.specs.declared.answers.TracingError.TheVariants as errors
use Rattle.trace_file.specs.declared.limits.TheConstants.{FILE_EDGE_LIMIT}

-- that the run of an executable began
abbrev pub entry_edge : Exe → Edge
entry_edge exe = (0, exe.entry)

-- the edges with that of a step, if it has one
abbrev pub with_step : Option Edge → List Edge → List Edge
with_step None es = es
with_step (Some e) es = with_edge e es

-- the trace of a guest as it stands, with the edges that are recorded
abbrev pub traced : GuestView → List Edge → Traced
traced g es = record { edges = es; stop = answer_of g.state.stop; steps = g.steps; undefined = g.undefined }

-- why a run was not traced, where a step failed
abbrev pub error_of : SysError → TracingError
error_of sys.Input = errors.Input
error_of sys.Out = errors.Out
error_of sys.Report = errors.Report
error_of sys.Memory = errors.Memory

-- the edges are no more than the limit
abbrev pub AreFew : List Edge → Type 0
AreFew es = length es ≤ FILE_EDGE_LIMIT

-- at most n steps were taken, and their edges are recorded beside those of es
pub record TraceStands (t : Traced) (n : ℕ) (g : GuestView) (es : List Edge) (before after : Streams) : Type 0 where
  pub guest : GuestView
  pub run : RunStands t.stop n g guest before after
  pub few : AreFew (collected run.edges es)
  pub answer : t ≡ traced guest (collected run.edges es)

-- the limit was passed by the edge of the last step
pub record TracePasses (n : ℕ) (g : GuestView) (es : List Edge) (before after : Streams) : Type 0 where
  pub taken : ℕ
  pub within : taken < n
  pub edges : List Edge
  pub last : GuestView
  pub now : Streams
  pub steps : TakesSteps taken g before edges last now
  pub few : AreFew (collected edges es)
  pub guest : GuestView
  pub step : StepCall (Ok true) 0 last guest now after
  pub passed : FILE_EDGE_LIMIT < length (with_step guest.edge (collected edges es))

-- the next step failed
pub record TraceBreaks (e : SysError) (n : ℕ) (g : GuestView) (es : List Edge) (before after : Streams) : Type 0 where
  pub guest : GuestView
  pub run : RunBreaks e n g guest before after
  pub few : AreFew (collected run.edges es)

-- memory was wanting for the edges
pub record TraceWants (n : ℕ) (g : GuestView) (es : List Edge) (before after : Streams) : Type 0 where
  pub taken : ℕ
  pub most : taken ≤ n
  pub edges : List Edge
  pub guest : GuestView
  pub steps : TakesSteps taken g before edges guest after
  pub few : AreFew (collected edges es)

-- a guest that has recorded these edges takes at most n steps
abbrev pub TracedRun : Result Traced TracingError → ℕ → GuestView → List Edge → Streams → Streams → Type 0
TracedRun (Ok t) n g es before after = TraceStands t n g es before after
TracedRun (Err errors.Union) n g es before after = TracePasses n g es before after
TracedRun (Err errors.Input) n g es before after = TraceBreaks sys.Input n g es before after
TracedRun (Err errors.Out) n g es before after = TraceBreaks sys.Out n g es before after
TracedRun (Err errors.Report) n g es before after = TraceBreaks sys.Report n g es before after
TracedRun (Err errors.Memory) n g es before after = TraceBreaks sys.Memory n g es before after ⊎ TraceWants n g es before after

-- the counts of faults after a traced run: only that of the object of the error has risen
abbrev pub Faults : Result Traced TracingError → Streams → Streams → Type 0
Faults (Ok t) before after = AllSteady before after
Faults (Err errors.Union) before after = AllSteady before after
Faults (Err errors.Input) before after = OneFails sys.Input before after
Faults (Err errors.Out) before after = OneFails sys.Out before after
Faults (Err errors.Report) before after = OneFails sys.Report before after
Faults (Err errors.Memory) before after = AllSteady before after

-- what the steps and their edges have come to: all are recorded, or there is no trace
pub record Recorded (n : ℕ) (g h : GuestView) (es hs : List Edge) (before after : Streams) : Type 0 where
  pub run : RunStands (answer_of h.state.stop) n g h before after
  pub edges : hs ≡ collected run.edges es
  pub few : AreFew hs

-- what a guest that is followed comes to
abbrev pub Follows : Result (Unit {0}) TracingError → ℕ → GuestView → GuestView → List Edge → List Edge → Streams → Streams → Type 0
Follows (Ok _) n g h es hs before after = Recorded n g h es hs before after
Follows (Err e) n g h es hs before after = TracedRun (Err e) n g es before after
