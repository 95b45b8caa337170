-- What a traced run gives, for an input that tells what it has left.
use Rattle.std.specs.Prelude.{◌≡◌, ◌<◌, ◌≤◌, ℕ, List, [], ◌∷◌, length, Result, Ok, Err}
use Rattle.br_word.specs.State.{State, Running}
use Rattle.ia_inst.specs.Step.{step}
use Rattle.elf_read.specs.declared.exe.Exe.{Exe}
use Rattle.br_outside.specs.Streams.{Streams}
use Rattle.guest_sys.specs.Calls.{Passes}
use Rattle.guest_sys.specs.declared.answers.SysError.{SysError}
use Rattle.guest_sys.specs.declared.answers.SysError.TheVariants as sys
use Rattle.run_model.specs.Run.{run}
use Rattle.run_model.specs.Edges.{edges_from}
use Rattle.guest_run.specs.Guest.{ahead, answer_of, steps_taken, undefined_taken, RunFailsAt}
use Rattle.trace_file.specs.Edges.{Edge, in_order}
use Rattle.tracer.specs.TracedRun.{entry_edge, AreFew}
use Rattle.trace_file.specs.declared.limits.TheConstants.{FILE_EDGE_LIMIT}
use Rattle.tracer.specs.declared.answers.Traced.{Traced}
use Rattle.tracer.specs.declared.answers.TracingError.{TracingError}
use Rattle.tracer.specs.declared.answers.TracingError.TheVariants as errors

-- the edges of the first n steps of an executable's guest, in order: that its run began, and those of its transfers
abbrev pub edges_in : Exe → State → ℕ → List Edge
edges_in exe s n = in_order (entry_edge exe ∷ edges_from n s)

-- all steps were taken, and their edges are recorded
pub record TraceDone (n : ℕ) (exe : Exe) (s : State) (t : Traced) (before after : Streams) : Type 0 where
  pub edges : t.edges ≡ edges_in exe s n
  pub within : (k : ℕ) → k ≤ n → AreFew (edges_in exe s k)
  pub stop : t.stop ≡ answer_of (run n s []).stop
  pub steps : t.steps ≡ steps_taken n s
  pub undefined : t.undefined ≡ undefined_taken n s
  pub more : ℕ
  pub few : more ≤ ahead (run n s [])
  pub streams : Passes (run n s []) more before after

-- the limit was passed in the last of the first `taken` steps, and no more steps were taken
pub record TraceFull (n : ℕ) (exe : Exe) (s : State) (before after : Streams) : Type 0 where
  pub taken : ℕ
  pub most : taken ≤ n
  pub within : (k : ℕ) → k < taken → AreFew (edges_in exe s k)
  pub passed : FILE_EDGE_LIMIT < length (edges_in exe s taken)
  pub more : ℕ
  pub few : more ≤ ahead (run taken s [])
  pub streams : Passes (run taken s []) more before after

-- the step after the first `done` steps failed
pub record TraceFailed (e : SysError) (n : ℕ) (exe : Exe) (s : State) (before after : Streams) : Type 0 where
  pub done : ℕ
  pub most : done < n
  pub within : (k : ℕ) → k ≤ done → AreFew (edges_in exe s k)
  pub running : (run done s []).stop ≡ Running
  pub streams : RunFailsAt e (run done s []) (step (run done s []) 0) before after

-- memory was wanting after the first `done` steps, or in the step after them
pub record TraceWanted (n : ℕ) (exe : Exe) (s : State) (before after : Streams) : Type 0 where
  pub done : ℕ
  pub most : done ≤ n
  pub within : (k : ℕ) → k ≤ done → AreFew (edges_in exe s k)
  pub streams : RunFailsAt sys.Memory (run done s []) (step (run done s []) 0) before after

-- by the answer
abbrev pub TraceGives : Result Traced TracingError → ℕ → Exe → State → Streams → Streams → Type 0
TraceGives (Ok t) n exe s before after = TraceDone n exe s t before after
TraceGives (Err errors.Union) n exe s before after = TraceFull n exe s before after
TraceGives (Err errors.Input) n exe s before after = TraceFailed sys.Input n exe s before after
TraceGives (Err errors.Out) n exe s before after = TraceFailed sys.Out n exe s before after
TraceGives (Err errors.Report) n exe s before after = TraceFailed sys.Report n exe s before after
TraceGives (Err errors.Memory) n exe s before after = TraceWanted n exe s before after
