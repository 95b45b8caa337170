-- Lists of calls on a session with their answers, and what the emitted files are.
use Rattle.std.specs.Prelude.{◌≡◌, ℕ, List, [], ◌∷◌, Result, Ok, Err}
use Rattle.elf_read.specs.declared.exe.Exe.{Exe}
use Rattle.trace_file.specs.Edges.{Edge, union_of}
use Rattle.trace_set.specs.declared.error.SetError.{SetError}
use Rattle.trace_set.specs.declared.error.Unknown.{Unknown}
use Rattle.trace_set.specs.Traces.{Traces, Adds, Removes, sets_of, with_trace, without_number}
use Rattle.code_layout.specs.declared.built.Built.{Built}
use Rattle.code_layout.specs.declared.built.BuildError.{BuildError}
use Rattle.code_layout.specs.Image.{built_of, HasTooManyBlocks, IsTooLong}
use Rattle.code_layout.specs.declared.built.BuildError.TheVariants as refusals
use Rattle.session_core.specs.Session.{SessionView, new_session, traces_in, with_traces, live_edges, emitted_from}

-- ---- what one call answers

-- an emit answers this, and leaves that session
abbrev pub Emits : SessionView → Result Built BuildError → SessionView → Type 0
Emits old (Ok file) new = (file ≡ built_of old.exe (live_edges old)) × (new ≡ emitted_from old)
Emits old (Err refusals.Blocks) new = HasTooManyBlocks old.exe (live_edges old) × (new ≡ old)
Emits old (Err refusals.Code) new = IsTooLong old.exe (live_edges old) × (new ≡ old)
Emits old (Err refusals.Memory) new = new ≡ old

-- a call on a session, with its answer
pub data Call : Type 0 where
  Add : List Edge → Result ℕ SetError → Call
  Remove : ℕ → Result (Unit {0}) Unknown → Call
  Emit : Result Built BuildError → Call

-- a call with its answer leads from one session to another
abbrev pub Does : SessionView → Call → SessionView → Type 0
Does old (Add edges answer) new = Adds (traces_in old) edges answer (traces_in new) × (new ≡ with_traces old (traces_in new))
Does old (Remove number answer) new = Removes (traces_in old) number answer (traces_in new) × (new ≡ with_traces old (traces_in new))
Does old (Emit answer) new = Emits old answer new

-- calls lead from one session to another
abbrev pub DoEach : SessionView → List Call → SessionView → Type 0
DoEach old [] new = new ≡ old
DoEach old (call ∷ more) new = (next : SessionView) × Does old call next × DoEach next more new

-- ---- what they come to

-- the live traces after a call: only additions and removals that were not refused change them
abbrev pub traces_after : Traces → Call → Traces
traces_after ts (Add edges (Ok number)) = with_trace ts edges
traces_after ts (Add edges (Err e)) = ts
traces_after ts (Remove number (Ok done)) = record { traces = without_number number ts.traces; next = ts.next }
traces_after ts (Remove number (Err e)) = ts
traces_after ts (Emit answer) = ts

-- after calls
abbrev pub traces_after_all : Traces → List Call → Traces
traces_after_all ts [] = ts
traces_after_all ts (call ∷ more) = traces_after_all (traces_after ts call) more

-- a file that this call answered is the one of the traces that are live at it
abbrev pub IsFileOf : Exe → Traces → Call → Type 0
IsFileOf exe ts (Emit (Ok file)) = file ≡ built_of exe (union_of (sets_of ts.traces))
IsFileOf exe ts (Emit (Err e)) = Unit {0}
IsFileOf exe ts (Add edges answer) = Unit {0}
IsFileOf exe ts (Remove number answer) = Unit {0}

-- each file that one of the calls answered is
abbrev pub AreFilesOf : Exe → Traces → List Call → Type 0
AreFilesOf exe ts [] = Unit {0}
AreFilesOf exe ts (call ∷ more) = IsFileOf exe ts call × AreFilesOf exe (traces_after ts call) more

-- none yet
abbrev pub no_traces : Traces
no_traces = record { traces = []; next = 1 }

-- Over any list of calls on a new session, each emitted file is the one that is built for the traces that are live then, and the live
-- traces are those that the additions and removals which were not refused leave.
abbrev pub SessionsHold : Type 0
SessionsHold = (exe : Exe) (calls : List Call) (last : SessionView) → DoEach (new_session exe) calls last
    → AreFilesOf exe no_traces calls × (traces_in last ≡ traces_after_all no_traces calls)
