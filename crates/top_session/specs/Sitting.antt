-- A session as a plain fold over the lines of its script.
use Rattle.std.specs.Prelude.{ℕ, ◌+◌, nat_le, nat_lt, cond, List, [], ◌∷◌, ◌++◌, length, Option, Some, None, Result, Ok, Err}
use Rattle.br_outside.specs.Files.{Files, put}
use Rattle.trace_file.specs.Edges.{Edge}
use Rattle.trace_file.specs.Trace.{trace}
use Rattle.code_layout.specs.declared.built.Built.{Built}
use Rattle.code_layout.specs.Image.{built_of}
use Rattle.session_core.specs.Session.{SessionView, traces_in, with_traces, live_edges, to_make, emitted_from}
use Rattle.script_text.specs.Lines.{Ordered, Nothings, Adds, Removes, Emits, order_of}
use Rattle.script_text.specs.Split.{lines_of}
use Rattle.top_plan.specs.Texts.{WorkEnd}
use Rattle.top_plan.specs.Outcomes.{done_with}
use Rattle.top_plan.specs.declared.ends.Halt.{Halt}
use Rattle.top_plan.specs.declared.ends.Halt.TheVariants.{Because, Outside}
use Rattle.top_plan.specs.declared.ends.Cause.{Cause}
use Rattle.top_plan.specs.declared.ends.Cause.TheVariants.{RefusedLine, Limited}
use Rattle.top_plan.specs.declared.ends.Object.TheVariants as objects
use Rattle.top_plan.specs.declared.ends.Limit.TheVariants as limits
use Rattle.top_files.specs.declared.traces.TheConstants.{TRACE_FILE_LIMIT}
use Rattle.top_build.specs.BuildPlan.{limited_built}
use Rattle.top_session.specs.declared.limits.TheConstants.{LINE_LIMIT, LINE_COUNT_LIMIT, BAD_LINE}
use Rattle.top_session.specs.Lines.{added_line, removed_line, emitted_line, lines_line}
use Rattle.top_session.specs.SessionPlan.{edges_of_line, added, removed}

-- ---- what a line does

-- what the lines have come to: the files, the session, what was printed, and the edges of each file that was stored
pub record Sitting : Type 0 where
  pub files : Files
  pub session : SessionView
  pub printed : List ℕ
  pub stored : List (List Edge)

-- the session goes on so, and a line is printed
abbrev pub prints_on : Sitting → SessionView → List ℕ → Sitting
prints_on sat session line = record { files = sat.files; session = session; printed = sat.printed ++ line; stored = sat.stored }

-- a file is stored under the name
abbrev pub stores_on : Sitting → List ℕ → Built → Sitting
stores_on sat name built =
    record {
      files = put name (Some built.bytes) sat.files;
      session = emitted_from sat.session;
      printed = sat.printed ++ emitted_line built (to_make sat.session);
      stored = sat.stored ++ live_edges sat.session ∷ [];
    }

-- A line is done, or this is why it is not: the first cause that holds.
abbrev pub Done : Type 0
Done = Result Sitting Halt

-- a check passes, and the line is done so; or it is not
abbrev pub checks_on : {X : Type 0} → Result X Cause → (X → Done) → Done
checks_on (Ok x) done = done x
checks_on (Err cause) done = Err (Because cause)

-- the content of a name is no longer than a trace may be
abbrev pub content_on : Option (List ℕ) → (List ℕ → Done) → Done
content_on None done = Err (Outside objects.Shelf)
content_on (Some bytes) done =
    cond (nat_le (length bytes) TRACE_FILE_LIMIT) (done bytes) (Err (Because (Limited (limits.File TRACE_FILE_LIMIT))))

-- what line q does that asks this, for the original whose digest it is
abbrev pub order_done : List ℕ → ℕ → Sitting → Option Ordered → Done
order_done digest q sat None = Err (Because (RefusedLine q BAD_LINE 0))
order_done digest q sat (Some Nothings) = Ok sat
order_done digest q sat (Some (Adds name)) =
    content_on (sat.files name) (λ bytes. checks_on (edges_of_line q (trace bytes digest)) (λ es.
    checks_on (added (traces_in sat.session) es) (λ ts.
    Ok (prints_on sat (with_traces sat.session ts) (added_line sat.session.next)))))
order_done digest q sat (Some (Removes number)) =
    checks_on (removed q number (traces_in sat.session)) (λ ts. Ok (prints_on sat (with_traces sat.session ts) (removed_line number)))
order_done digest q sat (Some (Emits name)) =
    checks_on (limited_built (built_of sat.session.exe (live_edges sat.session))) (λ built. Ok (stores_on sat name built))

-- what line q does
abbrev pub line_done : List ℕ → ℕ → Sitting → List ℕ → Done
line_done digest q sat line =
    cond (nat_lt LINE_COUNT_LIMIT q) (Err (Because (Limited (limits.Lines LINE_COUNT_LIMIT))))
    (cond (nat_lt LINE_LIMIT (length line)) (Err (Because (RefusedLine q BAD_LINE 0)))
    (order_done digest q sat (order_of line)))

-- ---- what the lines come to

-- how it ends, and what the lines have come to that were done
pub record Course : Type 0 where
  pub end : WorkEnd
  pub sat : Sitting

-- a line is done, and the lines behind it go on; or it is the last one
abbrev pub goes_on : Sitting → Done → (Sitting → Course) → Course
goes_on sat (Ok next) rest = rest next
goes_on sat (Err halt) rest = record { end = Err halt; sat = sat }

-- the lines behind q, one after another, up to the first that is not done
unfoldable pub sitting : List ℕ → ℕ → Sitting → List (List ℕ) → Course
sitting digest q sat [] = record { end = Ok (done_with (lines_line q)); sat = sat }
sitting digest q sat (line ∷ lines) = goes_on sat (line_done digest (q + 1) sat line) (λ next. sitting digest (q + 1) next lines)
