-- The plan of `session`.
use Rattle.std.specs.Prelude.{ℕ, zero, suc, ◌+◌, nat_le, nat_lt, cond, List, length, Option, Some, None, Result, Ok, Err}
use Rattle.trace_file.specs.Edges.{Edge, pairs}
use Rattle.trace_file.specs.Trace.{trace}
use Rattle.trace_file.specs.Trace as trace_file
use Rattle.trace_file.specs.declared.limits.TheConstants.{EDGE_LIMIT}
use Rattle.trace_set.specs.declared.error.TheConstants.{TRACE_LIMIT}
use Rattle.trace_set.specs.Traces.{Traces, sets_of, is_live, with_trace, without_number}
use Rattle.session_core.specs.Session.{SessionView, new_session, traces_in, with_traces, live_edges, to_make, emitted_from}
use Rattle.line_reader.specs.Lines.{Next, Nothing, TooLong, Text}
use Rattle.script_text.specs.Lines.{Ordered, Nothings, Adds, Removes, Emits, order_of}
use Rattle.top_plan.specs.Plan.{Plan, Ends, Fetches, Script}
use Rattle.top_plan.specs.Parts.{checked, prints}
use Rattle.top_plan.specs.declared.ends.Cause.{Cause}
use Rattle.top_plan.specs.declared.ends.Cause.TheVariants.{RefusedLine, Limited}
use Rattle.top_plan.specs.declared.ends.Limit.TheVariants as limits
use Rattle.top_files.specs.declared.traces.TheConstants.{TRACE_FILE_LIMIT}
use Rattle.top_files.specs.OriginalPart.{subject_part}
use Rattle.top_build.specs.BuildPlan.{image_part}
use Rattle.top_session.specs.declared.limits.TheConstants.{LINE_LIMIT, LINE_COUNT_LIMIT, BAD_LINE, NOT_LIVE}
use Rattle.top_session.specs.Lines.{line_part, added_line, removed_line, emitted_line, lines_end}

-- ---- what a line asks, and then the lines behind it; q is its number

-- the edges of a trace, or its refusal
abbrev pub edges_of_line : ℕ → Result (List Edge) trace_file.Refused → Result (List Edge) Cause
edges_of_line q (Ok es) = Ok es
edges_of_line q (Err refused) = Err (RefusedLine q refused.number refused.place)

-- the live traces with one more, unless they are too many, or else their edges
abbrev pub added : Traces → List Edge → Result Traces Cause
added ts es =
    cond (nat_le TRACE_LIMIT (length ts.traces)) (Err (Limited (limits.Traces TRACE_LIMIT)))
    (cond (nat_lt EDGE_LIMIT (pairs (sets_of ts.traces) + length es)) (Err (Limited (limits.Edges EDGE_LIMIT)))
    (Ok (with_trace ts es)))

-- a trace of the original with this digest is fetched and read
abbrev pub trace_part : List ℕ → ℕ → List ℕ → (List Edge → Plan) → Plan
trace_part digest q name next = Fetches name TRACE_FILE_LIMIT (λ bytes. checked (edges_of_line q (trace bytes digest)) next)

-- and added
abbrev pub added_part : List ℕ → ℕ → SessionView → List ℕ → (SessionView → Plan) → Plan
added_part digest q s name next =
    trace_part digest q name (λ es. checked (added (traces_in s) es) (λ ts. prints (added_line s.next) (next (with_traces s ts))))

-- the live traces without one of them
abbrev pub removed : ℕ → ℕ → Traces → Result Traces Cause
removed q number ts =
    cond (is_live number ts.traces) (Ok (record { traces = without_number number ts.traces; next = ts.next }))
    (Err (RefusedLine q NOT_LIVE 0))

abbrev pub removed_part : ℕ → SessionView → ℕ → (SessionView → Plan) → Plan
removed_part q s number next = checked (removed q number (traces_in s)) (λ ts. prints (removed_line number) (next (with_traces s ts)))

-- the file of the live traces is stored
abbrev pub emitted_part : SessionView → List ℕ → (SessionView → Plan) → Plan
emitted_part s name next = image_part name s.exe (live_edges s) (λ b. prints (emitted_line b (to_make s)) (next (emitted_from s)))

-- by what the line asks
abbrev pub order_part : List ℕ → ℕ → SessionView → Option Ordered → (SessionView → Plan) → Plan
order_part digest q s None next = Ends (Err (RefusedLine q BAD_LINE 0))
order_part digest q s (Some Nothings) next = next s
order_part digest q s (Some (Adds name)) next = added_part digest q s name next
order_part digest q s (Some (Removes number)) next = removed_part q s number next
order_part digest q s (Some (Emits name)) next = emitted_part s name next

-- ---- the lines

-- behind q lines there is a further one, or none
abbrev pub line_step : List ℕ → ℕ → SessionView → (SessionView → Plan) → (ℕ → Plan) → Next → Plan
line_step digest q s next last Nothing = last q
line_step digest q s next last TooLong = Ends (Err (RefusedLine (q + 1) BAD_LINE 0))
line_step digest q s next last (Text line) = order_part digest (q + 1) s (order_of line) next

-- behind the last line that may be there
abbrev pub past_last : ℕ → (ℕ → Plan) → Next → Plan
past_last q last Nothing = last q
past_last q last TooLong = Ends (Err (Limited (limits.Lines LINE_COUNT_LIMIT)))
past_last q last (Text line) = Ends (Err (Limited (limits.Lines LINE_COUNT_LIMIT)))

-- the lines behind q, of which there may be so many; it goes on with the number of all
unfoldable pub lines_part : List ℕ → ℕ → ℕ → SessionView → (ℕ → Plan) → Plan
lines_part digest zero q s last = line_part 0 (past_last q last)
lines_part digest (suc n) q s last =
    line_part LINE_LIMIT (line_step digest q s (λ s. lines_part digest n (q + 1) s last) last)

-- an original is read, and then the lines of the script
abbrev pub session_plan : List ℕ → Plan
session_plan original =
    subject_part original 1 (λ subject. Script (lines_part subject.digest LINE_COUNT_LIMIT 0 (new_session subject.exe) lines_end))
