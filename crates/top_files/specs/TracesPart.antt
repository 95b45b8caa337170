-- The traces of an original that are fetched, read and counted, as parts of plans.
use Rattle.std.specs.Prelude.{ℕ, ◌+◌, nat_le, cond, List, [], ◌∷◌, length, Result, Ok, Err}
use Rattle.trace_file.specs.declared.limits.TheConstants.{EDGE_LIMIT, FILE_EDGE_LIMIT}
use Rattle.top_files.specs.declared.traces.TheConstants.{TRACE_FILE_LIMIT}
use Rattle.trace_file.specs.Edges.{Edge}
use Rattle.trace_file.specs.Trace.{trace}
use Rattle.top_plan.specs.Plan.{Plan, Fetches}
use Rattle.top_plan.specs.Parts.{checked}
use Rattle.top_plan.specs.declared.ends.Cause.{Cause}
use Rattle.top_plan.specs.declared.ends.Cause.TheVariants.{RefusedWord, Limited}
use Rattle.trace_file.specs.Trace as trace_file
use Rattle.top_plan.specs.declared.ends.Limit.TheVariants as limits

-- the edges of a trace, or its refusal, with the position of its word
abbrev pub edges_of_word : ℕ → Result (List Edge) trace_file.Refused → Result (List Edge) Cause
edges_of_word word (Ok es) = Ok es
edges_of_word word (Err refused) = Err (RefusedWord word refused.number refused.place)

-- the edges of a trace, unless so many more than those before it are too many
abbrev pub counted : ℕ → Result (List Edge) Cause → Result (List Edge) Cause
counted before (Ok es) = cond (nat_le (before + length es) EDGE_LIMIT) (Ok es) (Err (Limited (limits.Edges EDGE_LIMIT)))
counted before (Err cause) = Err cause

-- a trace of the original with this digest is fetched, read and counted
abbrev pub trace_part : List ℕ → List ℕ → ℕ → ℕ → (List Edge → Plan) → Plan
trace_part digest name word before next =
    Fetches name TRACE_FILE_LIMIT (λ bytes. checked (counted before (edges_of_word word (trace bytes digest))) next)

-- the traces of names, one after another; their words begin at a position
unfoldable pub traces_part : List ℕ → List (List ℕ) → ℕ → ℕ → (List (List Edge) → Plan) → Plan
traces_part digest [] word before next = next []
traces_part digest (name ∷ names) word before next =
    trace_part digest name word before (λ es.
    traces_part digest names (word + 1) (before + length es) (λ rest. next (es ∷ rest)))

-- the union of traces, unless it is too large for one
abbrev pub limited : List Edge → Result (List Edge) Cause
limited es = cond (nat_le (length es) FILE_EDGE_LIMIT) (Ok es) (Err (Limited (limits.Union FILE_EDGE_LIMIT)))
