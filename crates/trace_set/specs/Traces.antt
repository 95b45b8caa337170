-- A set of numbered traces, and what may be asked of it.
use Rattle.std.specs.Prelude.{◌≡◌, ℕ, zero, suc, ◌+◌, ◌≤◌, ◌==◌, nat_le, nat_lt, Bool, true, false, ◌||◌, if◌then◌else◌, List, [], ◌∷◌, ◌++◌, length, slice_index_or, Option, None, Some, Result, Ok, Err}
use Rattle.trace_file.specs.Edges.{Edge, IsEdges, has, pairs}
use Rattle.trace_file.specs.declared.limits.TheConstants.{EDGE_LIMIT}
use Rattle.trace_set.specs.declared.error.TheConstants.{TRACE_LIMIT, ADDITION_LIMIT}
use Rattle.trace_set.specs.declared.error.SetError.{SetError}
use Rattle.trace_set.specs.declared.error.SetError.TheVariants as refusals
use Rattle.trace_set.specs.declared.error.Unknown.{Unknown}

-- the live traces by ascending number, each with its edges, and the number of the next one
pub record Traces : Type 0 where
  pub traces : List (ℕ × List Edge)
  pub next : ℕ

-- the edges of each trace
abbrev pub sets_of : List (ℕ × List Edge) → List (List Edge)
sets_of [] = []
sets_of (t ∷ ts) = t.1 ∷ sets_of ts

-- how many of the sets have the edge
abbrev pub count_of : Edge → List (List Edge) → ℕ
count_of e [] = 0
count_of e (es ∷ sets) = (if has e es then 1 else 0) + count_of e sets

-- whether the trace of the number is among them
abbrev pub is_live : ℕ → List (ℕ × List Edge) → Bool
is_live number [] = false
is_live number (t ∷ ts) = t.0 == number || is_live number ts

-- the edges of the trace of the number, and none where it is not among them
abbrev pub edges_of : ℕ → List (ℕ × List Edge) → List Edge
edges_of number [] = []
edges_of number (t ∷ ts) = if t.0 == number then t.1 else edges_of number ts

-- the traces without the one of the number
abbrev pub without_number : ℕ → List (ℕ × List Edge) → List (ℕ × List Edge)
without_number number [] = []
without_number number (t ∷ ts) = if t.0 == number then ts else (t ∷ without_number number ts)

-- why these edges are not added: the first cause that holds
abbrev pub refusal : Traces → List Edge → Option SetError
refusal s es =
    if nat_le TRACE_LIMIT (length s.traces) then Some refusals.Traces else
    (if nat_lt EDGE_LIMIT (pairs (sets_of s.traces) + length es) then Some refusals.Edges else
    (if nat_lt ADDITION_LIMIT s.next then Some refusals.Spent else None))

-- the set with one more trace, under the next number
abbrev pub with_trace : Traces → List Edge → Traces
with_trace s es = record { traces = s.traces ++ (s.next, es) ∷ []; next = s.next + 1 }

-- what an addition answers, and the set after it
abbrev pub Adds : Traces → List Edge → Result ℕ SetError → Traces → Type 0
Adds old es (Ok number) new = (refusal old es ≡ None) × (number ≡ old.next) × (new ≡ with_trace old es)
Adds old es (Err refusals.Memory) new = (refusal old es ≡ None) × (new ≡ old)
Adds old es (Err refusals.Traces) new = (refusal old es ≡ Some refusals.Traces) × (new ≡ old)
Adds old es (Err refusals.Edges) new = (refusal old es ≡ Some refusals.Edges) × (new ≡ old)
Adds old es (Err refusals.Spent) new = (refusal old es ≡ Some refusals.Spent) × (new ≡ old)

-- what a removal answers, and the set after it
abbrev pub Removes : {X : Type 0} → Traces → ℕ → Result X Unknown → Traces → Type 0
Removes old number (Ok _) new = (is_live number old.traces ≡ true) × (new ≡ record old { traces = without_number number old.traces })
Removes old number (Err _) new = (is_live number old.traces ≡ false) × (new ≡ old)

-- the traces from a row on: a flag says whether a row is a live trace, whose number is one above its place
abbrev pub live_from : ℕ → List Bool → List (List Edge) → List (ℕ × List Edge)
live_from i [] rows = []
live_from i (live ∷ flags) [] = []
live_from i (live ∷ flags) (es ∷ rows) =
    if live then ((i + 1, es) ∷ live_from (i + 1) flags rows) else live_from (i + 1) flags rows

-- what the rows and flags show
abbrev pub traces_in : List Bool → List (List Edge) → Traces
traces_in flags rows = record { traces = live_from 0 flags rows; next = length flags + 1 }

-- whether the flag of the trace of the number is set
abbrev pub flag_of : List Bool → ℕ → Bool
flag_of flags zero = false
flag_of flags (suc i) = slice_index_or flags i false

-- a row for each number that was given, and maybe one more; those of no live trace are empty
pub record IsHeld (flags : List Bool) (rows : List (List Edge)) (live count : ℕ) : Type 0 where
  pub enough : length flags ≤ length rows
  pub few_rows : length rows ≤ length flags + 1
  pub spent : length flags ≤ ADDITION_LIMIT
  pub empty : (i : ℕ) → slice_index_or flags i false ≡ false → slice_index_or rows i [] ≡ []
  pub ordered : (i : ℕ) → IsEdges (slice_index_or rows i [])
  pub counted : pairs rows ≡ count
  pub small : count ≤ EDGE_LIMIT
  pub living : length (live_from 0 flags rows) ≡ live
  pub few : live ≤ TRACE_LIMIT
