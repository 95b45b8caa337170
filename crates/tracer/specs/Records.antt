-- What the recorder answers.
use Rattle.std.specs.Prelude.{◌≡◌, ◌<◌, ◌≤◌, List, length, Result, Ok, Err}
use Rattle.trace_file.specs.Edges.{Edge, with_edge}
use Rattle.trace_file.specs.declared.limits.TheConstants.{FILE_EDGE_LIMIT}
use Rattle.tracer.specs.declared.answers.TracingError.{TracingError}
use Rattle.tracer.specs.declared.answers.TracingError.TheVariants as errors

-- The edge is recorded; or the edges with it pass the limit, or memory is wanting, and what is recorded stays.
abbrev pub Records : Result (Unit {0}) TracingError → Edge → List Edge → List Edge → Type 0
Records (Ok _) e old new = (new ≡ with_edge e old) × (length new ≤ FILE_EDGE_LIMIT)
Records (Err errors.Union) e old new = (FILE_EDGE_LIMIT < length (with_edge e old)) × (new ≡ old)
Records (Err errors.Memory) e old new = (length (with_edge e old) ≤ FILE_EDGE_LIMIT) × (new ≡ old)
Records (Err _) e old new = ⊥
