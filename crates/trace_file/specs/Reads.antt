-- What the reader answers.
use Rattle.std.specs.Prelude.{◌≡◌, ℕ, List, Option, Some, None, Result, Ok, Err}
use Rattle.trace_file.specs.declared.error.TraceError.{TraceError}
use Rattle.trace_file.specs.declared.error.TraceError.TheVariants as Answer
use Rattle.trace_file.specs.Edges.{Edge}
use Rattle.trace_file.specs.Trace.{Refused, stored_digest, trace}

-- the answer is what the definition says of the file; memory may be wanting for one that is accepted
abbrev pub ReadsTrace : List ℕ → List ℕ → Result (List Edge) TraceError → Type 0
ReadsTrace bytes digest (Ok es) = trace bytes digest ≡ Ok es
ReadsTrace bytes digest (Err (Answer.Refused number place)) =
    (trace bytes digest ≡ Err (record { number = number; place = place })) × (number ≡ 22 → ⊥)
ReadsTrace bytes digest (Err (Answer.Other found)) =
    (trace bytes digest ≡ Err (record { number = 22; place = 8 })) × (found ≡ stored_digest bytes) × (found ≡ digest → ⊥)
ReadsTrace bytes digest (Err Answer.Memory) = (es : List Edge) × (trace bytes digest ≡ Ok es)

-- an error is this refusal of the file
abbrev pub Blames : List ℕ → List ℕ → TraceError → Option Refused → Type 0
Blames bytes digest (Answer.Refused number place) refused =
    (refused ≡ Some (record { number = number; place = place })) × (number ≡ 22 → ⊥)
Blames bytes digest (Answer.Other found) refused =
    (refused ≡ Some (record { number = 22; place = 8 })) × (found ≡ stored_digest bytes) × (found ≡ digest → ⊥)
Blames bytes digest Answer.Memory refused = ⊥

-- a check went well, or answered this refusal
abbrev pub Says : {X : Type 0} → List ℕ → List ℕ → Result X TraceError → Option Refused → Type 0
Says bytes digest (Ok _) refused = refused ≡ None
Says bytes digest (Err e) refused = Blames bytes digest e refused
