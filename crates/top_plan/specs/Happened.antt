-- A whole call: the work, and then the report line.
use Rattle.std.specs.Prelude.{◌≡◌, ℕ, List, Option, Some, None, Result, Ok, Err}
use Rattle.br_outside.specs.Outside.{StreamView, Gave}
use Rattle.br_outside.specs.declared.errors.SinkError.{SinkError}
use Rattle.br_outside.specs.declared.errors.SinkError.TheVariants as sink_errors
use Rattle.top_plan.specs.World.{World, on_report}
use Rattle.top_plan.specs.Plan.{Plan, Went}
use Rattle.top_plan.specs.Texts.{WorkEnd, end_line, end_status, usage_text}

-- the status of a call whose report line was given with this answer
abbrev pub status_after : ℕ → Result (Unit {0}) SinkError → ℕ
status_after status (Ok _) = status
status_after status (Err sink_errors.Failed) = 3
status_after status (Err sink_errors.Memory) = 4

-- The text is given, and decides the status where that fails.
abbrev pub Tells : List ℕ → ℕ → StreamView → ℕ → StreamView → Type 0
Tells text status old result new =
    (answer : Result (Unit {0}) SinkError) × Gave text answer old new × (result ≡ status_after status answer)

-- A line is told; where there is none, nothing is given.
abbrev pub TellsLine : Option (List ℕ) → ℕ → StreamView → ℕ → StreamView → Type 0
TellsLine (Some text) status old result new = Tells text status old result new
TellsLine None status old result new = (result ≡ status) × (new ≡ old)

-- the report is told the line, and nothing else is done
abbrev pub Reports : Option (List ℕ) → ℕ → World → ℕ → World → Type 0
Reports line status s result t = (v : StreamView) × TellsLine line status s.report result v × (t ≡ on_report s v)

-- the end is reported
abbrev pub Reported : WorkEnd → World → ℕ → World → Type 0
Reported end = Reports (end_line end) (end_status end)

-- The call did a run of the plan, and reported its end.
abbrev pub Happened : Plan → World → ℕ → World → Type 0
Happened plan s result t = (end : WorkEnd) × (m : World) × Went plan s end m × Reported end m result t

-- What words ask for: a plan; or they are no command, and then the position of the first that is wrong is reported.
abbrev pub Answered : Result Plan ℕ → World → ℕ → World → Type 0
Answered (Ok plan) s result t = Happened plan s result t
Answered (Err word) s result t = Reports (Some (usage_text word)) 1 s result t
