-- What the parts of a session owe.
use Rattle.std.specs.Prelude.{◌≡◌, ℕ, List, Result, Ok, Err}
use Rattle.trace_file.specs.Edges.{Edge}
use Rattle.code_layout.specs.declared.built.Built.{Built}
use Rattle.code_layout.specs.Image.{built_of}
use Rattle.session_core.specs.Session.{SessionView, traces_in, with_traces, live_edges, emitted_from}
use Rattle.br_outside.specs.Outside.{ShelfView, StreamView}
use Rattle.top_plan.specs.World.{World}
use Rattle.top_plan.specs.Parts.{ChecksErr}
use Rattle.top_plan.specs.declared.ends.Halt.{Halt}
use Rattle.top_build.specs.BuildPlan.{limited_built}
use Rattle.top_session.specs.SessionPlan.{added, removed}

-- the same world with another shelf and another output
abbrev pub on_two : World → ShelfView → StreamView → World
on_two w shelf out = record w { shelf = shelf; out = out }

-- with another input too
abbrev pub on_three : World → ShelfView → StreamView → StreamView → World
on_three w shelf input out = record w { shelf = shelf; input = input; out = out }

-- a trace with these edges is added, under the number that is answered
abbrev pub AddsTrace : SessionView → List Edge → Result ℕ Halt → SessionView → Type 0
AddsTrace old es (Ok number) new =
    (added (traces_in old) es ≡ Ok (traces_in new)) × (new ≡ with_traces old (traces_in new)) × (number ≡ old.next)
AddsTrace old es (Err halt) new = ChecksErr halt (added (traces_in old) es)

-- the trace of the number is taken away
abbrev pub RemovesTrace : ℕ → SessionView → ℕ → Result (Unit {0}) Halt → SessionView → Type 0
RemovesTrace q old number (Ok done) new = (removed q number (traces_in old) ≡ Ok (traces_in new)) × (new ≡ with_traces old (traces_in new))
RemovesTrace q old number (Err halt) new = ChecksErr halt (removed q number (traces_in old))

-- the file of the live traces is made
abbrev pub EmitsFile : SessionView → Result Built Halt → SessionView → Type 0
EmitsFile old (Ok built) new = (limited_built (built_of old.exe (live_edges old)) ≡ Ok built) × (new ≡ emitted_from old)
EmitsFile old (Err halt) new = ChecksErr halt (limited_built (built_of old.exe (live_edges old)))
