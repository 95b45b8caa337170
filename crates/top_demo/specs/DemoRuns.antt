-- What a run without words and input shows.
use Rattle.std.specs.Prelude.{◌≡◌, ℕ, List, [], ◌∷◌}
use Rattle.elf_read.specs.declared.exe.Exe.{Exe}
use Rattle.br_outside.specs.Forms.{calm_written}
use Rattle.run_model.specs.Opening.{arguments, opening}
use Rattle.run_model.specs.Run.{run, Observation, observed_of}
use Rattle.run_model.specs.Edges.{Edge, edges_from}
use Rattle.guest_run.specs.Guest.{steps_taken}
use Rattle.trace_file.specs.Edges.{in_order}
use Rattle.tracer.specs.TracedRun.{entry_edge}
use Rattle.top_demo.specs.declared.runs.Shown.{Shown}

-- what an executable has written to descriptor 1 in its first n steps
unfoldable pub written_by : Exe → ℕ → List ℕ
written_by exe n = (run n (opening exe (arguments []) []) []).out

-- how many of these steps it takes
unfoldable pub taken_by : Exe → ℕ → ℕ
taken_by exe n = steps_taken n (opening exe (arguments []) [])

-- their edges as a set: that the run began, and those of its transfers
unfoldable pub trace_by : Exe → ℕ → List Edge
trace_by exe n = in_order (entry_edge exe ∷ edges_from n (opening exe (arguments []) []))

-- what is observed of a file after them
unfoldable pub shown_by : List ℕ → ℕ → Observation
shown_by file n = observed_of file [] [] [] n

-- the run has shown this
pub record HasRun (exe : Exe) (n : ℕ) (shown : Shown) : Type 0 where
  pub out : calm_written shown.out ≡ written_by exe n
  pub steps : shown.steps ≡ taken_by exe n
