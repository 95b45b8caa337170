-- A traced run as turns, its last line, and the plan of `trace`.
use Rattle.std.specs.Prelude.{ℕ, zero, suc, ◌++◌, List, length, nat_le, cond, codes, Some, Err, ◌+◌, [], ◌∷◌, Ok}
use Rattle.trace_file.specs.declared.limits.TheConstants.{FILE_EDGE_LIMIT}
use Rattle.std.specs.Fmt.{decimal}
use Rattle.br_word.specs.State.{RunState}
use Rattle.guest_run.specs.Guest.{GuestView, while_running, stop_of, beginning}
use Rattle.trace_file.specs.Edges.{Edge}
use Rattle.tracer.specs.declared.answers.Traced.{Traced}
use Rattle.tracer.specs.declared.answers.TracingError.{TracingError}
use Rattle.tracer.specs.TracedRun.{traced, with_step, entry_edge}
use Rattle.top_plan.specs.Texts.{Finished}
use Rattle.top_plan.specs.Plan.{Plan, Ends, Turns, Stores}
use Rattle.top_run.specs.RunPlan.{stand_text, counts_text, finish_of, next_guest, next_turn}
use Rattle.top_plan.specs.declared.ends.Cause.TheVariants.{Limited}
use Rattle.top_plan.specs.declared.ends.Halt.TheVariants.{Because, Outside, Memory}
use Rattle.trace_file.specs.Trace.{trace_bytes}
use Rattle.top_files.specs.OriginalPart.{subject_part}
use Rattle.top_plan.specs.declared.ends.Halt.{Halt}
use Rattle.tracer.specs.declared.answers.TracingError.TheVariants as errors
use Rattle.top_plan.specs.declared.ends.Limit.TheVariants as limits
use Rattle.top_plan.specs.declared.ends.Object.TheVariants as objects

-- the last line of `run`, with the number of edges that were recorded
abbrev pub traced_line : RunState → ℕ → ℕ → ℕ → List ℕ
traced_line stop steps undefined edges =
    stand_text stop ++ counts_text steps undefined (codes " edges " ++ (decimal edges ++ codes "\n"))

-- the end of the work of a traced run
abbrev pub traced_as : Traced → Finished
traced_as t = record {
  finish = finish_of (stop_of t.stop);
  line = Some (traced_line (stop_of t.stop) t.steps t.undefined (length t.edges));
}

-- the guest has these edges, unless they are too many
abbrev pub unless_full : (List Edge → Plan) → List Edge → Plan
unless_full next es = cond (nat_le (length es) FILE_EDGE_LIMIT) (next es) (Ends (Err (Limited (limits.Union FILE_EDGE_LIMIT))))

-- a guest that has recorded these edges takes at most n steps, as long as it runs
unfoldable pub tour_plan : (Traced → Plan) → ℕ → GuestView → List Edge → Plan
tour_plan last zero g es = last (traced g es)
tour_plan last (suc n) g es = while_running g.state.stop
    (Turns (next_turn g) (λ left. unless_full (tour_plan last n (next_guest g left)) (with_step (next_guest g left).edge es)))
    (last (traced g es))

-- how the work ends where a run was not traced to its end
abbrev pub halt_of_tracing : TracingError → Halt
halt_of_tracing errors.Input = Outside objects.Input
halt_of_tracing errors.Out = Outside objects.Output
halt_of_tracing errors.Report = Outside objects.Report
halt_of_tracing errors.Union = Because (Limited (limits.Union FILE_EDGE_LIMIT))
halt_of_tracing errors.Memory = Memory

-- a traced run is stored as a trace of the original with this digest
abbrev pub traced_part : List ℕ → List ℕ → Traced → Plan
traced_part target digest t = Stores target (trace_bytes t.edges digest) (Ends (Ok (traced_as t)))

-- an original is read, takes at most so many steps as a guest, and their edges are stored
abbrev pub trace_plan : ℕ → List ℕ → List ℕ → List (List ℕ) → ℕ → Plan
trace_plan steps target original args word = subject_part original word (λ subject.
    tour_plan (traced_part target subject.digest) steps (beginning subject.exe args) (entry_edge subject.exe ∷ []))
