use Rattle.std.proofs.Common.{Ok, Err, refl, ap, [], ◌∷◌, map, string_bytes}
use Rattle.guest_run.specs.Guest.{beginning}
use Rattle.tracer.specs.TracedRun.{entry_edge}
use Rattle.top_run.proofs.TourRuns.{tours}
use Rattle.top_run.proofs.trace.trace_guest.Goals as goal

pub returns-in-Ok-clause-goes : goal.returns-in-Ok-clause-goes
returns-in-Ok-clause-goes g c v next o u went =
    tours next c.args.steps (beginning c.args.exe.now (map string_bytes c.args.args.now)) (entry_edge c.args.exe.now ∷ []) (Ok c.in-Ok.traced) v _ _ o u c.in-Ok.ensures.steps went

pub returns-in-Err-clause-goes : goal.returns-in-Err-clause-goes
returns-in-Err-clause-goes g c v next =
    tours next c.args.steps (beginning c.args.exe.now (map string_bytes c.args.args.now)) (entry_edge c.args.exe.now ∷ []) (Err c.in-Err.error) v _ _ _ _ c.in-Err.ensures.steps (ap Err c.halt_of_tracing.ensures, refl)
