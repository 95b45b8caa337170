use Rattle.std.proofs.Common.{ℕ, List, [], ◌∷◌, map, string_bytes}
use Rattle.guest_run.specs.Guest.{beginning}
use Rattle.tracer.specs.TracedRun.{entry_edge}
use Rattle.top_plan.specs.World.{world}
use Rattle.top_plan.specs.Plan.{Plan}
use Rattle.top_run.specs.TracePlan.{tour_plan, traced_part}
use Rattle.top_plan.specs.Texts.{end_of}
use Rattle.top_files.specs.declared.original.Subject.{Subject}
use Rattle.top_plan.proofs.Outcomes.{ends_on}
use Rattle.top_run.proofs.trace.trace_command.Goals as goal

-- what comes behind the original
abbrev behind : ℕ → List ℕ → List (List ℕ) → Subject → Plan
behind steps target args subject = tour_plan (traced_part target subject.digest) steps (beginning subject.exe args) (entry_edge subject.exe ∷ [])

pub returns-in_err-subject : goal.returns-in_err-subject
returns-in_err-subject g c =
    let s = world (g.F.Shelf.seen c.args.shelf.now) (g.I.Source.seen c.args.input.now) (g.O.Sink.seen c.args.out.now) (g.R.Sink.seen c.args.report.now) in
    ends_on _ s _ _ c.from_residual.result (c.in_err-subject.ensures.goes s (behind c.args.steps c.args.target.now (map string_bytes c.args.args.now))) c.from_residual.ensures.1

pub trace_guest-requires-clause-guest : goal.trace_guest-requires-clause-guest
trace_guest-requires-clause-guest g c = c.in_ok-subject.ensures.guest

pub returns-in_err-traced : goal.returns-in_err-traced
returns-in_err-traced g c =
    let s = world (g.F.Shelf.seen c.args.shelf.now) (g.I.Source.seen c.args.input.now) (g.O.Sink.seen c.args.out.now) (g.R.Sink.seen c.args.report.now) in
    let t = world (g.F.Shelf.seen c.fetch_subject.new.shelf) (g.I.Source.seen c.trace_guest.new.input) (g.O.Sink.seen c.trace_guest.new.out) (g.R.Sink.seen c.trace_guest.new.report) in
    ends_on _ s t _ c.from_residual-in_err-traced.result
    (c.in_ok-subject.ensures.goes s (behind c.args.steps c.args.target.now (map string_bytes c.args.args.now)) _ t
    (c.in_err-traced.ensures.goes (g.F.Shelf.seen c.fetch_subject.new.shelf) (traced_part c.args.target.now c.in_ok-subject.subject.digest)))
    c.from_residual-in_err-traced.ensures.1

pub returns : goal.returns
returns g c =
    let s = world (g.F.Shelf.seen c.args.shelf.now) (g.I.Source.seen c.args.input.now) (g.O.Sink.seen c.args.out.now) (g.R.Sink.seen c.args.report.now) in
    let t = world (g.F.Shelf.seen c.fetch_subject.new.shelf) (g.I.Source.seen c.trace_guest.new.input) (g.O.Sink.seen c.trace_guest.new.out) (g.R.Sink.seen c.trace_guest.new.report) in
    let u = world (g.F.Shelf.seen c.store_traced.new.shelf) (g.I.Source.seen c.trace_guest.new.input) (g.O.Sink.seen c.trace_guest.new.out) (g.R.Sink.seen c.trace_guest.new.report) in
    c.in_ok-subject.ensures.goes s (behind c.args.steps c.args.target.now (map string_bytes c.args.args.now)) (end_of c.store_traced.result) u
    (c.in_ok-traced.ensures.goes (g.F.Shelf.seen c.fetch_subject.new.shelf) (traced_part c.args.target.now c.in_ok-subject.subject.digest) (end_of c.store_traced.result) u
    (c.store_traced.ensures t))
