use Rattle.std.proofs.Common.{ℕ, ◌+◌, ◌≤◌, length, map, string_bytes, refl, arith}
use Rattle.std.proofs.lemmas.List.{length-map}
use Rattle.top_plan.specs.World.{world}
use Rattle.top_plan.specs.Texts.{end_of}
use Rattle.top_plan.specs.Happened.{Happened}
use Rattle.top_build.specs.BuildPlan.{build_plan}
use Rattle.top_run.specs.RunPlan.{run_plan}
use Rattle.top_run.specs.TracePlan.{trace_plan}
use Rattle.top_graph.specs.MergePlan.{merge_plan}
use Rattle.top_graph.specs.ShowPlan.{show_plan}
use Rattle.top_asm.specs.AsmPlan.{asm_plan}
use Rattle.top_demo.specs.DemoPlan.{demo_plan}
use Rattle.top_session.specs.SessionPlan.{session_plan}
use Rattle.binrec.specs.Words.{Fits}
use Rattle.binrec.proofs.TopClauses.{answers_as, fits_as}
use Rattle.binrec.proofs.top.answer.Goals as goal

pub build_command-requires : goal.build_command-requires
build_command-requires g c =
    let few : length (map string_bytes c.in-Build.traces.now) ≤ 4096 = fits_as _ _ c.in-Build.is c.requires.fitting in
    omega (arith, few, length-map c.in-Build.traces.now string_bytes)

pub merge_command-requires : goal.merge_command-requires
merge_command-requires g c =
    let few : length (map string_bytes c.in-Merge.traces.now) ≤ 4096 = fits_as _ _ c.in-Merge.is c.requires.fitting in
    omega (arith, few, length-map c.in-Merge.traces.now string_bytes)

pub show_command-requires : goal.show_command-requires
show_command-requires g c =
    let few : length (map string_bytes c.in-Show.traces.now) ≤ 4096 = fits_as _ _ c.in-Show.is c.requires.fitting in
    omega (arith, few, length-map c.in-Show.traces.now string_bytes)

pub run_command-end-requires-clause-fit : goal.run_command-end-requires-clause-fit
run_command-end-requires-clause-fit g c = let fits : Fits c.in-Run.steps (map string_bytes c.in-Run.args.now) = fits_as _ _ c.in-Run.is c.requires.fitting in fits.fit

pub run_command-end-requires-clause-few : goal.run_command-end-requires-clause-few
run_command-end-requires-clause-few g c = let fits : Fits c.in-Run.steps (map string_bytes c.in-Run.args.now) = fits_as _ _ c.in-Run.is c.requires.fitting in fits.few

pub trace_command-end-requires-clause-fit : goal.trace_command-end-requires-clause-fit
trace_command-end-requires-clause-fit g c = let fits : Fits c.in-Trace.steps (map string_bytes c.in-Trace.args.now) = fits_as _ _ c.in-Trace.is c.requires.fitting in fits.fit

pub trace_command-end-requires-clause-few : goal.trace_command-end-requires-clause-few
trace_command-end-requires-clause-few g c = let fits : Fits c.in-Trace.steps (map string_bytes c.in-Trace.args.now) = fits_as _ _ c.in-Trace.is c.requires.fitting in fits.few

pub demo_command-requires-clause-some : goal.demo_command-requires-clause-some
demo_command-requires-clause-some g c = let fits : (1 ≤ c.in-Demo.count) × (c.in-Demo.count ≤ 1000) = fits_as _ _ c.in-Demo.is c.requires.fitting in fits.0

pub demo_command-requires-clause-few : goal.demo_command-requires-clause-few
demo_command-requires-clause-few g c = let fits : (1 ≤ c.in-Demo.count) × (c.in-Demo.count ≤ 1000) = fits_as _ _ c.in-Demo.is c.requires.fitting in fits.1

pub returns-in-Build : goal.returns-in-Build
returns-in-Build g c =
    let s = world (g.F.Shelf.seen c.args.shelf.now) (g.I.Source.seen c.args.input.now) (g.O.Sink.seen c.args.out.now) (g.R.Sink.seen c.args.report.now) in
    let m = world (g.F.Shelf.seen c.build_command.new.shelf) (g.I.Source.seen c.args.input.now) (g.O.Sink.seen c.args.out.now) (g.R.Sink.seen c.args.report.now) in
    let t = world (g.F.Shelf.seen c.build_command.new.shelf) (g.I.Source.seen c.args.input.now) (g.O.Sink.seen c.args.out.now) (g.R.Sink.seen c.tell_end.new.report) in
    let h : Happened (build_plan c.in-Build.n.now c.in-Build.e.now (map string_bytes c.in-Build.traces.now)) s c.tell_end.result t = (end_of c.build_command.result, m, c.build_command.ensures s, (_, c.tell_end.ensures, refl)) in
    answers_as _ _ c.args.first s _ t c.in-Build.is h

pub returns-in-Merge : goal.returns-in-Merge
returns-in-Merge g c =
    let s = world (g.F.Shelf.seen c.args.shelf.now) (g.I.Source.seen c.args.input.now) (g.O.Sink.seen c.args.out.now) (g.R.Sink.seen c.args.report.now) in
    let m = world (g.F.Shelf.seen c.merge_command.new.shelf) (g.I.Source.seen c.args.input.now) (g.O.Sink.seen c.args.out.now) (g.R.Sink.seen c.args.report.now) in
    let t = world (g.F.Shelf.seen c.merge_command.new.shelf) (g.I.Source.seen c.args.input.now) (g.O.Sink.seen c.args.out.now) (g.R.Sink.seen c.tell_end-in-Merge.new.report) in
    let h : Happened (merge_plan c.in-Merge.t.now c.in-Merge.e.now (map string_bytes c.in-Merge.traces.now)) s c.tell_end-in-Merge.result t = (end_of c.merge_command.result, m, c.merge_command.ensures s, (_, c.tell_end-in-Merge.ensures, refl)) in
    answers_as _ _ c.args.first s _ t c.in-Merge.is h

pub returns-in-Show : goal.returns-in-Show
returns-in-Show g c =
    let s = world (g.F.Shelf.seen c.args.shelf.now) (g.I.Source.seen c.args.input.now) (g.O.Sink.seen c.args.out.now) (g.R.Sink.seen c.args.report.now) in
    let m = world (g.F.Shelf.seen c.show_command.new.shelf) (g.I.Source.seen c.args.input.now) (g.O.Sink.seen c.show_command.new.out) (g.R.Sink.seen c.args.report.now) in
    let t = world (g.F.Shelf.seen c.show_command.new.shelf) (g.I.Source.seen c.args.input.now) (g.O.Sink.seen c.show_command.new.out) (g.R.Sink.seen c.tell_end-in-Show.new.report) in
    let h : Happened (show_plan c.in-Show.e.now (map string_bytes c.in-Show.traces.now)) s c.tell_end-in-Show.result t = (end_of c.show_command.result, m, c.show_command.ensures (g.I.Source.seen c.args.input.now) (g.R.Sink.seen c.args.report.now), (_, c.tell_end-in-Show.ensures, refl)) in
    answers_as _ _ c.args.first s _ t c.in-Show.is h

pub returns-in-Run : goal.returns-in-Run
returns-in-Run g c =
    let s = world (g.F.Shelf.seen c.args.shelf.now) (g.I.Source.seen c.args.input.now) (g.O.Sink.seen c.args.out.now) (g.R.Sink.seen c.args.report.now) in
    let m = world (g.F.Shelf.seen c.run_command-end.new.shelf) (g.I.Source.seen c.run_command-end.new.input) (g.O.Sink.seen c.run_command-end.new.out) (g.R.Sink.seen c.run_command-end.new.report) in
    let t = world (g.F.Shelf.seen c.run_command-end.new.shelf) (g.I.Source.seen c.run_command-end.new.input) (g.O.Sink.seen c.run_command-end.new.out) (g.R.Sink.seen c.tell_end-in-Run.new.report) in
    let h : Happened (run_plan c.in-Run.steps c.in-Run.e.now (map string_bytes c.in-Run.args.now) c.args.first) s c.tell_end-in-Run.result t = (end_of c.run_command-end.result, m, c.run_command-end.ensures, (_, c.tell_end-in-Run.ensures, refl)) in
    answers_as _ _ c.args.first s _ t c.in-Run.is h

pub returns-in-Trace : goal.returns-in-Trace
returns-in-Trace g c =
    let s = world (g.F.Shelf.seen c.args.shelf.now) (g.I.Source.seen c.args.input.now) (g.O.Sink.seen c.args.out.now) (g.R.Sink.seen c.args.report.now) in
    let m = world (g.F.Shelf.seen c.trace_command-end.new.shelf) (g.I.Source.seen c.trace_command-end.new.input) (g.O.Sink.seen c.trace_command-end.new.out) (g.R.Sink.seen c.trace_command-end.new.report) in
    let t = world (g.F.Shelf.seen c.trace_command-end.new.shelf) (g.I.Source.seen c.trace_command-end.new.input) (g.O.Sink.seen c.trace_command-end.new.out) (g.R.Sink.seen c.tell_end-in-Trace.new.report) in
    let h : Happened (trace_plan c.in-Trace.steps c.in-Trace.t.now c.in-Trace.e.now (map string_bytes c.in-Trace.args.now) (c.args.first + 1)) s c.tell_end-in-Trace.result t = (end_of c.trace_command-end.result, m, c.trace_command-end.ensures, (_, c.tell_end-in-Trace.ensures, refl)) in
    answers_as _ _ c.args.first s _ t c.in-Trace.is h

pub returns-in-Demo : goal.returns-in-Demo
returns-in-Demo g c =
    let s = world (g.F.Shelf.seen c.args.shelf.now) (g.I.Source.seen c.args.input.now) (g.O.Sink.seen c.args.out.now) (g.R.Sink.seen c.args.report.now) in
    let m = world (g.F.Shelf.seen c.args.shelf.now) (g.I.Source.seen c.args.input.now) (g.O.Sink.seen c.demo_command.new.out) (g.R.Sink.seen c.args.report.now) in
    let t = world (g.F.Shelf.seen c.args.shelf.now) (g.I.Source.seen c.args.input.now) (g.O.Sink.seen c.demo_command.new.out) (g.R.Sink.seen c.tell_end-in-Demo.new.report) in
    let h : Happened (demo_plan c.in-Demo.count) s c.tell_end-in-Demo.result t = (end_of c.demo_command.result, m, c.demo_command.ensures s, (_, c.tell_end-in-Demo.ensures, refl)) in
    answers_as _ _ c.args.first s _ t c.in-Demo.is h

pub returns-in-Session : goal.returns-in-Session
returns-in-Session g c =
    let s = world (g.F.Shelf.seen c.args.shelf.now) (g.I.Source.seen c.args.input.now) (g.O.Sink.seen c.args.out.now) (g.R.Sink.seen c.args.report.now) in
    let m = world (g.F.Shelf.seen c.session_command-end.new.shelf) (g.I.Source.seen c.session_command-end.new.input) (g.O.Sink.seen c.session_command-end.new.out) (g.R.Sink.seen c.args.report.now) in
    let t = world (g.F.Shelf.seen c.session_command-end.new.shelf) (g.I.Source.seen c.session_command-end.new.input) (g.O.Sink.seen c.session_command-end.new.out) (g.R.Sink.seen c.tell_end-in-Session.new.report) in
    let h : Happened (session_plan c.in-Session.e.now) s c.tell_end-in-Session.result t = (end_of c.session_command-end.result, m, c.session_command-end.ensures s, (_, c.tell_end-in-Session.ensures, refl)) in
    answers_as _ _ c.args.first s _ t c.in-Session.is h

pub returns-in-Asm : goal.returns-in-Asm
returns-in-Asm g c =
    let s = world (g.F.Shelf.seen c.args.shelf.now) (g.I.Source.seen c.args.input.now) (g.O.Sink.seen c.args.out.now) (g.R.Sink.seen c.args.report.now) in
    let m = world (g.F.Shelf.seen c.asm_command.new.shelf) (g.I.Source.seen c.args.input.now) (g.O.Sink.seen c.args.out.now) (g.R.Sink.seen c.args.report.now) in
    let t = world (g.F.Shelf.seen c.asm_command.new.shelf) (g.I.Source.seen c.args.input.now) (g.O.Sink.seen c.args.out.now) (g.R.Sink.seen c.tell_end-in-Asm.new.report) in
    let h : Happened (asm_plan c.in-Asm.n.now c.in-Asm.text.now) s c.tell_end-in-Asm.result t = (end_of c.asm_command.result, m, c.asm_command.ensures s, (_, c.tell_end-in-Asm.ensures, refl)) in
    answers_as _ _ c.args.first s _ t c.in-Asm.is h
