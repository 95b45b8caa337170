-- What runs over objects in memory, which never fail, have shown.
use Rattle.std.proofs.Common.{◌≡◌, ◌<◌, ◌≤◌, ◌+◌, ℕ, List, [], ◌++◌, Some, IsTrue, sym, ◌∙◌, ap, subst, lit≤, arith}
use Rattle.std.specs.Option.{option_map}
use Rattle.elf_read.specs.declared.exe.Exe.{Exe}
use Rattle.br_outside.specs.Outside.{StreamView}
use Rattle.br_outside.specs.Streams.{Streams, Fails, WasGiven}
use Rattle.br_outside.specs.Forms.{calm_written}
use Rattle.run_model.specs.Opening.{FitArguments, arguments, opening}
use Rattle.guest_sys.specs.Machine.{fed}
use Rattle.guest_run.specs.declared.stop.Stop.{Stop}
use Rattle.guest_run.specs.Guest.{GuestView, RunDone, beginning}
use Rattle.trace_file.specs.declared.limits.TheConstants.{FILE_EDGE_LIMIT}
use Rattle.tracer.specs.declared.answers.Traced.{Traced}
use Rattle.tracer.specs.TraceTold.{TraceDone, TraceFull}
use Rattle.top_demo.specs.declared.runs.Shown.{Shown}
use Rattle.top_demo.specs.DemoRuns.{written_by, taken_by, trace_by, HasRun}
use Rattle.top_demo.proofs.FewEdges.{edges_few}

-- no words fit
pub fit_none : FitArguments []
fit_none = record { count = lit≤ tt; bytes = lit≤ tt }

-- a calm object does not fail
pub never_fails : (old new : StreamView) → IsTrue old.calm → Fails old new → ⊥
never_fails old new calm f = f.uncalm calm

-- what a sink was given to which nothing was written before
given_all : (more written : List ℕ) (old new : StreamView) → old.bytes ≡ Some [] → new.bytes ≡ Some written → WasGiven more old new → written ≡ more
given_all more written old new was now gave =
    let e : Some written ≡ Some ([] ++ more) = sym now ∙ gave ∙ ap (option_map (λ w. w ++ more)) was in
    cc

-- ---- a traced run

pub has_traced : (exe : Exe) (n : ℕ) (left : List ℕ) (t : Traced) (before after : Streams) (shown : Shown) → left ≡ [] → before.out.bytes ≡ Some [] → after.out.bytes ≡ Some (calm_written shown.out) → shown.steps ≡ t.steps
    → TraceDone n exe (opening exe (arguments []) left) t before after → HasRun exe n shown
unfolding written_by taken_by
has_traced exe n left t before after shown none empty now steps done =
    let P : List ℕ → Type 0 = λ left. TraceDone n exe (opening exe (arguments []) left) t before after in
    let d = subst P none done in
    record { out = given_all _ _ before.out after.out empty now d.streams.out.bytes; steps = steps ∙ d.steps }

pub has_edges : (exe : Exe) (n : ℕ) (left : List ℕ) (t : Traced) (before after : Streams) → left ≡ [] → TraceDone n exe (opening exe (arguments []) left) t before after → t.edges ≡ trace_by exe n
unfolding trace_by
has_edges exe n left t before after none done =
    let P : List ℕ → Type 0 = λ left. TraceDone n exe (opening exe (arguments []) left) t before after in
    let d = subst P none done in
    d.edges

-- fewer steps than a trace may have edges
pub never_full : (exe : Exe) (n : ℕ) (left : List ℕ) (before after : Streams) → n < FILE_EDGE_LIMIT → TraceFull n exe (opening exe (arguments []) left) before after → ⊥
never_full exe n left before after few full =
    let most = edges_few exe (opening exe (arguments []) left) full.taken in
    omega (arith, few, full.most, full.passed, most)

-- ---- a run

none_before : (k : ℕ) → 0 + k ≡ k
none_before k = omega arith

pub has_run : (exe : Exe) (n : ℕ) (left : List ℕ) (stop : Stop) (g h : GuestView) (before after : Streams) (shown : Shown) → left ≡ [] → g ≡ beginning exe [] → before.out.bytes ≡ Some [] → after.out.bytes ≡ Some (calm_written shown.out)
    → shown.steps ≡ h.steps → RunDone stop n (fed left g.state) g h before after → HasRun exe n shown
unfolding written_by taken_by
has_run exe n left stop g h before after shown none begins empty now steps done =
    let P : List ℕ → Type 0 = λ left. RunDone stop n (fed left g.state) g h before after in
    let Q : GuestView → Type 0 = λ g. RunDone stop n (fed [] g.state) g h before after in
    let d : RunDone stop n (opening exe (arguments []) []) (beginning exe []) h before after = subst Q begins (subst P none done) in
    record { out = given_all _ _ before.out after.out empty now d.streams.out.bytes; steps = steps ∙ d.steps ∙ none_before _ }
