-- The steps that a loop takes, with the edges that it records, and where it ends.
use Rattle.std.proofs.Common.{◌≡◌, ℕ, suc, ◌+◌, ◌<◌, ◌≤◌, true, false, List, [], ◌++◌, length, Option, Some, None, Result, Ok, Err, refl, sym, ◌∙◌, ap, subst, inl, inr, arith}
use Rattle.std.specs.Result.{IsErrAnd}
use Rattle.br_outside.specs.Streams.{Streams}
use Rattle.guest_sys.specs.declared.answers.SysError.{SysError}
use Rattle.guest_sys.specs.declared.answers.SysError.TheVariants as sys
use Rattle.guest_run.specs.declared.stop.Stop.{Stop}
use Rattle.guest_run.specs.Guest.{GuestView, StepCall, answer_of}
use Rattle.guest_run.specs.BoundedRun.{edge_list, TakesSteps}
use Rattle.trace_file.specs.Edges.{Edge, collected}
use Rattle.tracer.specs.declared.answers.Traced.{Traced}
use Rattle.tracer.specs.declared.answers.TracingError.{TracingError}
use Rattle.tracer.specs.declared.answers.TracingError.TheVariants as errors
use Rattle.trace_file.specs.declared.limits.TheConstants.{FILE_EDGE_LIMIT}
use Rattle.tracer.specs.Records.{Records}
use Rattle.tracer.specs.TracedRun.{with_step, traced, error_of, AreFew, TraceBreaks, TracedRun, Recorded, Follows}
use Rattle.tracer.proofs.MoreEdges.{collected_append, collected_one}

-- ---- a step that was done

pub done_live : (c : ℕ) (g h : GuestView) (a b : Streams) → StepCall (Ok true) c g h a b → h.live ≡ true
done_live c g h a b d = ap (λ (y : GuestView). y.live) d.gives.guest

pub done_steps : (c : ℕ) (g h : GuestView) (a b : Streams) → StepCall (Ok true) c g h a b → h.steps ≡ g.steps + 1
done_steps c g h a b d = ap (λ (y : GuestView). y.steps) d.gives.guest

-- ---- the steps so far

-- these steps were taken, and their edges are recorded
pub record AreTaken (n : ℕ) (g h : GuestView) (es hs : List Edge) (a b : Streams) : Type 0 where
  pub edges : List Edge
  pub steps : TakesSteps n g a edges h b
  pub recorded : hs ≡ collected edges es
  pub few : AreFew hs

pub taken_none : (g : GuestView) (es : List Edge) (a : Streams) → AreFew es → AreTaken 0 g g es es a a
unfolding TakesSteps
taken_none g es a few = record { edges = []; steps = (refl, refl, refl); recorded = refl; few = few }

one_more : (n : ℕ) (g k h : GuestView) (edges : List Edge) (a now b : Streams) → TakesSteps n g a edges k now → StepCall (Ok true) 0 k h now b
    → TakesSteps (suc n) g a (edges ++ edge_list h.edge) h b
unfolding TakesSteps
one_more n g k h edges a now b w d = record { first = edges; guest = k; now = now; before = w; step = d; whole = refl }

-- the edges with that of one more step
more_is : (o : Option Edge) (edges es : List Edge) → with_step o (collected edges es) ≡ collected (edges ++ edge_list o) es
more_is o edges es = sym (collected_append edges (edge_list o) es ∙ collected_one o (collected edges es))

pub taken_more : (m n : ℕ) (g k h : GuestView) (es hs is : List Edge) (a now b : Streams) → m ≡ suc n → AreTaken n g k es hs a now → StepCall (Ok true) 0 k h now b
    → is ≡ with_step h.edge hs → AreFew is → AreTaken m g h es is a b
taken_more m n g k h es hs is a now b more w d same few =
    let P : ℕ → Type 0 = λ m. AreTaken m g h es is a b in
    subst P (sym more) (record {
      edges = w.edges ++ edge_list h.edge;
      steps = one_more n g k h w.edges a now b w.steps d;
      recorded = same ∙ (ap (λ xs. with_step h.edge xs) w.recorded ∙ more_is h.edge w.edges es);
      few = few;
    })

-- ---- the edge of a step

-- the edge of a step, if it has one, was recorded
abbrev pub NextEdges : Option Edge → List Edge → List Edge → Type 0
NextEdges o es hs = (hs ≡ with_step o es) × AreFew hs

pub next_none : (o : Option Edge) (es hs : List Edge) → o ≡ None → hs ≡ es → AreFew es → NextEdges o es hs
next_none o es hs none same few = (same ∙ ap (λ o. with_step o es) (sym none), omega (arith, ap length same, few))

pub next_some : (o : Option Edge) (e : Edge) (es new hs : List Edge) → o ≡ Some e → hs ≡ new → Records (Ok tt) e es new → NextEdges o es hs
next_some o e es new hs some same is = (same ∙ (is.0 ∙ ap (λ o. with_step o es) (sym some)), omega (arith, ap length same, is.1))

-- ---- the end

-- the recorded edges are few, whatever they are called
few_as : (xs ys : List Edge) → xs ≡ ys → AreFew xs → AreFew ys
few_as xs ys e few = let P : List Edge → Type 0 = λ xs. AreFew xs in subst P e few

-- all steps were taken
pub all_taken : (m n : ℕ) (g h : GuestView) (es hs : List Edge) (a b : Streams) → m ≡ n → AreTaken m g h es hs a b → Recorded n g h es hs a b
all_taken m n g h es hs a b all w = record {
  run = record { taken = m; most = omega (arith, all); edges = w.edges; steps = w.steps; all = λ running. all; answer = refl };
  edges = w.recorded;
  few = w.few;
}

-- the guest has stopped
pub stopped_before : (m n : ℕ) (g k h : GuestView) (es hs : List Edge) (a now b : Streams) → m ≤ n → AreTaken m g k es hs a now → StepCall (Ok false) 0 k h now b → Recorded n g h es hs a b
stopped_before m n g k h es hs a now b most w d =
    let P : GuestView → Type 0 = λ h. Recorded n g h es hs a b in
    let Q : Streams → Type 0 = λ b. Recorded n g k es hs a b in
    subst P (sym d.gives.guest) (subst Q (sym d.gives.streams) (record {
      run = record { taken = m; most = most; edges = w.edges; steps = w.steps; all = λ running. absurd (d.gives.stopped running); answer = refl };
      edges = w.recorded;
      few = w.few;
    }))

by_error : (e : SysError) (n : ℕ) (g : GuestView) (es : List Edge) (a b : Streams) → TraceBreaks e n g es a b → TracedRun (Err (error_of e)) n g es a b
by_error sys.Input n g es a b w = w
by_error sys.Out n g es a b w = w
by_error sys.Report n g es a b w = w
by_error sys.Memory n g es a b w = inl w

-- the next step failed
pub step_fails : (e : SysError) (m n : ℕ) (g k h : GuestView) (es hs : List Edge) (a now b : Streams) → m < n → AreTaken m g k es hs a now → StepCall (Err e) 0 k h now b
    → TracedRun (Err (error_of e)) n g es a b
step_fails e m n g k h es hs a now b less w d = by_error e n g es a b (record {
  guest = h;
  run = record { taken = m; within = less; edges = w.edges; last = k; now = now; steps = w.steps; failed = d };
  few = few_as hs (collected w.edges es) w.recorded w.few;
})

-- the edge of the next step was not recorded
pub edge_fails : (x : TracingError) (e : Edge) (m n : ℕ) (g k h : GuestView) (es hs is : List Edge) (a now b : Streams) → m < n → AreTaken m g k es hs a now → StepCall (Ok true) 0 k h now b
    → h.edge ≡ Some e → Records (Err x) e hs is → TracedRun (Err x) n g es a b
edge_fails errors.Union e m n g k h es hs is a now b less w d some r =
    let P : Option Edge → Type 0 = λ o. FILE_EDGE_LIMIT < length (with_step o hs) in
    let Q : List Edge → Type 0 = λ hs. FILE_EDGE_LIMIT < length (with_step h.edge hs) in
    record {
      taken = m;
      within = less;
      edges = w.edges;
      last = k;
      now = now;
      steps = w.steps;
      few = few_as hs (collected w.edges es) w.recorded w.few;
      guest = h;
      step = d;
      passed = subst Q w.recorded (subst P (sym some) r.0);
    }
edge_fails errors.Memory e m n g k h es hs is a now b less w d some r =
    let P : Option Edge → Type 0 = λ o. AreFew (with_step o hs) in
    inr (record {
      taken = suc m;
      most = omega (arith, less);
      edges = w.edges ++ edge_list h.edge;
      guest = h;
      steps = one_more m g k h w.edges a now b w.steps d;
      few = few_as (with_step h.edge hs) (collected (w.edges ++ edge_list h.edge) es) (ap (λ xs. with_step h.edge xs) w.recorded ∙ more_is h.edge w.edges es) (subst P (sym some) r.0);
    })
edge_fails errors.Input e m n g k h es hs is a now b less w d some r = absurd r
edge_fails errors.Out e m n g k h es hs is a now b less w d some r = absurd r
edge_fails errors.Report e m n g k h es hs is a now b less w d some r = absurd r

-- ---- answers that are handed on

err_is : (r : Result (Unit {0}) TracingError) (e : TracingError) → IsErrAnd r (λ x. x ≡ e) → r ≡ Err e
err_is (Err x) e h = ap Err h
err_is (Ok x) e h = absurd h

pub follows_as : (r : Result (Unit {0}) TracingError) (e : TracingError) (n : ℕ) (g h : GuestView) (es hs : List Edge) (a b : Streams) → IsErrAnd r (λ x. x ≡ e)
    → TracedRun (Err e) n g es a b → Follows r n g h es hs a b
follows_as r e n g h es hs a b is w = let P : Result (Unit {0}) TracingError → Type 0 = λ r. Follows r n g h es hs a b in subst P (sym (err_is r e is)) w

traced_is : (r : Result Traced TracingError) (e : TracingError) → IsErrAnd r (λ x. x ≡ e) → r ≡ Err e
traced_is (Err x) e h = ap Err h
traced_is (Ok x) e h = absurd h

pub traced_as : (r : Result Traced TracingError) (e : TracingError) (n : ℕ) (g : GuestView) (es : List Edge) (a b : Streams) → IsErrAnd r (λ x. x ≡ e)
    → TracedRun (Err e) n g es a b → TracedRun r n g es a b
traced_as r e n g es a b is w = let P : Result Traced TracingError → Type 0 = λ r. TracedRun r n g es a b in subst P (sym (traced_is r e is)) w

-- memory was wanting for the edges of all steps
pub wants_after : (n : ℕ) (g h : GuestView) (es hs : List Edge) (a b : Streams) → Recorded n g h es hs a b → TracedRun (Err errors.Memory) n g es a b
wants_after n g h es hs a b w = inr (record {
  taken = w.run.taken;
  most = w.run.most;
  edges = w.run.edges;
  guest = h;
  steps = w.run.steps;
  few = few_as hs (collected w.run.edges es) w.edges w.few;
})

-- memory was wanting before the first step
pub wants_first : (n : ℕ) (g : GuestView) (es : List Edge) (a : Streams) → AreFew es → TracedRun (Err errors.Memory) n g es a a
unfolding TakesSteps
wants_first n g es a few = inr (record { taken = 0; most = omega arith; edges = []; guest = g; steps = (refl, refl, refl); few = few })

-- the trace of all steps
traced_after : (n : ℕ) (g h : GuestView) (es hs : List Edge) (a b : Streams) → Recorded n g h es hs a b → TracedRun (Ok (traced h hs)) n g es a b
traced_after n g h es hs a b w = record {
  guest = h;
  run = w.run;
  few = few_as hs (collected w.run.edges es) w.edges w.few;
  answer = ap (λ xs. traced h xs) w.edges;
}

-- the same by its parts
pub traced_by : (n : ℕ) (g h : GuestView) (es hs is : List Edge) (stop : Stop) (steps undefined : ℕ) (a b : Streams) → is ≡ hs → stop ≡ answer_of h.state.stop → steps ≡ h.steps
    → undefined ≡ h.undefined → Recorded n g h es hs a b → TracedRun (Ok (record { edges = is; stop = stop; steps = steps; undefined = undefined })) n g es a b
traced_by n g h es hs is stop steps undefined a b same stands taken read w =
    let f : List Edge → Stop → ℕ → ℕ → Traced = λ x y z u. record { edges = x; stop = y; steps = z; undefined = u } in
    let e : f is stop steps undefined ≡ traced h hs =
    ap (λ x. f x stop steps undefined) same ∙ (ap (λ y. f hs y steps undefined) stands
    ∙ (ap (λ z. f hs (answer_of h.state.stop) z undefined) taken ∙ ap (λ u. f hs (answer_of h.state.stop) h.steps u) read)) in
    let P : Traced → Type 0 = λ t. TracedRun (Ok t) n g es a b in
    subst P (sym e) (traced_after n g h es hs a b w)
