-- A traced run is a run of its plan.
use Rattle.std.proofs.Common.{◌≡◌, ◌<◌, ◌≤◌, ◌+◌, ◌-◌, ℕ, zero, suc, true, cond, List, length, Result, Ok, Err, refl, sym, ◌∙◌, ap, subst, inl, inr, arith}
use Rattle.std.proofs.lemmas.Bool.{le-leb, lt-leb}
use Rattle.br_outside.specs.Outside.{ShelfView}
use Rattle.br_word.specs.State.{RunState, Running, Exited, Faulted}
use Rattle.br_outside.specs.Streams.{Streams}
use Rattle.guest_sys.specs.Machine.{fed}
use Rattle.guest_sys.specs.declared.answers.SysError.{SysError}
use Rattle.guest_sys.specs.declared.answers.SysError.TheVariants as sys
use Rattle.guest_run.specs.Guest.{GuestView, StepDone, StepCall, while_running}
use Rattle.trace_file.specs.Edges.{Edge, collected}
use Rattle.tracer.specs.declared.answers.Traced.{Traced}
use Rattle.tracer.specs.declared.answers.TracingError.{TracingError}
use Rattle.tracer.specs.declared.answers.TracingError.TheVariants as errors
use Rattle.tracer.specs.TracedRun.{traced, with_step, error_of, TraceStands, TracePasses, TraceBreaks, TraceWants, TracedRun}
use Rattle.guest_run.specs.BoundedRun.{edge_list, TakesSteps}
use Rattle.top_run.proofs.EdgesOfSteps.{collected_append, collected_one, grows}
use Rattle.trace_file.specs.declared.limits.TheConstants.{FILE_EDGE_LIMIT}
use Rattle.top_plan.specs.World.{World}
use Rattle.top_plan.specs.Texts.{WorkEnd}
use Rattle.top_plan.specs.Plan.{Plan, Ends, Turns, Went}
use Rattle.top_run.specs.RunPlan.{next_guest, next_turn, halt_of_error}
use Rattle.top_run.specs.TracePlan.{unless_full, tour_plan, halt_of_tracing}
use Rattle.top_plan.specs.declared.ends.Halt.{Halt}
use Rattle.top_plan.specs.declared.ends.Halt.TheVariants.{Because, Memory}
use Rattle.top_plan.specs.declared.ends.Cause.TheVariants.{Limited}
use Rattle.top_plan.specs.declared.ends.Limit.TheVariants as limits
use Rattle.top_plan.proofs.Passes.{runs_out, ended}
use Rattle.top_run.proofs.GuestRuns.{with_streams, stopped_plan, same_plan, turn_done, turn_fails, ran_when_failed}

-- ---- the plan by its first step

-- what comes after a step
abbrev after_step : (Traced → Plan) → ℕ → GuestView → List Edge → List ℕ → Plan
after_step last n g es left = unless_full (tour_plan last n (next_guest g left)) (with_step (next_guest g left).edge es)

pub runs : (last : Traced → Plan) (n : ℕ) (g : GuestView) (es : List Edge) → g.state.stop ≡ Running → tour_plan last (suc n) g es ≡ Turns (next_turn g) (after_step last n g es)
unfolding tour_plan
runs last n g es is = ap (λ s. while_running s (Turns (next_turn g) (after_step last n g es)) (last (traced g es))) is

pub none_left : (last : Traced → Plan) (g : GuestView) (es : List Edge) → tour_plan last 0 g es ≡ last (traced g es)
unfolding tour_plan
none_left last g es = refl

pub has_stopped : (last : Traced → Plan) (n : ℕ) (g : GuestView) (es : List Edge) → (g.state.stop ≡ Running → ⊥) → tour_plan last n g es ≡ last (traced g es)
unfolding tour_plan
has_stopped last zero g es not = refl
has_stopped last (suc n) g es not = stopped_plan g.state.stop _ _ not

pub has_room : (next : List Edge → Plan) (es : List Edge) → length es ≤ FILE_EDGE_LIMIT → unless_full next es ≡ next es
has_room next es few = ap (λ b. cond b (next es) (Ends (Err (Limited (limits.Union FILE_EDGE_LIMIT))))) (le-leb (length es) FILE_EDGE_LIMIT few)

pub is_full : (next : List Edge → Plan) (es : List Edge) → FILE_EDGE_LIMIT < length es → unless_full next es ≡ Ends (Err (Limited (limits.Union FILE_EDGE_LIMIT)))
is_full next es many = ap (λ b. cond b (next es) (Ends (Err (Limited (limits.Union FILE_EDGE_LIMIT))))) (lt-leb (length es) FILE_EDGE_LIMIT many)

-- ---- what follows a tour

-- the run goes on with the trace, or ends with the error
abbrev pub Follows : (Traced → Plan) → Result Traced TracingError → World → WorkEnd → World → Type 0
Follows last (Ok t) s o u = Went (last t) s o u
Follows last (Err e) s o u = (o ≡ Err (halt_of_tracing e)) × (u ≡ s)

-- the run has ended with this stop
ends_so : (p : Plan) (s t : World) (stop : Halt) (o : WorkEnd) (u : World) → (o ≡ Err stop) × (u ≡ t) → Went p s (Err stop) t → Went p s o u
ends_so p s t stop o u is went =
    let P : WorkEnd → Type 0 = λ o. Went p s o u in
    let Q : World → Type 0 = λ u. Went p s (Err stop) u in
    subst P (sym is.0) (subst Q (sym is.1) went)

same_error : (e : SysError) → halt_of_tracing (error_of e) ≡ halt_of_error e
same_error sys.Input = refl
same_error sys.Out = refl
same_error sys.Report = refl
same_error sys.Memory = refl

-- a step failed
failed : (last : Traced → Plan) (n : ℕ) (g h : GuestView) (es : List Edge) (e : SysError) (v : ShelfView) (before after : Streams) → StepCall (Err e) 0 g h before after
    → Went (tour_plan last (suc n) g es) (with_streams v before) (Err (halt_of_error e)) (with_streams v after)
failed last n g h es e v before after a =
    same_plan _ _ _ _ _ (runs last n g es (ran_when_failed g h before after e a)) (turn_fails (after_step last n g es) g h v before after e a)

-- a step was taken, after which the plan goes on
stepped_on : (last : Traced → Plan) (n : ℕ) (g h : GuestView) (es : List Edge) (v : ShelfView) (before after : Streams) (o : WorkEnd) (u : World) → StepCall (Ok true) 0 g h before after
    → Went (unless_full (tour_plan last n h) (with_step h.edge es)) (with_streams v after) o u → Went (tour_plan last (suc n) g es) (with_streams v before) o u
stepped_on last n g h es v before after o u a went =
    let d : StepDone (fed a.left g.state) 0 g h before after = a.gives in
    let P : GuestView → Type 0 = λ h. Went (unless_full (tour_plan last n h) (with_step h.edge es)) (with_streams v after) o u in
    same_plan _ _ _ o u (runs last n g es d.running) (turn_done (after_step last n g es) g h v before after o u a (subst P d.guest went))

-- ---- the steps of a traced run

-- what follows k of n steps follows a run of the plan
taken_on : (last : Traced → Plan) (k m n : ℕ) (g h : GuestView) (es edges : List Edge) (v : ShelfView) (before after : Streams) (o : WorkEnd) (u : World) → n ≡ k + m → TakesSteps k g before edges h after
    → length (collected edges es) ≤ FILE_EDGE_LIMIT → Went (tour_plan last m h (collected edges es)) (with_streams v after) o u → Went (tour_plan last n g es) (with_streams v before) o u
unfolding TakesSteps
taken_on last zero m n g h es edges v before after o u all w few went =
    let same : n ≡ m = omega (arith, all) in
    let P : List Edge → Type 0 = λ xs. Went (tour_plan last m h (collected xs es)) (with_streams v after) o u in
    let Q : GuestView → Type 0 = λ h. Went (tour_plan last m h es) (with_streams v after) o u in
    let R : Streams → Type 0 = λ z. Went (tour_plan last m g es) (with_streams v z) o u in
    let S : ℕ → Type 0 = λ n. Went (tour_plan last n g es) (with_streams v before) o u in
    subst S (sym same) (subst R w.2 (subst Q w.1 (subst P w.0 went)))
taken_on last (suc k) m n g h es edges v before after o u all w few went =
    let first = collected w.first es in
    let same : collected edges es ≡ with_step h.edge first =
    ap (λ xs. collected xs es) w.whole ∙ (collected_append w.first (edge_list h.edge) es ∙ collected_one h.edge first) in
    let fit : length (with_step h.edge first) ≤ FILE_EDGE_LIMIT = omega (arith, few, ap length same) in
    let before_fit : length first ≤ FILE_EDGE_LIMIT = omega (arith, fit, grows (edge_list h.edge) first, ap length (collected_one h.edge first)) in
    let P : List Edge → Type 0 = λ xs. Went (tour_plan last m h xs) (with_streams v after) o u in
    taken_on last k (suc m) n g w.guest es w.first v before w.now o u (omega (arith, all)) w.before before_fit
    (stepped_on last m w.guest h first v w.now after o u w.step (same_plan _ _ _ o u (has_room (tour_plan last m h) (with_step h.edge first) fit) (subst P same went)))

-- ---- each answer

-- a guest that has taken all steps, or has stopped, is asked for no more
stands_last : (last : Traced → Plan) (n : ℕ) (h : GuestView) (es : List Edge) (s : World) (o : WorkEnd) (u : World) → (h.state.stop ≡ Running → n ≡ 0) → Went (last (traced h es)) s o u → Went (tour_plan last n h es) s o u
stands_last last n h es s o u all went = go h.state.stop refl
  where
    stopped : (h.state.stop ≡ Running → ⊥) → Went (tour_plan last n h es) s o u
    stopped not = same_plan _ _ s o u (has_stopped last n h es not) went

    go : (x : RunState) → h.state.stop ≡ x → Went (tour_plan last n h es) s o u
    go Running q =
        let P : ℕ → Type 0 = λ n. Went (tour_plan last n h es) s o u in
        subst P (sym (all q)) (same_plan _ _ s o u (none_left last h es) went)
    go (Exited k) q = stopped (λ r. let z = sym q ∙ r in cc)
    go (Faulted f) q = stopped (λ r. let z = sym q ∙ r in cc)

stood : (last : Traced → Plan) (t : Traced) (n : ℕ) (g : GuestView) (es : List Edge) (v : ShelfView) (before after : Streams) (o : WorkEnd) (u : World) → TraceStands t n g es before after
    → Went (last t) (with_streams v after) o u → Went (tour_plan last n g es) (with_streams v before) o u
stood last t n g es v before after o u w went =
    let P : Traced → Type 0 = λ t. Went (last t) (with_streams v after) o u in
    taken_on last w.run.taken (n - w.run.taken) n g w.guest es w.run.edges v before after o u (omega (arith, w.run.most)) w.run.steps w.few
    (stands_last last (n - w.run.taken) w.guest (collected w.run.edges es) _ o u (λ running. let e = w.run.all running in omega (arith, e)) (subst P w.answer went))

passed : (last : Traced → Plan) (n : ℕ) (g : GuestView) (es : List Edge) (v : ShelfView) (before after : Streams) → TracePasses n g es before after
    → Went (tour_plan last n g es) (with_streams v before) (Err (Because (Limited (limits.Union FILE_EDGE_LIMIT)))) (with_streams v after)
passed last n g es v before after w =
    let full = with_step w.guest.edge (collected w.edges es) in
    let rest = n - suc w.taken in
    taken_on last w.taken (suc rest) n g w.last es w.edges v before w.now _ _ (omega (arith, w.within)) w.steps w.few
    (stepped_on last rest w.last w.guest (collected w.edges es) v w.now after _ _ w.step
    (same_plan _ _ _ _ _ (is_full (tour_plan last rest w.guest) full w.passed) (ended (Err (Limited (limits.Union FILE_EDGE_LIMIT))) _)))

broke : (last : Traced → Plan) (e : SysError) (n : ℕ) (g : GuestView) (es : List Edge) (v : ShelfView) (before after : Streams) → TraceBreaks e n g es before after
    → Went (tour_plan last n g es) (with_streams v before) (Err (halt_of_tracing (error_of e))) (with_streams v after)
broke last e n g es v before after w =
    let r = w.run in
    let P : Halt → Type 0 = λ stop. Went (tour_plan last n g es) (with_streams v before) (Err stop) (with_streams v after) in
    let rest = n - suc r.taken in
    subst P (sym (same_error e)) (taken_on last r.taken (suc rest) n g r.last es r.edges v before r.now _ _ (omega (arith, r.within)) r.steps w.few
    (failed last rest r.last w.guest (collected r.edges es) e v r.now after r.failed))

wanted : (last : Traced → Plan) (n : ℕ) (g : GuestView) (es : List Edge) (v : ShelfView) (before after : Streams) → TraceWants n g es before after
    → Went (tour_plan last n g es) (with_streams v before) (Err Memory) (with_streams v after)
wanted last n g es v before after w = taken_on last w.taken (n - w.taken) n g w.guest es w.edges v before after _ _ (omega (arith, w.most)) w.steps w.few (runs_out _ _)

-- the plan of a traced run comes to this without a trace
gives_up : (last : Traced → Plan) (e : TracingError) (n : ℕ) (g : GuestView) (es : List Edge) (v : ShelfView) (before after : Streams) → TracedRun (Err e) n g es before after
    → Went (tour_plan last n g es) (with_streams v before) (Err (halt_of_tracing e)) (with_streams v after)
gives_up last errors.Union n g es v before after w = passed last n g es v before after w
gives_up last errors.Input n g es v before after w = broke last sys.Input n g es v before after w
gives_up last errors.Out n g es v before after w = broke last sys.Out n g es v before after w
gives_up last errors.Report n g es v before after w = broke last sys.Report n g es v before after w
gives_up last errors.Memory n g es v before after (inl w) = broke last sys.Memory n g es v before after w
gives_up last errors.Memory n g es v before after (inr w) = wanted last n g es v before after w

-- what follows a traced run follows a run of its plan
pub tours : (last : Traced → Plan) (n : ℕ) (g : GuestView) (es : List Edge) (r : Result Traced TracingError) (v : ShelfView) (before after : Streams) (o : WorkEnd) (u : World) → TracedRun r n g es before after
    → Follows last r (with_streams v after) o u → Went (tour_plan last n g es) (with_streams v before) o u
tours last n g es (Ok t) v before after o u w f = stood last t n g es v before after o u w f
tours last n g es (Err e) v before after o u w f = ends_so _ _ (with_streams v after) (halt_of_tracing e) o u f (gives_up last e n g es v before after w)
