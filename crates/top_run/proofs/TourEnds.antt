-- What the turns of a traced guest come to is its run, up to the step in which its edges are too many.
use Rattle.std.proofs.Common.{◌≡◌, ◌<◌, ◌≤◌, ℕ, zero, suc, List, length, Err, sym, ◌∙◌, ap, arith}
use Rattle.trace_file.specs.declared.limits.TheConstants.{FILE_EDGE_LIMIT}
use Rattle.br_word.specs.State.{State, Running}
use Rattle.ia_inst.specs.Step.{step}
use Rattle.br_outside.specs.Files.{Files}
use Rattle.guest_sys.specs.Machine.{fed}
use Rattle.run_model.specs.Edges.{edge_of, edges_from}
use Rattle.guest_run.specs.Guest.{GuestView, answer_of}
use Rattle.trace_file.specs.Edges.{Edge, collected}
use Rattle.tracer.specs.declared.answers.Traced.{Traced}
use Rattle.tracer.specs.TracedRun.{with_step}
use Rattle.top_run.proofs.EdgesOfSteps.{all_rest, collected_append, collected_step, edges_after, after_none}
use Rattle.top_plan.specs.Plan.{Plan}
use Rattle.top_plan.specs.Expected.{ends_with, turned_before, expected}
use Rattle.top_run.specs.RunPlan.{next_guest, next_turn}
use Rattle.top_run.specs.TracePlan.{unless_full, tour_plan}
use Rattle.top_plan.specs.declared.ends.Halt.TheVariants.{Because}
use Rattle.top_plan.specs.declared.ends.Cause.TheVariants.{Limited}
use Rattle.top_plan.specs.declared.ends.Limit.TheVariants as limits
use Rattle.top_run.proofs.TourRuns.{runs, none_left, has_stopped, has_room, is_full}
use Rattle.top_run.proofs.GuestEnds.{Rest, ran_before, IsBare, bare_next, by_running, no_step, no_steps, turn_ran}

-- ---- the edges of a run

-- the edges that are recorded after a step
abbrev next_edges : GuestView → List ℕ → List Edge → List Edge
next_edges g left es = with_step (next_guest g left).edge es

-- the next guest, with what its step has left of the input
abbrev after_turn : GuestView → List ℕ → State
after_turn g left = fed (step (fed left g.state) 0).input (next_guest g left).state

-- the edges of a step are put in first
edges_step : (n : ℕ) (g : GuestView) (left : List ℕ) (es : List Edge) → edges_after n (after_turn g left) (next_edges g left es) ≡ edges_after (suc n) (fed left g.state) es
edges_step n g left es =
    let s = fed left g.state in
    let t = step s 0 in
    sym (collected_append (edge_of s.stop s 0) (edges_from n t) es ∙ (ap (collected (edges_from n t)) (collected_step s.stop s 0 es) ∙ ap (λ xs. collected xs (next_edges g left es)) (sym (all_rest n t))))

-- the edges are not too many before the k-th step
abbrev pub AreFew : ℕ → State → List Edge → Type 0
AreFew k s es = (j : ℕ) → j < k → length (edges_after j s es) ≤ FILE_EDGE_LIMIT

few_next : (k : ℕ) (g : GuestView) (left : List ℕ) (es : List Edge) → AreFew (suc k) (fed left g.state) es → AreFew k (after_turn g left) (next_edges g left es)
few_next k g left es few j less = let h = few (suc j) (omega (arith, less)) in omega (arith, h, ap length (edges_step j g left es))

-- ---- the plan

-- the edges are not too many
fits : (next : List Edge → Plan) (es : List Edge) (files : Files) (left : List ℕ) → length es ≤ FILE_EDGE_LIMIT → expected (unless_full next es) files left ≡ expected (next es) files left
fits next es files left few = ap (λ p. expected p files left) (has_room next es few)

-- a step of a guest that runs, and then the rest
turns : (last : Traced → Plan) (n : ℕ) (g : GuestView) (es : List Edge) (files : Files) (left : List ℕ) (rest : Rest) (k : ℕ) → length es ≤ FILE_EDGE_LIMIT → g.state.stop ≡ Running
    → expected (unless_full (tour_plan last n (next_guest g left)) (next_edges g left es)) files (step (fed left g.state) 0).input ≡ ran_before rest k (next_guest g left) (step (fed left g.state) 0).input
    → expected (unless_full (tour_plan last (suc n) g) es) files left ≡ ran_before rest (suc k) g left
unfolding expected
turns last n g es files left rest k few running ends =
    fits (tour_plan last (suc n) g) es files left few
    ∙ (ap (λ p. expected p files left) (runs last n g es running)
    ∙ (ap (turned_before (next_turn g left)) ends ∙ turn_ran rest k g left running))

-- ---- all steps are taken

-- what follows a run of these edges
abbrev pub last_rest : (Traced → Plan) → Files → List Edge → Rest
last_rest last files es stop left steps undefined = expected (last (record { edges = es; stop = answer_of stop; steps = steps; undefined = undefined })) files left

pub tour_ends : (last : Traced → Plan) (n : ℕ) (g : GuestView) (es : List Edge) (files : Files) (left : List ℕ) → IsBare g → AreFew (suc n) (fed left g.state) es
    → expected (unless_full (tour_plan last n g) es) files left ≡ ran_before (last_rest last files (edges_after n (fed left g.state) es)) n g left
tour_ends last zero g es files left b few =
    fits (tour_plan last 0 g) es files left (few 0 (omega arith)) ∙ (ap (λ p. expected p files left) (none_left last g es) ∙ no_step (last_rest last files es) g left b)
tour_ends last (suc n) g es files left b few = by_running _ g.state.stop
    (λ running. turns last n g es files left (last_rest last files (edges_after (suc n) (fed left g.state) es)) n (few 0 (omega arith)) running
    (tour_ends last n (next_guest g left) (next_edges g left es) files (step (fed left g.state) 0).input (bare_next g left) (few_next (suc n) g left es few)
    ∙ ap (λ es. ran_before (last_rest last files es) n (next_guest g left) (step (fed left g.state) 0).input) (edges_step n g left es)))
    (λ not. fits (tour_plan last (suc n) g) es files left (few 0 (omega arith))
    ∙ (ap (λ p. expected p files left) (has_stopped last (suc n) g es not)
    ∙ (ap (λ es. last_rest last files es g.state.stop left g.steps g.undefined) (sym (after_none (suc n) (fed left g.state) es not))
    ∙ no_steps (last_rest last files (edges_after (suc n) (fed left g.state) es)) (suc n) g left b not)))

-- ---- the edges are too many

abbrev pub full_rest : Files → Rest
full_rest files stop left steps undefined = ends_with (Err (Because (Limited (limits.Union 2000000)))) files left

pub tour_fills : (last : Traced → Plan) (k n : ℕ) (g : GuestView) (es : List Edge) (files : Files) (left : List ℕ) → IsBare g → k ≤ n → AreFew k (fed left g.state) es
    → FILE_EDGE_LIMIT < length (edges_after k (fed left g.state) es) → expected (unless_full (tour_plan last n g) es) files left ≡ ran_before (full_rest files) k g left
unfolding expected
tour_fills last zero n g es files left b most few full =
    ap (λ p. expected p files left) (is_full (tour_plan last n g) es full) ∙ no_step (full_rest files) g left b
tour_fills last (suc k) zero g es files left b most few full = absurd (omega (arith, most))
tour_fills last (suc k) (suc n) g es files left b most few full = by_running _ g.state.stop
    (λ running. turns last n g es files left (full_rest files) k (few 0 (omega arith)) running
    (tour_fills last k n (next_guest g left) (next_edges g left es) files (step (fed left g.state) 0).input (bare_next g left) (omega (arith, most)) (few_next k g left es few)
    (omega (arith, full, ap length (edges_step k g left es)))))
    (λ not. absurd (let h = few 0 (omega arith) in omega (arith, h, full, ap length (after_none (suc k) (fed left g.state) es not))))
