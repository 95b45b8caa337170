-- The edges of a run by that of its first step and those of the rest.
use Rattle.std.proofs.Common.{◌≡◌, ℕ, zero, suc, ◌+◌, ◌≤◌, Bool, true, false, if◌then◌else◌, List, [], ◌∷◌, ◌++◌, length, Option, Some, None, refl, sym, ◌∙◌, ap, arith}
use Rattle.br_word.specs.State.{State, RunState, Running, Exited, Faulted}
use Rattle.ia_inst.specs.System.{StepResult, On, Bad}
use Rattle.ia_inst.specs.Step.{Found, NoCode, NoInst, There, found, step_result, step}
use Rattle.guest_sys.specs.Machine.{fed, bare}
use Rattle.run_model.specs.Edges.{is_transfer, edge_by, edge_at, edge_of, edges_from}
use Rattle.guest_run.specs.Guest.{first_edge, while_running}
use Rattle.guest_run.specs.BoundedRun.{edge_list}
use Rattle.guest_run.proofs.EarlierBytes.{shown, shown_bare, step_shown, edge_shown}
use Rattle.guest_run.proofs.StoppedRuns.{run_none}
use Rattle.trace_file.specs.Edges as edges
use Rattle.trace_file.specs.Edges.{Edge, before, merge, with_edge, collected}
use Rattle.tracer.specs.TracedRun.{with_step}

-- ---- a step has at most one edge

by_one : (b : Bool) (w : StepResult) (site : ℕ) → edge_by b w site ≡ edge_list (first_edge (edge_by b w site))
by_one true (On t) site = refl
by_one true (Bad f) site = refl
by_one false w site = refl

at_one : (f : Found) (s : State) (c : ℕ) → edge_at f s c ≡ edge_list (first_edge (edge_at f s c))
at_one NoCode s c = refl
at_one NoInst s c = refl
at_one (There i n) s c = by_one (is_transfer i) (step_result s c) s.eip

of_one : (x : RunState) (s : State) (c : ℕ) → edge_of x s c ≡ edge_list (first_edge (edge_of x s c))
of_one Running s c = at_one (found s.eip s.regions) s c
of_one (Exited n) s c = refl
of_one (Faulted f) s c = refl

-- ---- what was written before changes no edge

first_shown : (x : RunState) (w e : List ℕ) (s : State)
    → while_running x (first_edge (edge_of x (shown w e s) 0)) None ≡ while_running x (first_edge (edge_of x s 0)) None
    → edge_of x (shown w e s) 0 ≡ edge_of x s 0
first_shown Running w e s h = of_one Running (shown w e s) 0 ∙ (ap edge_list h ∙ sym (of_one Running s 0))
first_shown (Exited n) w e s h = refl
first_shown (Faulted f) w e s h = refl

pub edges_shown : (n : ℕ) (w e : List ℕ) (s : State) → edges_from n (shown w e s) ≡ edges_from n s
edges_shown zero w e s = refl
edges_shown (suc n) w e s =
    ap (λ xs. xs ++ edges_from n (step (shown w e s) 0)) (first_shown s.stop w e s (edge_shown 1 w e s None))
    ∙ ap (λ ys. edge_of s.stop s 0 ++ ys) (ap (λ t. edges_from n t) (step_shown w e s 0) ∙ edges_shown n w e (step s 0))

-- ---- a guest that has stopped

of_none : (x : RunState) (s : State) (c : ℕ) → (x ≡ Running → ⊥) → edge_of x s c ≡ []
of_none Running s c h = absurd (h refl)
of_none (Exited n) s c h = refl
of_none (Faulted f) s c h = refl

pub edges_none : (n : ℕ) (s : State) → (s.stop ≡ Running → ⊥) → edges_from n s ≡ []
edges_none zero s h = refl
edges_none (suc n) s h = ap (λ xs. xs ++ edges_from n (step s 0)) (of_none s.stop s 0 h) ∙ (ap (λ t. edges_from n t) (run_none 1 s h) ∙ edges_none n s h)

-- ---- after a step

pub all_rest : (n : ℕ) (t : State) → edges_from n (fed t.input (bare t)) ≡ edges_from n t
all_rest n t = sym (edges_shown n t.out t.err (fed t.input (bare t))) ∙ ap (λ u. edges_from n u) (sym (shown_bare t))

-- ---- put in after others

pub collected_append : (xs ys es : List Edge) → collected (xs ++ ys) es ≡ collected ys (collected xs es)
collected_append [] ys es = refl
collected_append (x ∷ xs) ys es = collected_append xs ys (with_edge x es)

pub collected_one : (o : Option Edge) (es : List Edge) → collected (edge_list o) es ≡ with_step o es
collected_one None es = refl
collected_one (Some e) es = refl

pub collected_step : (x : RunState) (s : State) (c : ℕ) (es : List Edge) → collected (edge_of x s c) es ≡ with_step (first_edge (edge_of x s c)) es
collected_step x s c es = ap (λ xs. collected xs es) (of_one x s c) ∙ collected_one (first_edge (edge_of x s c)) es

-- the edges with those of n steps
abbrev pub edges_after : ℕ → State → List Edge → List Edge
edges_after n s es = collected (edges_from n s) es

pub after_none : (n : ℕ) (s : State) (es : List Edge) → (s.stop ≡ Running → ⊥) → edges_after n s es ≡ es
after_none n s es h = ap (λ xs. collected xs es) (edges_none n s h)

-- no edge is lost
edge_grows : (e : Edge) (es : List Edge) → length es ≤ length (edges.step e (merge []) es)
edge_grows e [] = omega arith
edge_grows e (b ∷ bs) = go (before e b) (before b e) (edge_grows e bs)
  where
    go : (p q : Bool) → length bs ≤ length (edges.step e (merge []) bs) → length (b ∷ bs) ≤ length (if p then (e ∷ b ∷ bs) else (if q then (b ∷ edges.step e (merge []) bs) else (e ∷ bs)))
    go true q h = omega arith
    go false true h = omega (arith, h)
    go false false h = omega arith

pub grows : (xs es : List Edge) → length es ≤ length (collected xs es)
grows [] es = omega arith
grows (x ∷ xs) es = omega (arith, edge_grows x es, grows xs (with_edge x es))
