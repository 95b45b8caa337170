-- What the turns of a guest come to is its run.
use Rattle.std.proofs.Common.{◌≡◌, ℕ, zero, suc, ◌+◌, List, [], ◌++◌, Ok, refl, sym, ◌∙◌, ap, append_assoc, arith}
use Rattle.br_word.specs.Words.{bit}
use Rattle.br_word.specs.State.{State, RunState, Running, Exited, Faulted}
use Rattle.ia_inst.specs.Step.{step}
use Rattle.br_outside.specs.Files.{Files}
use Rattle.guest_sys.specs.Calls.{spare}
use Rattle.guest_sys.specs.Machine.{fed, bare}
use Rattle.run_model.specs.Run.{run}
use Rattle.guest_run.specs.Guest.{GuestView, while_running, steps_taken, undefined_taken, reads_undefined, ahead, asks_next}
use Rattle.guest_run.proofs.StoppedRuns.{running_some, run_none, steps_none, undefined_none, steps_first, undefined_first}
use Rattle.guest_run.proofs.EarlierBytes.{shown, run_shown, steps_shown, undefined_shown, ahead_shown, shown_bare}
use Rattle.top_plan.specs.Expected.{Ending, ends_with, turned_before, expected}
use Rattle.top_run.specs.RunPlan.{guest_plan, next_guest, next_turn, finished}
use Rattle.top_run.proofs.GuestRuns.{has_stopped, runs, none_left}

-- what the steps up to a state have shown, and then the rest; of the input some bytes more may be taken
abbrev pub shown_before : State → ℕ → Ending → Ending
shown_before u more e = record e { spare = more + e.spare; printed = u.out ++ e.printed; reported = u.err ++ e.reported }

-- what the rest comes to, by how the guest stands then, the input left, and the guest's counts
abbrev pub Rest : Type 0
Rest = RunState → List ℕ → ℕ → ℕ → Ending

-- at most n steps of a guest with this input left, and then the rest
abbrev pub ran_before : Rest → ℕ → GuestView → List ℕ → Ending
ran_before rest n g left = shown_before (run n (fed left g.state) []) (while_running g.state.stop (ahead (run n (fed left g.state) [])) 0)
    (rest (run n (fed left g.state) []).stop (run n (fed left g.state) []).input (g.steps + steps_taken n (fed left g.state)) (g.undefined + undefined_taken n (fed left g.state)))

-- nothing is written yet
pub record IsBare (g : GuestView) : Type 0 where
  pub out : g.state.out ≡ []
  pub err : g.state.err ≡ []

pub bare_next : (g : GuestView) (left : List ℕ) → IsBare (next_guest g left)
bare_next g left = record { out = refl; err = refl }

-- a guest runs or not
pub by_running : (P : Type 0) (x : RunState) → (x ≡ Running → P) → ((x ≡ Running → ⊥) → P) → P
by_running P Running go stay = go refl
by_running P (Exited n) go stay = stay (λ r. (let z : Exited n ≡ Running = r in cc))
by_running P (Faulted f) go stay = stay (λ r. (let z : Faulted f ≡ Running = r in cc))

rest_as : (rest : Rest) (a b : RunState) (i j : List ℕ) (m m' u u' : ℕ) → a ≡ b → i ≡ j → m ≡ m' → u ≡ u' → rest a i m u ≡ rest b j m' u'
rest_as rest a b i j m m' u u' e l f g = ap (λ a. rest a i m u) e ∙ (ap (λ i. rest b i m u) l ∙ (ap (λ m. rest b j m u) f ∙ ap (λ u. rest b j m' u) g))

-- ---- a guest that takes no step

-- nothing was shown
unshown : (u : State) (more : ℕ) (e : Ending) → more ≡ 0 → u.out ≡ [] → u.err ≡ [] → e ≡ shown_before u more e
unshown u more e none out err =
    let k : e.spare ≡ more + e.spare = omega (arith, none) in
    ap (λ k. record e { spare = k }) k
    ∙ (ap (λ o. record e { spare = more + e.spare; printed = o ++ e.printed }) (sym out)
    ∙ ap (λ r. record e { spare = more + e.spare; printed = u.out ++ e.printed; reported = r ++ e.reported }) (sym err))

-- n steps that are none
record IsStill (n : ℕ) (g : GuestView) (left : List ℕ) : Type 0 where
  state : run n (fed left g.state) [] ≡ fed left g.state
  steps : steps_taken n (fed left g.state) ≡ 0
  undefined : undefined_taken n (fed left g.state) ≡ 0
  more : while_running g.state.stop (ahead (run n (fed left g.state) [])) 0 ≡ 0

still : (rest : Rest) (n : ℕ) (g : GuestView) (left : List ℕ) → IsBare g → IsStill n g left → rest g.state.stop left g.steps g.undefined ≡ ran_before rest n g left
still rest n g left b h =
    let u = run n (fed left g.state) [] in
    rest_as rest _ _ _ _ _ _ _ _ (sym (ap (λ t. t.stop) h.state)) (sym (ap (λ t. t.input) h.state)) (let k = h.steps in omega (arith, k)) (let k = h.undefined in omega (arith, k))
    ∙ unshown u _ _ h.more (ap (λ t. t.out) h.state ∙ b.out) (ap (λ t. t.err) h.state ∙ b.err)

none_spare : (x : RunState) (k : ℕ) → while_running x (spare x k) 0 ≡ 0
none_spare Running k = refl
none_spare (Exited n) k = refl
none_spare (Faulted f) k = refl

pub no_step : (rest : Rest) (g : GuestView) (left : List ℕ) → IsBare g → rest g.state.stop left g.steps g.undefined ≡ ran_before rest 0 g left
no_step rest g left b = still rest 0 g left b (record { state = refl; steps = refl; undefined = refl; more = none_spare g.state.stop (asks_next (fed left g.state)) })

none_more : (x : RunState) (k : ℕ) → (x ≡ Running → ⊥) → while_running x k 0 ≡ 0
none_more Running k not = absurd (not refl)
none_more (Exited n) k not = refl
none_more (Faulted f) k not = refl

pub no_steps : (rest : Rest) (n : ℕ) (g : GuestView) (left : List ℕ) → IsBare g → (g.state.stop ≡ Running → ⊥) → rest g.state.stop left g.steps g.undefined ≡ ran_before rest n g left
no_steps rest n g left b not =
    let s = fed left g.state in
    still rest n g left b (record { state = run_none n s not; steps = steps_none n s not; undefined = undefined_none n s not; more = none_more g.state.stop (ahead (run n s [])) not })

-- ---- a guest that runs

spares_on : (t u : State) (n : ℕ) → u ≡ run n t [] → ahead t + while_running t.stop (ahead u) 0 ≡ ahead u
spares_on t u n is = by_running _ t.stop
    (λ running.
    let none : ahead t ≡ 0 = ap (λ x. spare x (asks_next t)) running in
    omega (arith, none, running_some t.stop (ahead u) 0 running))
    (λ not. omega (arith, none_more t.stop (ahead u) not, ap ahead (is ∙ run_none n t not)))

-- what two parts of a run have shown
shown_twice : (t v u : State) (d k more : ℕ) (e : Ending) → d + k ≡ more → t.out ++ v.out ≡ u.out → t.err ++ v.err ≡ u.err
    → record e { spare = d + (k + e.spare); printed = t.out ++ (v.out ++ e.printed); reported = t.err ++ (v.err ++ e.reported) } ≡ shown_before u more e
shown_twice t v u d k more e spare out err =
    let s : d + (k + e.spare) ≡ more + e.spare = omega (arith, spare) in
    let o : t.out ++ (v.out ++ e.printed) ≡ u.out ++ e.printed = sym (append_assoc t.out v.out e.printed) ∙ ap (λ x. x ++ e.printed) out in
    let r : t.err ++ (v.err ++ e.reported) ≡ u.err ++ e.reported = sym (append_assoc t.err v.err e.reported) ∙ ap (λ x. x ++ e.reported) err in
    ap (λ k. record e { spare = k; printed = t.out ++ (v.out ++ e.printed); reported = t.err ++ (v.err ++ e.reported) }) s
    ∙ (ap (λ o. record e { spare = more + e.spare; printed = o; reported = t.err ++ (v.err ++ e.reported) }) o
    ∙ ap (λ r. record e { spare = more + e.spare; printed = u.out ++ e.printed; reported = r }) r)

-- A turn, and then n steps and the rest.
pub turn_ran : (rest : Rest) (n : ℕ) (g : GuestView) (left : List ℕ) → g.state.stop ≡ Running
    → turned_before (next_turn g left) (ran_before rest n (next_guest g left) (step (fed left g.state) 0).input) ≡ ran_before rest (suc n) g left
turn_ran rest n g left running =
    let s = fed left g.state in
    let t = step s 0 in
    let s' = fed t.input (bare t) in
    let v = run n s' [] in
    let u = run n t [] in
    let is : u ≡ shown t.out t.err v = ap (λ t. run n t []) (shown_bare t) ∙ run_shown n t.out t.err s' in
    let steps : steps_taken n t ≡ steps_taken n s' = ap (λ t. steps_taken n t) (shown_bare t) ∙ steps_shown n t.out t.err s' in
    let undefined : undefined_taken n t ≡ undefined_taken n s' = ap (λ t. undefined_taken n t) (shown_bare t) ∙ undefined_shown n t.out t.err s' in
    let first : steps_taken (suc n) s ≡ 1 + steps_taken n t = steps_first n s running in
    let first' : undefined_taken (suc n) s ≡ bit (reads_undefined s) + undefined_taken n t = undefined_first n s running in
    let ahead' : ahead v ≡ ahead u = sym (ap ahead is ∙ ahead_shown t.out t.err v) in
    let more : ahead t + while_running t.stop (ahead v) 0 ≡ while_running s.stop (ahead u) 0 =
    ap (λ k. ahead t + while_running t.stop k 0) ahead' ∙ (spares_on t u n refl ∙ sym (running_some s.stop (ahead u) 0 running)) in
    ap (λ e. turned_before (next_turn g left) (shown_before v (while_running t.stop (ahead v) 0) e))
    (rest_as rest v.stop u.stop v.input u.input _ _ _ _ (sym (ap (λ t. t.stop) is)) (sym (ap (λ t. t.input) is)) (omega (arith, steps, first)) (omega (arith, undefined, first')))
    ∙ shown_twice t v u (ahead t) (while_running t.stop (ahead v) 0) (while_running s.stop (ahead u) 0) _ more (sym (ap (λ t. t.out) is)) (sym (ap (λ t. t.err) is))

-- ---- the guest alone

abbrev pub guest_rest : Files → Rest
guest_rest files stop left steps undefined = ends_with (Ok (finished stop steps undefined)) files left

-- The turns of a guest end as its run does.
pub ends_as : (n : ℕ) (g : GuestView) (files : Files) (left : List ℕ) → IsBare g → expected (guest_plan n g) files left ≡ ran_before (guest_rest files) n g left
unfolding expected
ends_as zero g files left b = ap (λ p. expected p files left) (none_left g) ∙ no_step (guest_rest files) g left b
ends_as (suc n) g files left b = by_running _ g.state.stop
    (λ running. ap (λ p. expected p files left) (runs n g running)
    ∙ (ap (turned_before (next_turn g left)) (ends_as n (next_guest g left) files (step (fed left g.state) 0).input (bare_next g left)) ∙ turn_ran (guest_rest files) n g left running))
    (λ not. ap (λ p. expected p files left) (has_stopped (suc n) g not) ∙ no_steps (guest_rest files) (suc n) g left b not)
