-- A step of the whole guest.
use Rattle.std.proofs.Common.{◌≡◌, ℕ, ◌+◌, Bool, true, false, Option, Ok, Err, refl, sym, ◌∙◌, ap, subst}
use Rattle.br_word.specs.State.{State, RunState, Running, Exited, Faulted}
use Rattle.ia_inst.specs.Step.{Found, NoCode, NoInst, There, found, result_at, step_result, step}
use Rattle.guest_mem.specs.View.{MemoryView}
use Rattle.ia_meaning.specs.declared.cpu.Cpu.{Cpu}
use Rattle.guest_sys.specs.declared.answers.SysError.{SysError}
use Rattle.br_outside.specs.Streams.{Streams}
use Rattle.guest_sys.specs.Machine.{state_of, fed, bare}
use Rattle.guest_run.proofs.StreamsJoined.{had, told_had}
use Rattle.guest_run.specs.declared.stop.Stop as answer
use Rattle.guest_run.specs.declared.stop.Stop.TheVariants as answers
use Rattle.guest_run.specs.declared.advance.Advanced.{Advanced}
use Rattle.run_model.specs.Edges.{Edge, edge_by, edge_at, is_transfer}
use Rattle.guest_run.specs.Guest.{GuestView, view_of, stop_of, answer_of, first_edge, stepped, StepCall}
use Rattle.guest_run.proofs.CallResults.{way_done, few_ahead}
use Rattle.guest_run.specs.Advance.{Advance, edge_by_found}

stop_again : (s : RunState) → stop_of (answer_of s) ≡ s
stop_again Running = refl
stop_again (Exited n) = refl
stop_again (Faulted f) = refl

edge_same : (f : Found) (s : State) (c : ℕ) → found s.eip s.regions ≡ f → edge_at f s c ≡ edge_by_found f s c
edge_same NoCode s c h = refl
edge_same NoInst s c h = refl
edge_same (There i n) s c h = ap (λ f. edge_by (is_transfer i) (result_at f s c) s.eip) h

abbrev viewed : State → ℕ → ℕ → Option Edge → GuestView
viewed s steps undefined edge = record { state = s; steps = steps; undefined = undefined; edge = edge; live = true }

viewed_is : (s t : State) (n a b : ℕ) (d e : Option Edge) → s ≡ t → a ≡ b → d ≡ e → viewed s n a d ≡ viewed t n b e
viewed_is s t n a b d e p q r = ap (λ x. viewed x n a d) p ∙ (ap (λ x. viewed t n x d) q ∙ ap (λ x. viewed t n b x) r)

state_is : (v : Cpu) (n : MemoryView) (t : State) (stop : answer.Stop) → state_of v n ≡ bare (record t { stop = Running }) → stop ≡ answer_of t.stop → (let x : State = record (state_of v n) { stop = stop_of stop } in x) ≡ bare t
state_is v n t stop a b =
    let f : State → RunState → State = λ x y. record x { stop = y } in
    ap (λ x. f x (stop_of stop)) a ∙ ap (λ y. f (bare t) y) (ap stop_of b ∙ stop_again t.stop)

at_budget : (c : ℕ) (u v : Cpu) (m n : MemoryView) (b a : Streams) (x : Advanced) (steps : ℕ) (edge : Option Edge) (live : Bool) → live ≡ true
    → Advance (found u.eip m.regions) (Ok x) c (record { cpu = u; memory = m; streams = b }) (record { cpu = v; memory = n; streams = a })
    → StepCall (Ok true) c (view_of u m answers.Budget steps edge live) (view_of v n x.stop (steps + 1) x.edge live) b a
unfolding step
at_budget c u v m n b a x steps edge live on d =
    let s = fed d.left (state_of u m) in
    let g = view_of u m answers.Budget steps edge live in
    let P : Bool → Type 0 = λ l. (let h : GuestView = record { state = record (state_of v n) { stop = stop_of x.stop }; steps = steps + 1; undefined = v.undefined; edge = x.edge; live = l } in h) ≡ stepped g s c (step s c) in
    record {
      left = d.left;
      told = d.told;
      gives = record {
        running = refl;
        guest = subst P (sym on) (viewed_is _ _ (steps + 1) _ _ _ _
            (state_is v n (step s c) x.stop d.gives.state d.gives.stop) d.gives.undefined
            (d.gives.edge ∙ sym (ap first_edge (edge_same (found s.eip s.regions) s c refl))));
        more = d.gives.more;
        few = few_ahead (step_result s c) s d.gives.more (way_done (found s.eip s.regions) s c refl) d.gives.few;
        streams = d.gives.streams;
        idle = d.gives.idle;
      };
    }

fails_at_budget : (c : ℕ) (u v : Cpu) (m n : MemoryView) (b a : Streams) (e : SysError) (steps : ℕ) (edge : Option Edge) (live : Bool)
    → Advance (found u.eip m.regions) (Err e) c (record { cpu = u; memory = m; streams = b }) (record { cpu = v; memory = n; streams = a })
    → StepCall (Err e) c (view_of u m answers.Budget steps edge live) (view_of v n answers.Budget steps edge false) b a
unfolding step
fails_at_budget c u v m n b a e steps edge live d =
    let f : Cpu → MemoryView → GuestView = λ v n. view_of v n answers.Budget steps edge false in
    record {
      left = d.left;
      told = d.told;
      gives = record {
        running = refl;
        trap = d.gives.trap;
        call = d.gives.call;
        guest = ap (λ v. f v n) d.gives.cpu ∙ ap (λ n. f u n) d.gives.memory;
        regions = d.gives.regions;
        streams = d.gives.streams;
      };
    }

pub step_none : (c : ℕ) (g : GuestView) (b : Streams) → (g.state.stop ≡ Running → ⊥) → StepCall (Ok false) c g g b b
step_none c g b h = record { left = had b.input.bytes; told = told_had b.input.bytes; gives = record { stopped = h; guest = refl; streams = refl } }

pub step_done : (c : ℕ) (u v : Cpu) (m n : MemoryView) (b a : Streams) (x : Advanced) (stop : answer.Stop) (steps : ℕ) (edge : Option Edge) (live : Bool) → stop ≡ answers.Budget → live ≡ true
    → Advance (found u.eip m.regions) (Ok x) c (record { cpu = u; memory = m; streams = b }) (record { cpu = v; memory = n; streams = a })
    → StepCall (Ok true) c (view_of u m stop steps edge live) (view_of v n x.stop (steps + 1) x.edge live) b a
step_done c u v m n b a x stop steps edge live is on d =
    let P : answer.Stop → Type 0 = λ stop. StepCall (Ok true) c (view_of u m stop steps edge live) (view_of v n x.stop (steps + 1) x.edge live) b a in
    subst P (sym is) (at_budget c u v m n b a x steps edge live on d)

pub step_failed : (c : ℕ) (u v : Cpu) (m n : MemoryView) (b a : Streams) (e : SysError) (stop : answer.Stop) (steps : ℕ) (edge : Option Edge) (live : Bool) → stop ≡ answers.Budget
    → Advance (found u.eip m.regions) (Err e) c (record { cpu = u; memory = m; streams = b }) (record { cpu = v; memory = n; streams = a })
    → StepCall (Err e) c (view_of u m stop steps edge live) (view_of v n stop steps edge false) b a
step_failed c u v m n b a e stop steps edge live is d =
    let P : answer.Stop → Type 0 = λ stop. StepCall (Err e) c (view_of u m stop steps edge live) (view_of v n stop steps edge false) b a in
    subst P (sym is) (fails_at_budget c u v m n b a e steps edge live d)

budget_is : (x : answer.Stop) → stop_of x ≡ Running → x ≡ answers.Budget
budget_is answers.Budget h = refl
budget_is (answers.Exited n) h = absurd (cc)
budget_is (answers.Fault f) h = absurd (cc)

pub step_not : (c : ℕ) (u : Cpu) (m : MemoryView) (b : Streams) (stop : answer.Stop) (steps : ℕ) (edge : Option Edge) (live : Bool) → (stop ≡ answers.Budget → ⊥) → StepCall (Ok false) c (view_of u m stop steps edge live) (view_of u m stop steps edge live) b b
step_not c u m b stop steps edge live h = step_none c (view_of u m stop steps edge live) b (λ r. h (budget_is stop r))
