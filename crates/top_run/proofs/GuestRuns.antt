-- A guest's steps as turns of a plan.
use Rattle.std.proofs.Common.{◌≡◌, ◌<◌, ◌≤◌, ◌+◌, ℕ, zero, suc, Bool, true, false, IsTrue, List, Some, Result, Ok, Err, refl, sym, ◌∙◌, ap, subst, inr}
use Rattle.br_outside.specs.Outside.{ShelfView}
use Rattle.br_word.specs.State.{State, RunState, Running, Exited, Faulted}
use Rattle.br_outside.specs.Streams.{Streams, Tells}
use Rattle.guest_sys.specs.Machine.{fed}
use Rattle.guest_sys.specs.Calls.{asks}
use Rattle.guest_sys.specs.declared.answers.SysError.{SysError}
use Rattle.guest_sys.specs.declared.answers.SysError.TheVariants as sys
use Rattle.guest_run.specs.declared.stop.Stop as answer
use Rattle.guest_run.specs.Guest.{GuestView, StepDone, StepFailed, NoStep, StepCall, stop_of, answer_of, while_running, asks_by, asks_next, traps}
use Rattle.top_plan.specs.World.{World, world}
use Rattle.top_plan.specs.Texts.{WorkEnd}
use Rattle.top_plan.specs.Plan.{Plan, Turns, Went, AfterTurn, GoesOn, FailsInput, FailsOutput, FailsReport, WantsMemory}
use Rattle.top_run.specs.RunPlan.{last_line, finish_of, next_guest, next_turn, stands, guest_plan, halt_of_error}
use Rattle.top_plan.specs.declared.ends.Finish.{Finish}
use Rattle.top_plan.specs.declared.ends.Cause.{Cause}
use Rattle.top_plan.proofs.Passes.{ok_same}

-- a world of a shelf and three streams
abbrev pub with_streams : ShelfView → Streams → World
with_streams v z = world v z.input z.out z.err

-- ---- how a guest stands

pub same_stop : (s : RunState) → stop_of (answer_of s) ≡ s
same_stop Running = refl
same_stop (Exited n) = refl
same_stop (Faulted f) = refl

pub stood : (g : GuestView) (a : answer.Stop) (f : Finish) (line : List ℕ) (n u : ℕ) (w : World) → a ≡ answer_of g.state.stop → n ≡ g.steps → u ≡ g.undefined
    → f ≡ finish_of (stop_of a) → line ≡ last_line (stop_of a) n u → Went (stands g) w (Ok (record { finish = f; line = Some line })) w
unfolding Went
stood g a f line n u w is steps undefined finish text =
    let s : stop_of a ≡ g.state.stop = ap stop_of is ∙ same_stop g.state.stop in
    let f' : f ≡ finish_of g.state.stop = finish ∙ ap finish_of s in
    let l' : line ≡ last_line g.state.stop g.steps g.undefined = text ∙ (ap (λ s. last_line s n u) s ∙ (ap (λ n. last_line g.state.stop n u) steps ∙ ap (λ u. last_line g.state.stop g.steps u) undefined)) in
    let P : Finish → Type 0 = λ f'. (let o : WorkEnd = Ok (record { finish = f; line = Some line }) in o) ≡ Ok (record { finish = f'; line = Some (last_line g.state.stop g.steps g.undefined) }) in
    inr (subst P f' (ap (λ l. Ok (record { finish = f; line = Some l })) l'), refl)

-- ---- a step as a turn, whatever comes after it

turns : (next : List ℕ → Plan) (g : GuestView) (left : List ℕ) (s : World) (o : WorkEnd) (u : World) → Tells left s.input
    → AfterTurn (next_turn g left) left (Went (next left)) s o u → Went (Turns (next_turn g) next) s o u
unfolding Went
turns next g left s o u told after = inr (left, told, after)

-- a step was taken
pub turn_done : (next : List ℕ → Plan) (g h : GuestView) (v : ShelfView) (before after : Streams) (o : WorkEnd) (u : World) (a : StepCall (Ok true) 0 g h before after)
    → Went (next a.left) (with_streams v after) o u → Went (Turns (next_turn g) next) (with_streams v before) o u
turn_done next g h v before after o u a went =
    let d : StepDone (fed a.left g.state) 0 g h before after = a.gives in
    turns next g a.left (with_streams v before) o u a.told
    (GoesOn (with_streams v after) (record { shelf = refl; more = d.more; few = d.few; input = d.streams.input; idle = d.idle; out = d.streams.out; report = d.streams.err }) went)

-- what a call asks that is one
asked_all : (b : Bool) (s : State) → IsTrue b → asks s ≡ asks_by b s
asked_all true s is = refl
asked_all false s is = let h : false ≡ true = is in cc

-- a step failed
pub turn_fails : (next : List ℕ → Plan) (g h : GuestView) (v : ShelfView) (before after : Streams) (error : SysError) → StepCall (Err error) 0 g h before after
    → Went (Turns (next_turn g) next) (with_streams v before) (Err (halt_of_error error)) (with_streams v after)
turn_fails next g h v before after sys.Input a =
    let d : StepFailed sys.Input (fed a.left g.state) 0 g h before after = a.gives in
    let few : asks (fed a.left g.state) ≡ asks_next (fed a.left g.state) = asked_all (traps (fed a.left g.state)) (fed a.left g.state) d.trap in
    let z = d.streams in
    turns next g a.left (with_streams v before) _ _ a.told (FailsInput (record { ends = refl; taken = z.taken; few = (let P : ℕ → Type 0 = λ k. z.taken < k in subst P few z.few); rest = z.left; fails = z.fails; shelf = refl; out = z.out; report = z.err }))
turn_fails next g h v before after sys.Out a =
    let d : StepFailed sys.Out (fed a.left g.state) 0 g h before after = a.gives in
    let z = d.streams in
    turns next g a.left (with_streams v before) _ _ a.told (FailsOutput (record { ends = refl; written = z.0.written; given = z.0.given; some = z.0.some; fails = z.0.fails; shelf = refl; input = z.1; report = z.2 }))
turn_fails next g h v before after sys.Report a =
    let d : StepFailed sys.Report (fed a.left g.state) 0 g h before after = a.gives in
    let z = d.streams in
    turns next g a.left (with_streams v before) _ _ a.told (FailsReport (record { ends = refl; written = z.0.written; given = z.0.given; some = z.0.some; fails = z.0.fails; shelf = refl; input = z.1; out = z.2 }))
turn_fails next g h v before after sys.Memory a =
    let d : StepFailed sys.Memory (fed a.left g.state) 0 g h before after = a.gives in
    let few : asks (fed a.left g.state) ≡ asks_next (fed a.left g.state) = asked_all (traps (fed a.left g.state)) (fed a.left g.state) d.trap in
    let z = d.streams in
    turns next g a.left (with_streams v before) _ _ a.told (WantsMemory (record { ends = refl; taken = z.taken; few = (let P : ℕ → Type 0 = λ k. z.taken ≤ k in subst P few z.few); input = z.input; shelf = refl; printed = z.out.written; out = z.out.given; reported = z.err.written; report = z.err.given; out_steady = z.out.steady; report_steady = z.err.steady }))

-- a guest whose step failed was running
pub ran_when_failed : (g h : GuestView) (before after : Streams) (error : SysError) → StepCall (Err error) 0 g h before after → g.state.stop ≡ Running
ran_when_failed g h before after error a = let d : StepFailed error (fed a.left g.state) 0 g h before after = a.gives in d.running

-- ---- what a plan of steps comes to

-- a guest that runs takes a turn
pub runs : (n : ℕ) (g : GuestView) → g.state.stop ≡ Running → guest_plan (suc n) g ≡ Turns (next_turn g) (λ left. guest_plan n (next_guest g left))
unfolding guest_plan
runs n g is = ap (λ s. while_running s (Turns (next_turn g) (λ left. guest_plan n (next_guest g left))) (stands g)) is

pub stopped_plan : (s : RunState) (a b : Plan) → (s ≡ Running → ⊥) → while_running s a b ≡ b
stopped_plan Running a b not = absurd (not refl)
stopped_plan (Exited n) a b not = refl
stopped_plan (Faulted f) a b not = refl

pub none_left : (g : GuestView) → guest_plan 0 g ≡ stands g
unfolding guest_plan
none_left g = refl

pub has_stopped : (n : ℕ) (g : GuestView) → (g.state.stop ≡ Running → ⊥) → guest_plan n g ≡ stands g
unfolding guest_plan
has_stopped zero g not = refl
has_stopped (suc n) g not = stopped_plan g.state.stop _ _ not

-- a run of another plan that is the same
pub same_plan : (p q : Plan) (s : World) (o : WorkEnd) (u : World) → p ≡ q → Went q s o u → Went p s o u
same_plan p q s o u is went = let P : Plan → Type 0 = λ p. Went p s o u in subst P (sym is) went

-- a run of a guest that was made as this one
pub guest_as : (n : ℕ) (g h : GuestView) (s : World) (o : WorkEnd) (u : World) → (let r : Result GuestView Cause = Ok g in r) ≡ Ok h → Went (guest_plan n h) s o u → Went (guest_plan n g) s o u
guest_as n g h s o u is went = let P : GuestView → Type 0 = λ g. Went (guest_plan n g) s o u in subst P (sym (ok_same g h is)) went

-- a step was taken
step_on : (n : ℕ) (g h : GuestView) (v : ShelfView) (before after : Streams) (o : WorkEnd) (u : World) → StepCall (Ok true) 0 g h before after
    → Went (guest_plan n h) (with_streams v after) o u → Went (guest_plan (suc n) g) (with_streams v before) o u
step_on n g h v before after o u a went =
    let d : StepDone (fed a.left g.state) 0 g h before after = a.gives in
    let P : GuestView → Type 0 = λ h. Went (guest_plan n h) (with_streams v after) o u in
    same_plan (guest_plan (suc n) g) _ (with_streams v before) o u (runs n g d.running)
    (turn_done (λ left. guest_plan n (next_guest g left)) g h v before after o u a (subst P d.guest went))

pub steps_on : (k n : ℕ) (g h : GuestView) (v : ShelfView) (before after : Streams) (o : WorkEnd) (u : World) (b : Bool) → StepCall (Ok b) 0 g h before after → b ≡ true → k ≡ suc n
    → Went (guest_plan n h) (with_streams v after) o u → Went (guest_plan k g) (with_streams v before) o u
steps_on k n g h v before after o u b a taken more went =
    let P : Bool → Type 0 = λ b. StepCall (Ok b) 0 g h before after in
    let Q : ℕ → Type 0 = λ k. Went (guest_plan k g) (with_streams v before) o u in
    subst Q (sym more) (step_on n g h v before after o u (subst P taken a) went)

-- no step was taken
pub stays : (n : ℕ) (g h : GuestView) (v : ShelfView) (before after : Streams) (o : WorkEnd) (u : World) (b : Bool) → StepCall (Ok b) 0 g h before after → b ≡ false
    → Went (stands h) (with_streams v after) o u → Went (guest_plan n g) (with_streams v before) o u
stays n g h v before after o u b a none went =
    let R : Bool → Type 0 = λ b. StepCall (Ok b) 0 g h before after in
    let a' : StepCall (Ok false) 0 g h before after = subst R none a in
    let d : NoStep (fed a'.left g.state) g h before after = a'.gives in
    let P : GuestView → Type 0 = λ h. Went (stands h) (with_streams v after) o u in
    let Q : Streams → Type 0 = λ z. Went (stands g) (with_streams v z) o u in
    same_plan (guest_plan n g) (stands g) (with_streams v before) o u (has_stopped n g d.stopped) (subst Q d.streams (subst P d.guest went))

-- a step failed
pub fails : (k n : ℕ) (g h : GuestView) (v : ShelfView) (before after : Streams) (error : SysError) → StepCall (Err error) 0 g h before after → k ≡ suc n
    → Went (guest_plan k g) (with_streams v before) (Err (halt_of_error error)) (with_streams v after)
fails k n g h v before after error a more =
    let Q : ℕ → Type 0 = λ k. Went (guest_plan k g) (with_streams v before) (Err (halt_of_error error)) (with_streams v after) in
    subst Q (sym more) (same_plan (guest_plan (suc n) g) _ _ _ _ (runs n g (ran_when_failed g h before after error a))
    (turn_fails (λ left. guest_plan n (next_guest g left)) g h v before after error a))

-- the steps before a guest that takes none any more
pub before : (n k : ℕ) (g : GuestView) (s : World) (o : WorkEnd) (u : World) → k ≡ n → Went (guest_plan n g) s o u → Went (guest_plan k g) s o u
before n k g s o u is went = let P : ℕ → Type 0 = λ k. Went (guest_plan k g) s o u in subst P (sym is) went

pub at_last : (k : ℕ) (g : GuestView) (s : World) (o : WorkEnd) (u : World) → k ≡ 0 → Went (stands g) s o u → Went (guest_plan k g) s o u
at_last k g s o u is went = before 0 k g s o u is (same_plan (guest_plan 0 g) (stands g) s o u (none_left g) went)

-- a guest that took a step
pub took_step : (g h : GuestView) (before after : Streams) (b : Bool) → StepCall (Ok b) 0 g h before after → b ≡ true → (h.live ≡ true) × (h.steps ≡ g.steps + 1)
took_step g h before after b a taken =
    let P : Bool → Type 0 = λ b. StepCall (Ok b) 0 g h before after in
    let a' : StepCall (Ok true) 0 g h before after = subst P taken a in
    let d : StepDone (fed a'.left g.state) 0 g h before after = a'.gives in
    (ap (λ h. h.live) d.guest, ap (λ h. h.steps) d.guest)
