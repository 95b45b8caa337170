-- The steps that a guest takes are those of its run.
use Rattle.std.proofs.Common.{◌≡◌, ℕ, Bool, zero, suc, ◌+◌, ◌-◌, ◌≤◌, true, false, List, [], ◌++◌, drop, Option, Some, None, IfSome, Result, Ok, Err, refl, sym, ◌∙◌, ap, subst, arith}
use Rattle.std.proofs.lemmas.List.{append-nil}
use Rattle.br_word.specs.Words.{bit}
use Rattle.br_word.specs.Memory.{Region}
use Rattle.br_word.specs.State.{State, RunState, Running, Exited, Faulted}
use Rattle.ia_inst.specs.System.{StepResult, On, Bad}
use Rattle.ia_inst.specs.Step.{Found, NoCode, NoInst, There, found, step_result, step}
use Rattle.br_outside.specs.Streams.{Streams, Tells}
use Rattle.guest_sys.specs.declared.answers.SysError.{SysError}
use Rattle.guest_sys.specs.declared.answers.SysError.TheVariants.{Input, Out, Report, Memory}
use Rattle.guest_sys.specs.Machine.{fed, bare}
use Rattle.guest_sys.specs.Calls.{spare, Passes, LeavesRegions}
use Rattle.run_model.specs.Edges.{Edge, is_transfer, edge_by, edge_at, edge_of, edges_from}
use Rattle.run_model.specs.Run.{run}
use Rattle.guest_run.specs.declared.stop.Stop as answer
use Rattle.guest_run.specs.Guest.{GuestView, first_edge, reads_undefined, asks_next, ahead, while_running, edge_after, answer_of, StepDone, StepFailed, StepCall, RunDone, RunFailed, RunFailsAt, Runs}
use Rattle.guest_run.specs.BoundedRun.{edge_list, TakesSteps, RunStands, RunBreaks, BoundedRun, StepsTold, StepsCome, BreakTold, BreakComes, StepsHold, RunsHold, BreaksHold}
use Rattle.guest_run.proofs.EarlierBytes.{shown, shown_bare, step_shown, reads_shown, of_shown, ahead_shown}
use Rattle.guest_run.proofs.StoppedRuns.{running_some, run_none, steps_none, undefined_none, edge_none}
use Rattle.guest_run.proofs.LongerRuns.{Stands, StillRuns, HasStopped, stands, run_add, steps_add, undefined_add, edge_add, edges_add, edges_none, ran_first}
use Rattle.guest_run.proofs.StreamsJoined.{passes_then, steady_of, all_same, all_then, same_passes, fails_later, fails_now, one_now, one_then}
use Rattle.guest_run.proofs.LoopSteps.{done_live, done_steps, done_bare}

-- ---- the edge of a step

-- a step has at most one edge
by_one : (b : Bool) (w : StepResult) (site : ℕ) → edge_by b w site ≡ edge_list (first_edge (edge_by b w site))
by_one true (On t) site = refl
by_one true (Bad f) site = refl
by_one false w site = refl

at_one : (f : Found) (s : State) → edge_at f s 0 ≡ edge_list (first_edge (edge_at f s 0))
at_one NoCode s = refl
at_one NoInst s = refl
at_one (There i n) s = by_one (is_transfer i) (step_result s 0) s.eip

edge_is : (x : RunState) (s : State) → edge_of x s 0 ≡ edge_list (first_edge (edge_of x s 0))
edge_is Running s = at_one (found s.eip s.regions) s
edge_is (Exited n) s = refl
edge_is (Faulted f) s = refl

-- ---- no step

told_none : (left : List ℕ) (g : GuestView) (a : Streams) → a.input.bytes ≡ Some left → g.state ≡ bare g.state → StepsTold 0 (fed left g.state) [] g g a a
told_none left g a told is =
    let P : Option (List ℕ) → Type 0 = λ o. IfSome o (λ told. told ≡ left) in
    record {
      taken = refl;
      state = is;
      undefined = omega arith;
      edge = refl;
      edges_are = refl;
      more = 0;
      few = omega arith;
      streams = same_passes (fed left g.state) a (subst P (sym told) refl) (ap (λ (s : State). s.out) is) (ap (λ (s : State). s.err) is);
    }

-- ---- one more

-- A guest whose next step is one of a guest that runs: what it has taken and what the input has left is as its state has it.
record AtStep (u : State) (k : GuestView) (left : List ℕ) (a now : Streams) : Type 0 where
  running : u.stop ≡ Running
  passes : Passes u 0 a now
  tells : Tells u.input now.input
  same : fed left k.state ≡ fed u.input (bare u)

running_le : (x : RunState) (k : ℕ) → while_running x k 0 ≤ k
running_le Running k = omega arith
running_le (Exited n) k = omega arith
running_le (Faulted f) k = omega arith

at_step : (n : ℕ) (s : State) (left next : List ℕ) (edges : List Edge) (g k : GuestView) (a now : Streams) → StepsTold n s edges g k a now → a.input.bytes ≡ Some left
    → k.state.stop ≡ Running → Tells next now.input → AtStep (run n s []) k next a now
at_step n s left next edges g k a now w told still tells =
    let u = run n s [] in
    let running : u.stop ≡ Running = ap (λ (x : State). x.stop) (sym w.state) ∙ still in
    let none : w.more ≡ 0 = omega (arith, w.few, running_le s.stop (ahead u), ap (λ x. spare x (asks_next u)) running) in
    let passes : Passes u 0 a now = (let P : ℕ → Type 0 = λ m. Passes u m a now in subst P none w.streams) in
    let rest : now.input.bytes ≡ Some u.input = (let P : Option (List ℕ) → Type 0 = λ o. IfSome o (λ x. now.input.bytes ≡ Some (drop 0 u.input)) in subst P told passes.input.bytes) in
    let P : Option (List ℕ) → Type 0 = λ o. IfSome o (λ x. x ≡ next) in
    let Q : Option (List ℕ) → Type 0 = λ o. IfSome o (λ x. x ≡ u.input) in
    let is : u.input ≡ next = subst P rest tells in
    record {
      running = running;
      passes = passes;
      tells = subst Q (sym rest) refl;
      same = ap (λ l. fed l k.state) (sym is) ∙ ap (λ x. fed u.input x) w.state;
    }

told_more : (n : ℕ) (s : State) (left : List ℕ) (first : List Edge) (g k h : GuestView) (a now b : Streams) → StepsTold n s first g k a now → a.input.bytes ≡ Some left
    → StepCall (Ok true) 0 k h now b → StepsTold (suc n) s (first ++ edge_list h.edge) g h a b
told_more n s left first g k h a now b w told d =
    let u = run n s [] in
    let at : AtStep u k d.left a now = at_step n s left d.left first g k a now w told d.gives.running d.told in
    let u0 = fed u.input (bare u) in
    let v0 = step u0 0 in
    let done : StepDone u0 0 k h now b = (let P : State → Type 0 = λ x. StepDone x 0 k h now b in subst P at.same d.gives) in
    let one : suc n ≡ n + 1 = omega arith in
    let last : run (suc n) s [] ≡ shown u.out u.err v0 = run_add n 1 (suc n) s one ∙ (ap (λ x. step x 0) (shown_bare u) ∙ step_shown u.out u.err u0 0) in
    let reads : reads_undefined u ≡ reads_undefined u0 = ap reads_undefined (shown_bare u) ∙ reads_shown u.out u.err u0 in
    let edge : edge_of u.stop u 0 ≡ edge_of u0.stop u0 0 = ap (λ x. edge_of u.stop x 0) (shown_bare u) ∙ of_shown u.stop u.out u.err u0 0 in
    let its : h.edge ≡ first_edge (edge_of u.stop u 0) = ap (λ (x : GuestView). x.edge) done.guest ∙ ap first_edge (sym edge) in
    let P : State → Type 0 = λ x. Passes x done.more a b in
    record {
      taken = omega (arith, steps_add n 1 (suc n) s one, w.taken, running_some u.stop (1 + 0) 0 at.running);
      state = ap (λ (x : GuestView). x.state) done.guest ∙ ap bare (sym last);
      undefined = omega (
        arith,
        ap (λ (x : GuestView). x.undefined) done.guest,
        w.undefined,
        ap bit reads,
        undefined_add n 1 (suc n) s one,
        running_some u.stop (bit (reads_undefined u) + 0) 0 at.running,
      );
      edge = its ∙ sym (edge_add n 1 (suc n) s g.edge one ∙ running_some u.stop (first_edge (edge_of u.stop u 0)) (edge_after n s g.edge) at.running);
      edges_are =
          ap (λ es. es ++ edge_list h.edge) w.edges_are
          ∙ (ap (λ x. edges_from n s ++ x) (ap edge_list its ∙ (sym (edge_is u.stop u) ∙ sym (append-nil (edge_of u.stop u 0))))
          ∙ sym (edges_add n 1 (suc n) s one));
      more = done.more;
      few = omega (
        arith,
        done.few,
        ahead_shown u.out u.err v0,
        ap ahead last,
        running_some s.stop (ahead (run (suc n) s [])) 0 (ran_first n s at.running),
      );
      streams = subst P (sym last) (passes_then u v0 0 done.more a now b at.passes done.streams);
    }

come_more : (n : ℕ) (first : List Edge) (g k h : GuestView) (a now b : Streams) → StepsCome n first g k a now → StepCall (Ok true) 0 k h now b → StepsCome (suc n) (first ++ edge_list h.edge) g h a b
come_more n first g k h a now b c d = record {
  live = done_live 0 k h now b d;
  streamless = done_bare 0 k h now b d;
  steps = omega (arith, c.steps, done_steps 0 k h now b d);
  streams = all_then a now b c.streams (steady_of _ _ now b d.gives.streams);
  told = go a.input.bytes refl c.told;
}
  where
    go : (o : Option (List ℕ)) → a.input.bytes ≡ o → IfSome o (λ left. StepsTold n (fed left g.state) first g k a now)
        → IfSome o (λ left. StepsTold (suc n) (fed left g.state) (first ++ edge_list h.edge) g h a b)
    go None q t = tt
    go (Some left) q t = told_more n (fed left g.state) left first g k h a now b t q d

pub steps_hold : StepsHold
unfolding TakesSteps
steps_hold zero g h edges a b live is w =
    let P : List Edge → Type 0 = λ es. StepsCome 0 es g h a b in
    let Q : GuestView → Type 0 = λ h. StepsCome 0 [] g h a b in
    let R : Streams → Type 0 = λ b. StepsCome 0 [] g g a b in
    subst P (sym w.0) (subst Q (sym w.1) (subst R (sym w.2) (record {
      live = live;
      streamless = is;
      steps = omega arith;
      streams = all_same a;
      told = go a.input.bytes refl;
    })))
  where
    go : (o : Option (List ℕ)) → a.input.bytes ≡ o → IfSome o (λ left. StepsTold 0 (fed left g.state) [] g g a a)
    go None q = tt
    go (Some left) q = told_none left g a q is
steps_hold (suc n) g h edges a b live is w =
    let P : List Edge → Type 0 = λ es. StepsCome (suc n) es g h a b in
    subst P (sym w.whole) (come_more n w.first g w.guest h a w.now b (steps_hold n g w.guest w.first a w.now live is w.before) w.step)

-- ---- the next step fails

-- what a call leaves in memory does not depend on what was written before
leaves_bare : (e : SysError) (u : State) (rs : List Region) → LeavesRegions e (fed u.input (bare u)) rs → LeavesRegions e u rs
leaves_bare Input u rs h = h
leaves_bare Out u rs h = h
leaves_bare Report u rs h = h
leaves_bare Memory u rs h = h

break_told : (e : SysError) (n : ℕ) (s : State) (left : List ℕ) (edges : List Edge) (g k h : GuestView) (a now b : Streams) → StepsTold n s edges g k a now → a.input.bytes ≡ Some left
    → StepCall (Err e) 0 k h now b → BreakTold e n s h a b
break_told e n s left edges g k h a now b w told d =
    let u = run n s [] in
    let at : AtStep u k d.left a now = at_step n s left d.left edges g k a now w told d.gives.running d.told in
    let u0 = fed u.input (bare u) in
    let failed : StepFailed e u0 0 k h now b = (let P : State → Type 0 = λ x. StepFailed e x 0 k h now b in subst P at.same d.gives) in
    let P : State → Type 0 = λ x. RunFailsAt e x (step x 0) a b in
    let Q : State → Type 0 = λ x. RunFailsAt e (shown u.out u.err u0) x a b in
    record {
      running = at.running;
      state = ap (λ (x : GuestView). x.state) failed.guest ∙ ap (λ (x : State). let y : State = record x { regions = h.state.regions } in y) w.state;
      regions = leaves_bare e u h.state.regions failed.regions;
      streams = subst P (sym (shown_bare u)) (subst Q (sym (step_shown u.out u.err u0 0))
          (fails_later e u u0 (step u0 0) a now b at.passes (fails_now e u0 (step u0 0) now b at.tells refl refl failed.streams)));
    }

pub breaks_hold : BreaksHold
breaks_hold e n g k h edges a now b live is w d = record {
  dead = ap (λ (x : GuestView). x.live) d.gives.guest;
  steps = omega (arith, ap (λ (x : GuestView). x.steps) d.gives.guest, come.steps);
  streams = one_then e a now b come.streams (one_now e (fed d.left k.state) (step (fed d.left k.state) 0) now b d.gives.streams);
  told = go a.input.bytes refl come.told;
}
  where
    come : StepsCome n edges g k a now
    come = steps_hold n g k edges a now live is w

    go : (o : Option (List ℕ)) → a.input.bytes ≡ o → IfSome o (λ left. StepsTold n (fed left g.state) edges g k a now) → IfSome o (λ left. BreakTold e n (fed left g.state) h a b)
    go None q t = tt
    go (Some left) q t = break_told e n (fed left g.state) left edges g k h a now b t q d

-- ---- a whole run

-- a guest that has taken n steps, and it stands so
run_done : (r : answer.Stop) (n : ℕ) (s : State) (edges : List Edge) (g h : GuestView) (a b : Streams) → r ≡ answer_of h.state.stop → h.steps ≡ g.steps + n
    → StepsTold n s edges g h a b → RunDone r n s g h a b
run_done r n s edges g h a b is steps w = record {
  answer = is ∙ ap (λ (x : State). answer_of x.stop) w.state;
  state = w.state;
  steps = omega (arith, steps, w.taken);
  undefined = w.undefined;
  edge = w.edge;
  more = w.more;
  few = w.few;
  streams = w.streams;
}

-- a guest that has stopped takes no more steps
later_told : (m n : ℕ) (r : answer.Stop) (s : State) (edges : List Edge) (g h : GuestView) (a b : Streams) → m ≤ n → ((run m s []).stop ≡ Running → ⊥) → r ≡ answer_of h.state.stop
    → h.steps ≡ g.steps + m → StepsTold m s edges g h a b → RunDone r n s g h a b × (edges ≡ edges_from n s)
later_told m n r s edges g h a b le stopped is steps w =
    let j = n - m in
    let all : n ≡ m + j = omega (arith, le) in
    let u = run m s [] in
    let same : run n s [] ≡ u = run_add m j n s all ∙ run_none j u stopped in
    let P : State → Type 0 = λ x. Passes x w.more a b in (
      record {
        answer = is ∙ (ap (λ (x : State). answer_of x.stop) w.state ∙ ap (λ (x : State). answer_of x.stop) (sym same));
        state = w.state ∙ ap bare (sym same);
        steps = omega (arith, steps, w.taken, steps_add m j n s all, steps_none j u stopped);
        undefined = omega (arith, w.undefined, undefined_add m j n s all, undefined_none j u stopped);
        edge = w.edge ∙ sym (edge_add m j n s g.edge all ∙ edge_none j u (edge_after m s g.edge) stopped);
        more = w.more;
        few = omega (arith, w.few, ap (λ x. while_running s.stop (ahead x) 0) same);
        streams = subst P (sym same) w.streams;
      },
      w.edges_are ∙ sym (edges_add m j n s all ∙ (ap (λ xs. edges_from m s ++ xs) (edges_none j u stopped) ∙ append-nil (edges_from m s))),
    )

run_told : (r : answer.Stop) (n : ℕ) (s : State) (g h : GuestView) (a b : Streams) (w : RunStands r n g h a b) → h.steps ≡ g.steps + w.taken → StepsTold w.taken s w.edges g h a b
    → RunDone r n s g h a b × (w.edges ≡ edges_from n s)
run_told r n s g h a b w steps t = go (stands (run w.taken s []))
  where
    go : Stands (run w.taken s []) → RunDone r n s g h a b × (w.edges ≡ edges_from n s)
    go (StillRuns q) =
        let all : w.taken ≡ n = w.all (ap (λ (x : State). x.stop) t.state ∙ q) in
        let P : ℕ → Type 0 = λ n. RunDone r n s g h a b × (w.edges ≡ edges_from n s) in
        subst P all (run_done r w.taken s w.edges g h a b w.answer steps t, t.edges_are)
    go (HasStopped k) = later_told w.taken n r s w.edges g h a b w.most k w.answer steps t

pub runs_hold : RunsHold
runs_hold r n g h a b live is w = (
  record {
    ends = record {
      answer = w.answer;
      live = come.live;
      most = omega (arith, come.steps, w.most);
      all = λ q. omega (arith, come.steps, w.all q);
      streams = come.streams;
    };
    told = told a.input.bytes come.told;
  },
  edges a.input.bytes come.told,
)
  where
    come : StepsCome w.taken w.edges g h a b
    come = steps_hold w.taken g h w.edges a b live is w.steps

    told : (o : Option (List ℕ)) → IfSome o (λ left. StepsTold w.taken (fed left g.state) w.edges g h a b) → IfSome o (λ left. RunDone r n (fed left g.state) g h a b)
    told None t = tt
    told (Some left) t = (run_told r n (fed left g.state) g h a b w come.steps t).0

    edges : (o : Option (List ℕ)) → IfSome o (λ left. StepsTold w.taken (fed left g.state) w.edges g h a b) → IfSome o (λ left. w.edges ≡ edges_from n (fed left g.state))
    edges None t = tt
    edges (Some left) t = (run_told r n (fed left g.state) g h a b w come.steps t).1

-- a run that ended in a step that failed
pub run_breaks : (e : SysError) (n : ℕ) (g h : GuestView) (a b : Streams) → g.live ≡ true → g.state ≡ bare g.state → RunBreaks e n g h a b → Runs (Err e) n g h a b
run_breaks e n g h a b live is w = record {
  ends = record { live = come.dead; most = omega (arith, come.steps, w.within); streams = come.streams };
  told = go a.input.bytes come.told;
}
  where
    come : BreakComes e w.taken g h a b
    come = breaks_hold e w.taken g w.last h w.edges a w.now b live is w.steps w.failed

    go : (o : Option (List ℕ)) → IfSome o (λ left. BreakTold e w.taken (fed left g.state) h a b) → IfSome o (λ left. RunFailed e n (fed left g.state) g h a b)
    go None t = tt
    go (Some left) t = record { done = w.taken; within = w.within; running = t.running; state = t.state; regions = t.regions; steps = come.steps; streams = t.streams }

-- whatever a run comes to
pub run_holds : (r : Result answer.Stop SysError) (n : ℕ) (g h : GuestView) (a b : Streams) → g.live ≡ true → g.state ≡ bare g.state → BoundedRun r n g h a b → Runs r n g h a b
run_holds (Ok r) n g h a b live is w = (runs_hold r n g h a b live is w).0
run_holds (Err e) n g h a b live is w = run_breaks e n g h a b live is w
