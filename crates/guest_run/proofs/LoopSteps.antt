-- The steps that a loop takes, and where it ends.
use Rattle.std.proofs.Common.{◌≡◌, ℕ, suc, ◌+◌, ◌<◌, ◌≤◌, true, false, List, [], ◌++◌, Ok, Err, refl, sym, ◌∙◌, ap, subst, arith}
use Rattle.br_word.specs.State.{RunState}
use Rattle.br_outside.specs.Streams.{Streams}
use Rattle.guest_sys.specs.declared.answers.SysError.{SysError}
use Rattle.guest_sys.specs.Machine.{bare}
use Rattle.run_model.specs.Edges.{Edge}
use Rattle.guest_run.specs.declared.stop.Stop as answer
use Rattle.guest_run.specs.declared.stop.Stop.TheVariants as answers
use Rattle.guest_run.specs.Guest.{GuestView, stop_of, answer_of, StepCall}
use Rattle.guest_run.specs.BoundedRun.{edge_list, TakesSteps, RunStands, RunBreaks}

-- ---- a step that was done

pub done_live : (c : ℕ) (g h : GuestView) (a b : Streams) → StepCall (Ok true) c g h a b → h.live ≡ true
done_live c g h a b d = ap (λ (y : GuestView). y.live) d.gives.guest

pub done_steps : (c : ℕ) (g h : GuestView) (a b : Streams) → StepCall (Ok true) c g h a b → h.steps ≡ g.steps + 1
done_steps c g h a b d = ap (λ (y : GuestView). y.steps) d.gives.guest

pub done_bare : (c : ℕ) (g h : GuestView) (a b : Streams) → StepCall (Ok true) c g h a b → h.state ≡ bare h.state
done_bare c g h a b d = ap (λ (y : GuestView). y.state) d.gives.guest ∙ sym (ap (λ (y : GuestView). bare y.state) d.gives.guest)

-- ---- the steps so far

pub takes_none : (g : GuestView) (a : Streams) → TakesSteps 0 g a [] g a
unfolding TakesSteps
takes_none g a = (refl, refl, refl)

pub takes_more : (m n : ℕ) (g k h : GuestView) (edges : List Edge) (a now b : Streams) → m ≡ suc n → TakesSteps n g a edges k now → StepCall (Ok true) 0 k h now b
    → TakesSteps m g a (edges ++ edge_list h.edge) h b
unfolding TakesSteps
takes_more m n g k h edges a now b more w d =
    let P : ℕ → Type 0 = λ m. TakesSteps m g a (edges ++ edge_list h.edge) h b in
    subst P (sym more) (record { first = edges; guest = k; now = now; before = w; step = d; whole = refl })

-- ---- the end

again : (x : answer.Stop) → answer_of (stop_of x) ≡ x
again answers.Budget = refl
again (answers.Exited n) = refl
again (answers.Fault f) = refl

answers_as : (x : answer.Stop) (s : RunState) → stop_of x ≡ s → x ≡ answer_of s
answers_as x s e = sym (again x) ∙ ap answer_of e

-- all steps were taken
pub stands_after : (x : answer.Stop) (m n : ℕ) (g h : GuestView) (edges : List Edge) (a b : Streams) → m ≡ n → TakesSteps m g a edges h b → stop_of x ≡ h.state.stop
    → RunStands x n g h a b
stands_after x m n g h edges a b all w e = record {
  taken = m;
  most = omega (arith, all);
  edges = edges;
  steps = w;
  all = λ running. all;
  answer = answers_as x h.state.stop e;
}

-- the guest has stopped
pub stands_before : (x : answer.Stop) (m n : ℕ) (g k h : GuestView) (edges : List Edge) (a now b : Streams) → m ≤ n → TakesSteps m g a edges k now → StepCall (Ok false) 0 k h now b
    → stop_of x ≡ h.state.stop → RunStands x n g h a b
stands_before x m n g k h edges a now b most w d e =
    let P : GuestView → Type 0 = λ h. RunStands x n g h a b in
    let Q : Streams → Type 0 = λ b. RunStands x n g k a b in
    subst P (sym d.gives.guest) (subst Q (sym d.gives.streams) (record {
      taken = m;
      most = most;
      edges = edges;
      steps = w;
      all = λ running. absurd (d.gives.stopped running);
      answer = answers_as x k.state.stop (e ∙ ap (λ (y : GuestView). y.state.stop) d.gives.guest);
    }))

-- the next step failed
pub breaks_at : (e : SysError) (m n : ℕ) (g k h : GuestView) (edges : List Edge) (a now b : Streams) → m < n → TakesSteps m g a edges k now → StepCall (Err e) 0 k h now b
    → RunBreaks e n g h a b
breaks_at e m n g k h edges a now b less w d = record { taken = m; within = less; edges = edges; last = k; now = now; steps = w; failed = d }
