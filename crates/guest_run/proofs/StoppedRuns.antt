-- Runs by whether the guest still runs: one that has stopped takes no step.
use Rattle.std.proofs.Common.{◌≡◌, ℕ, zero, suc, ◌+◌, [], Option, refl, ◌∙◌, ap}
use Rattle.br_word.specs.Words.{bit}
use Rattle.br_word.specs.State.{State, RunState, Running, Exited, Faulted}
use Rattle.ia_inst.specs.Step.{unless_stopped, settled, step_result, step}
use Rattle.run_model.specs.Edges.{Edge}
use Rattle.run_model.specs.Run.{run}
use Rattle.guest_run.specs.Guest.{reads_undefined, while_running, steps_taken, undefined_taken, edge_after}

running_none : {A : Type 0} (x : RunState) (go stay : A) → (x ≡ Running → ⊥) → while_running x go stay ≡ stay
running_none Running go stay h = absurd (h refl)
running_none (Exited n) go stay h = refl
running_none (Faulted f) go stay h = refl

pub running_some : {A : Type 0} (x : RunState) (go stay : A) → x ≡ Running → while_running x go stay ≡ go
running_some x go stay h = ap (λ y. while_running y go stay) h

unless_none : (x : RunState) (s t : State) → (x ≡ Running → ⊥) → unless_stopped x s t ≡ s
unless_none Running s t h = absurd (h refl)
unless_none (Exited n) s t h = refl
unless_none (Faulted f) s t h = refl

step_none : (s : State) → (s.stop ≡ Running → ⊥) → step s 0 ≡ s
unfolding step
step_none s h = unless_none s.stop s (settled (step_result s 0) s) h

pub run_none : (n : ℕ) (s : State) → (s.stop ≡ Running → ⊥) → run n s [] ≡ s
run_none zero s h = refl
run_none (suc n) s h = ap (λ t. run n t []) (step_none s h) ∙ run_none n s h

pub steps_none : (n : ℕ) (s : State) → (s.stop ≡ Running → ⊥) → steps_taken n s ≡ 0
steps_none zero s h = refl
steps_none (suc n) s h = running_none s.stop _ 0 h

pub undefined_none : (n : ℕ) (s : State) → (s.stop ≡ Running → ⊥) → undefined_taken n s ≡ 0
undefined_none zero s h = refl
undefined_none (suc n) s h = running_none s.stop _ 0 h

pub edge_none : (n : ℕ) (s : State) (d : Option Edge) → (s.stop ≡ Running → ⊥) → edge_after n s d ≡ d
edge_none zero s d h = refl
edge_none (suc n) s d h = running_none s.stop _ d h

-- a guest that runs takes a step

pub steps_first : (n : ℕ) (s : State) → s.stop ≡ Running → steps_taken (suc n) s ≡ 1 + steps_taken n (step s 0)
steps_first n s h = running_some s.stop (1 + steps_taken n (step s 0)) 0 h

pub undefined_first : (n : ℕ) (s : State) → s.stop ≡ Running → undefined_taken (suc n) s ≡ bit (reads_undefined s) + undefined_taken n (step s 0)
undefined_first n s h = running_some s.stop (bit (reads_undefined s) + undefined_taken n (step s 0)) 0 h
