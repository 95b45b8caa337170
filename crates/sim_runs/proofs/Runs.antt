-- Runs in parts.
use Rattle.std.proofs.Common.{◌≡◌, ℕ, zero, suc, ◌+◌, ◌≤◌, List, [], drop, refl, ap, ◌∙◌, subst, arith}
use Rattle.br_word.specs.State.{State}
use Rattle.ia_inst.specs.Step.{step}
use Rattle.run_model.specs.Run.{first_choice, run}
use Rattle.sim_runs.specs.Forward.{after, AllGood}

pub run_on : (a b : ℕ) (s : State) (cs : List ℕ) → run (a + b) s cs ≡ run b (run a s cs) (after a cs)
run_on zero b s cs = let e : zero + b ≡ b = omega arith in ap (λ k. run k s cs) e
run_on (suc a) b s cs =
    let e : suc a + b ≡ suc (a + b) = omega arith in
    ap (λ k. run k s cs) e ∙ run_on a b (step s (first_choice cs)) (drop 1 cs)

pub after_none : (a : ℕ) → after a [] ≡ []
after_none zero = refl
after_none (suc a) = after_none a

pub run_none : (a b : ℕ) (s : State) → run (a + b) s [] ≡ run b (run a s []) []
run_none a b s = run_on a b s [] ∙ ap (λ cs. run b (run a s []) cs) (after_none a)

pub good_on : (good : State → Type 0) (a b : ℕ) (s : State) → AllGood good (a + b) s → AllGood good b (run a s [])
good_on good zero b s g = let e : zero + b ≡ b = omega arith in subst (λ k. AllGood good k s) e g
good_on good (suc a) b s g =
    let e : suc a + b ≡ suc (a + b) = omega arith in
    let h : AllGood good (suc (a + b)) s = subst (λ k. AllGood good k s) e g in
    good_on good a b (step s 0) h.1

pub good_less : (good : State → Type 0) (n k : ℕ) (s : State) → k ≤ n → AllGood good n s → AllGood good k s
good_less good n zero s h g = tt
good_less good zero (suc k) s h g = absurd (omega arith)
good_less good (suc n) (suc k) s h g = (g.0, good_less good n k (step s 0) (omega arith) g.1)
