-- Runs of recovered code that lead somewhere, in the simulation's words.
use Rattle.std.proofs.Common.{◌≡◌, ℕ, zero, suc, ◌+◌, ◌<◌, ◌≤◌, List, [], ◌∷◌, ◌++◌, drop, length, sym, ap, ◌∙◌, subst, arith, ⊎_elim}
use Rattle.std.proofs.lemmas.Bool.{cases_lt}
use Rattle.br_word.specs.State.{State}
use Rattle.ia_inst.specs.Step.{step}
use Rattle.run_model.specs.Run.{Observation, observed, first_choice, run}
use Rattle.code_laws.specs.Seen as seen
use Rattle.code_laws.specs.Seen.{Quiet}
use Rattle.sim_runs.specs.Laws.{Leads}

led : (W P : State → Type 0) (n : ℕ) (s : State) (cs : List ℕ) → seen.Leads W P n s cs → P (run n s cs) × ((i : ℕ) → i < n → W (run i s cs))
unfolding seen.Leads
led W P zero s cs l = (l, λ i h. absurd (omega arith))
led W P (suc n) s cs l =
    let r = led W P n (step s (first_choice cs)) (drop 1 cs) l.1 in
    (r.0, before r.1)
  where
    before : ((i : ℕ) → i < n → W (run i (step s (first_choice cs)) (drop 1 cs))) → (i : ℕ) → i < suc n → W (run i s cs)
    before h zero b = l.0
    before h (suc i) b = h i (omega arith)

-- within so many steps, from where this shows
pub leads_within : (v : Observation) (P Q : State → Type 0) (n high : ℕ) (s : State) (cs : List ℕ) → observed s ≡ v → ((t : State) → P t → observed t ≡ v) → ((t : State) → P t → Q t) → 0 < n → n ≤ high → seen.Leads (Quiet v) P n s cs → Leads Q high s cs
leads_within v P Q n high s cs now shown to some top l =
    let r = led (Quiet v) P n s cs l in
    record {
      steps = n;
      going = some;
      bound = top;
      shows = λ i k. ⊎_elim
          (λ (c : i < n). (r.1 i c).shows ∙ sym now)
          (λ (c : n ≤ i). let z : i ≡ n = omega arith in ap (λ i. observed (run i s cs)) z ∙ shown (run n s cs) r.0 ∙ sym now)
          (cases_lt i n);
      inside = λ i k. (r.1 i k).in_code;
      there = to (run n s cs) r.0;
    }
