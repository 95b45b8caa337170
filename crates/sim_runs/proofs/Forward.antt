-- From one move to whole runs.
use Rattle.std.proofs.Common.{◌≡◌, ℕ, zero, suc, ◌+◌, ◌-◌, ◌*◌, ◌<◌, ◌≤◌, List, [], refl, sym, ap, ◌∙◌, subst, arith, ⊎_elim, mul-le-mul_right}
use Rattle.std.proofs.lemmas.Bool.{cases_lt}
use Rattle.br_word.specs.State.{State}
use Rattle.run_model.specs.Run.{observed, run}
use Rattle.sim_runs.specs.Forward.{after, AllGood, Moved, Short, Moves, Mirrors, Forward}
use Rattle.sim_runs.proofs.Runs.{run_on, run_none, good_on}

module _ (W : State → Type 0) (k r : ℕ) (s t : State) (cs : List ℕ) (m : ℕ) where
  -- a moment of the second part
  later : (i : ℕ) → m ≤ i → run i t cs ≡ run (i - m) (run m t cs) (after m cs)
  later i l = let e : i ≡ m + (i - m) = omega arith in ap (λ i. run i t cs) e ∙ run_on m (i - m) t cs

  -- a first part and the rest
  pub then : ((i : ℕ) → i ≤ m → (j : ℕ) × (j ≤ k) × (observed (run i t cs) ≡ observed (run j s []))) → ((i : ℕ) → i < m → W (run i t cs)) → (c : Mirrors W r (run k s []) (run m t cs) (after m cs)) → (d : Mirrors W (k + r) s t cs) × (d.steps ≡ m + c.steps)
  then shows quiet c = (
    record {
      steps = m + c.steps;
      shows = λ i l. ⊎_elim
          (λ (h : i < m). let q = shows i (omega arith) in (q.0, omega (arith, q.1), q.2))
          (λ (h : m ≤ i). let q = c.shows (i - m) (omega arith) in (k + q.0, omega (arith, q.1), ap observed (later i h) ∙ q.2 ∙ sym (ap observed (run_none k q.0 s))))
          (cases_lt i m);
      arrives = ap observed (run_on m c.steps t cs) ∙ c.arrives ∙ sym (ap observed (run_none k r s));
      quiet = λ i l. ⊎_elim
          (λ (h : i < m). quiet i h)
          (λ (h : m ≤ i). subst W (sym (later i h)) (c.quiet (i - m) (omega arith)))
          (cases_lt i m);
    },
    refl,
  )

module _ (good : State → Type 0) (R : State → State → Type 0) (W : State → Type 0) (high : ℕ) (alike : (s t : State) → R s t → observed t ≡ observed s) (moves : Moves good R W high) where
  none : (n : ℕ) (s t : State) (cs : List ℕ) → n < 64 → observed t ≡ observed (run n s []) → Forward W high n s t cs
  none n s t cs l e = record {
    covers = record { steps = 0; shows = λ i h. (n, omega arith, let z : i ≡ 0 = omega arith in ap (λ i. observed (run i t cs)) z ∙ e); arrives = e; quiet = λ i h. absurd (omega arith) };
    bound = omega arith;
    reach = omega arith;
  }

  after_move : (n : ℕ) (s t : State) (cs : List ℕ) (v : Moved R W high n s t cs) → Forward W high (n - v.took) (run v.took s []) (run v.steps t cs) (after v.steps cs) → Forward W high n s t cs
  after_move n s t cs v f =
      let p = then W v.took (n - v.took) s t cs v.steps v.shows v.quiet f.covers in
      let e : v.took + (n - v.took) ≡ n = omega (arith, v.in_time) in
      let b = mul-le-mul_right {m = 1} {n = v.took} high v.some in
      let g : Forward W high (v.took + (n - v.took)) s t cs = record {
        covers = p.0;
        bound = grown v.took (n - v.took) v.steps f.covers.steps p.0.steps p.1 v.some v.bound f.bound;
        reach = omega (arith, p.1, f.reach, v.going, v.few);
      } in
      subst (λ n. Forward W high n s t cs) e g
    where
      grown : (a b x y z : ℕ) → z ≡ x + y → 0 < a → x ≤ high → y ≤ high * b → z ≤ high * (a + b)
      grown a b x y z e l h k = let p = mul-le-mul_right {m = 1} {n = a} high l in grind (arith, e)

  pub forward : (fuel n : ℕ) (s t : State) (cs : List ℕ) → n ≤ fuel → R s t → AllGood good n s → Forward W high n s t cs
  forward fuel zero s t cs l rel g = none 0 s t cs (omega arith) (alike s t rel)
  forward zero (suc n) s t cs l rel g = absurd (omega arith)
  forward (suc fuel) (suc n) s t cs l rel g = ⊎_elim
      (λ (v : Moved R W high (suc n) s t cs).
      let e : v.took + (suc n - v.took) ≡ suc n = omega (arith, v.in_time) in
      let h = good_on good v.took (suc n - v.took) s (subst (λ k. AllGood good k s) (sym e) g) in
      after_move (suc n) s t cs v (forward fuel (suc n - v.took) _ _ (after v.steps cs) (omega (arith, v.some)) v.next h))
      (λ (q : Short (suc n) s). none (suc n) s t cs q.few (alike s t rel ∙ sym q.same))
      (moves s t cs (suc n) (omega arith) rel g)
