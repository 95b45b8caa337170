-- A run of n steps, where n is m + j, is a run of m steps and then one of j.
use Rattle.std.proofs.Common.{◌≡◌, ℕ, zero, suc, ◌+◌, [], ◌++◌, Option, refl, sym, ◌∙◌, ap, arith, append_assoc}
use Rattle.br_word.specs.Words.{bit}
use Rattle.br_word.specs.State.{State, RunState, Running, Exited, Faulted}
use Rattle.ia_inst.specs.Step.{step}
use Rattle.run_model.specs.Edges.{Edge, edge_of, edges_from}
use Rattle.run_model.specs.Run.{run}
use Rattle.guest_run.specs.Guest.{first_edge, reads_undefined, steps_taken, undefined_taken, edge_after}
use Rattle.guest_run.proofs.StoppedRuns.{running_some, run_none, steps_none, undefined_none, edge_none}

-- a guest that has stopped takes no step
pub edges_none : (n : ℕ) (s : State) → (s.stop ≡ Running → ⊥) → edges_from n s ≡ []
edges_none zero s h = refl
edges_none (suc n) s h = ap (λ xs. xs ++ edges_from n (step s 0)) (of_none s.stop s 0 h) ∙ (ap (λ t. edges_from n t) (run_none 1 s h) ∙ edges_none n s h)
  where
    of_none : (x : RunState) (s : State) (c : ℕ) → (x ≡ Running → ⊥) → edge_of x s c ≡ []
    of_none Running s c h = absurd (h refl)
    of_none (Exited n) s c h = refl
    of_none (Faulted f) s c h = refl

-- a state runs or has stopped
pub data Stands (s : State) : Type 0 where
  StillRuns : s.stop ≡ Running → Stands s
  HasStopped : (s.stop ≡ Running → ⊥) → Stands s

pub stands : (s : State) → Stands s
stands s = go s.stop refl
  where
    go : (x : RunState) → s.stop ≡ x → Stands s
    go Running q = StillRuns q
    go (Exited n) q = HasStopped (λ r. let z = sym q ∙ r in cc)
    go (Faulted f) q = HasStopped (λ r. let z = sym q ∙ r in cc)

pub run_add : (m j n : ℕ) (s : State) → n ≡ m + j → run n s [] ≡ run j (run m s []) []
run_add zero j n s e = let same : n ≡ j = omega (arith, e) in ap (λ k. run k s []) same
run_add (suc m) j zero s e = absurd (omega (arith, e))
run_add (suc m) j (suc n) s e = run_add m j n (step s 0) (omega (arith, e))

pub steps_add : (m j n : ℕ) (s : State) → n ≡ m + j → steps_taken n s ≡ steps_taken m s + steps_taken j (run m s [])
steps_add zero j n s e = let same : n ≡ j = omega (arith, e) in omega (arith, ap (λ k. steps_taken k s) same)
steps_add (suc m) j zero s e = absurd (omega (arith, e))
steps_add (suc m) j (suc n) s e = go (stands s) (steps_add m j n (step s 0) (omega (arith, e)))
  where
    go : Stands s → steps_taken n (step s 0) ≡ steps_taken m (step s 0) + steps_taken j (run m (step s 0) []) → steps_taken (suc n) s ≡ steps_taken (suc m) s + steps_taken j (run (suc m) s [])
    go (StillRuns q) rest = omega (
      arith,
      running_some s.stop (1 + steps_taken n (step s 0)) 0 q,
      running_some s.stop (1 + steps_taken m (step s 0)) 0 q,
      rest,
    )
    go (HasStopped h) rest = omega (arith, steps_none (suc n) s h, steps_none (suc m) s h, steps_none j s h, ap (λ t. steps_taken j t) (run_none (suc m) s h))

pub undefined_add : (m j n : ℕ) (s : State) → n ≡ m + j → undefined_taken n s ≡ undefined_taken m s + undefined_taken j (run m s [])
undefined_add zero j n s e = let same : n ≡ j = omega (arith, e) in omega (arith, ap (λ k. undefined_taken k s) same)
undefined_add (suc m) j zero s e = absurd (omega (arith, e))
undefined_add (suc m) j (suc n) s e = go (stands s) (undefined_add m j n (step s 0) (omega (arith, e)))
  where
    go : Stands s → undefined_taken n (step s 0) ≡ undefined_taken m (step s 0) + undefined_taken j (run m (step s 0) [])
        → undefined_taken (suc n) s ≡ undefined_taken (suc m) s + undefined_taken j (run (suc m) s [])
    go (StillRuns q) rest = omega (
      arith,
      running_some s.stop (bit (reads_undefined s) + undefined_taken n (step s 0)) 0 q,
      running_some s.stop (bit (reads_undefined s) + undefined_taken m (step s 0)) 0 q,
      rest,
    )
    go (HasStopped h) rest = omega (arith, undefined_none (suc n) s h, undefined_none (suc m) s h, undefined_none j s h, ap (λ t. undefined_taken j t) (run_none (suc m) s h))

pub edge_add : (m j n : ℕ) (s : State) (d : Option Edge) → n ≡ m + j → edge_after n s d ≡ edge_after j (run m s []) (edge_after m s d)
edge_add zero j n s d e = let same : n ≡ j = omega (arith, e) in ap (λ k. edge_after k s d) same
edge_add (suc m) j zero s d e = absurd (omega (arith, e))
edge_add (suc m) j (suc n) s d e = go (stands s) (edge_add m j n (step s 0) (first_edge (edge_of s.stop s 0)) (omega (arith, e)))
  where
    f : Option Edge
    f = first_edge (edge_of s.stop s 0)

    go : Stands s → edge_after n (step s 0) f ≡ edge_after j (run m (step s 0) []) (edge_after m (step s 0) f) → edge_after (suc n) s d ≡ edge_after j (run (suc m) s []) (edge_after (suc m) s d)
    go (StillRuns q) rest =
        running_some s.stop (edge_after n (step s 0) f) d q ∙ (rest ∙ ap (λ x. edge_after j (run m (step s 0) []) x) (sym (running_some s.stop (edge_after m (step s 0) f) d q)))
    go (HasStopped h) rest =
        edge_none (suc n) s d h
        ∙ sym (ap (λ t. edge_after j t (edge_after (suc m) s d)) (run_none (suc m) s h) ∙ (edge_none j s (edge_after (suc m) s d) h ∙ edge_none (suc m) s d h))

pub edges_add : (m j n : ℕ) (s : State) → n ≡ m + j → edges_from n s ≡ edges_from m s ++ edges_from j (run m s [])
edges_add zero j n s e = let same : n ≡ j = omega (arith, e) in ap (λ k. edges_from k s) same
edges_add (suc m) j zero s e = absurd (omega (arith, e))
edges_add (suc m) j (suc n) s e =
    ap (λ xs. edge_of s.stop s 0 ++ xs) (edges_add m j n (step s 0) (omega (arith, e)))
    ∙ sym (append_assoc (edge_of s.stop s 0) (edges_from m (step s 0)) (edges_from j (run m (step s 0) [])))

-- a run that still runs has run from its beginning
pub ran_first : (n : ℕ) (s : State) → (run n s []).stop ≡ Running → s.stop ≡ Running
ran_first n s h = go (stands s)
  where
    go : Stands s → s.stop ≡ Running
    go (StillRuns q) = q
    go (HasStopped k) = ap (λ (t : State). t.stop) (sym (run_none n s k)) ∙ h
