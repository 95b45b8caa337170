-- The whole theorem from the entry and one move.
use Rattle.std.proofs.Common.{◌≡◌, ℕ, zero, suc, ◌+◌, ◌*◌, ◌<◌, ◌≤◌, List, [], ◌∷◌, ◌++◌, subst, arith, mul-le-mul_right}
use Rattle.br_word.specs.State.{State}
use Rattle.run_model.specs.Run.{observed, run, WellDefined}
use Rattle.ia_inst.specs.Step.{step, IsWellDefined}
use Rattle.sim_runs.specs.Forward.{after, AllGood, Moves}
use Rattle.run_model.specs.Edges.{Edge, edge_of, edges_from}
use Rattle.sim_laws.specs.Covers.{AllIn}
use Rattle.sim_runs.specs.Whole.{Entered, Begun, IsKept}
use Rattle.sim_runs.proofs.Forward.{forward, then}

pub all_fine : (n : ℕ) (s : State) → WellDefined n s → AllGood IsWellDefined n s
all_fine zero s t = tt
all_fine (suc n) s t = (t.0, all_fine n (step s 0) t.1)

all_front : (set es fs : List Edge) → AllIn set (es ++ fs) → AllIn set es × AllIn set fs
all_front set [] fs h = (tt, h)
all_front set (e ∷ es) fs h = let r = all_front set es fs h.1 in ((h.0, r.0), r.1)

pub all_keep : (set : List Edge) (n : ℕ) (s : State) → WellDefined n s → AllIn set (edges_from n s) → AllGood (IsKept set) n s
all_keep set zero s t h = tt
all_keep set (suc n) s t h =
    let r = all_front set (edge_of s.stop s 0) (edges_from n (step s 0)) h in
    (record { fine = t.0; keeps = r.0 }, all_keep set n (step s 0) t.1 r.1)

module _ (good : State → Type 0) (R : State → State → Type 0) (W : State → Type 0) (top high : ℕ) (alike : (s t : State) → R s t → observed t ≡ observed s) (moves : Moves good R W high) where
  pub begun : (n : ℕ) (s t : State) (cs : List ℕ) → Entered R W top s t cs → AllGood good n s → Begun W top high n s t cs
  begun n s t cs e g =
      let f = forward good R W high alike moves n n s (run e.steps t cs) (after e.steps cs) (omega arith) e.next g in
      let p = then W 0 n s t cs e.steps (λ i l. (0, omega arith, e.shows i l)) e.quiet f.covers in
      let z : 0 + n ≡ n = omega arith in
      subst (λ n. Begun W top high n s t cs) z (record { covers = p.0; bound = rw z (omega (arith, p.1, e.bound, f.bound)); reach = omega (arith, p.1, f.reach, e.going) })

  pub reaches : (len n : ℕ) (s t : State) (cs : List ℕ) → top ≤ len → high ≤ len → Begun W top high n s t cs → (m : ℕ) × (m ≤ len * (n + 1)) × (observed (run m t cs) ≡ observed (run n s [])) × ((m1 : ℕ) → m1 ≤ m → (n1 : ℕ) × (n1 ≤ n) × (observed (run m1 t cs) ≡ observed (run n1 s [])))
  reaches len n s t cs lt lh b = (b.covers.steps, within, b.covers.arrives, b.covers.shows)
    where
      within : b.covers.steps ≤ len * (n + 1)
      within = let p = mul-le-mul_right {m = high} {n = len} n lh in let q = b.bound in grind (arith, lt)

  pub moments : (m : ℕ) (s t : State) (cs : List ℕ) → Begun W top high (64 * (m + 1)) s t cs → (n : ℕ) × (n ≤ 64 * (m + 1)) × (observed (run m t cs) ≡ observed (run n s []))
  moments m s t cs b = b.covers.shows m (omega (arith, b.reach))

  pub untouched : (m : ℕ) (s t : State) (cs : List ℕ) → Begun W top high (64 * (m + 1)) s t cs → (k : ℕ) → k < m → W (run k t cs)
  untouched m s t cs b k l = b.covers.quiet k (omega (arith, b.reach))

-- the simulation, for the two claims at once: where leaving the recovered code may happen, or may not
pub record Simulates (R : State → State → Type 0) (good : State → Type 0) (W : State → Type 0) (top high : ℕ) (s t : State) : Type 0 where
  pub alike : (s t : State) → R s t → observed t ≡ observed s
  pub moves : Moves good R W high
  pub enters : (cs : List ℕ) → Entered R W top s t cs
