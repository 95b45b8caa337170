-- The two claims on the image.
use Rattle.std.proofs.Common.{◌≡◌, ℕ, zero, suc, ◌+◌, ◌<◌, ◌≤◌, Bool, true, false, List, [], refl, ap, ◌∙◌, arith, ⊎_elim, inl, inr}
use Rattle.std.proofs.lemmas.Bool.{cases_Bool}
use Rattle.std.specs.Prelude.{if◌then◌else◌}
use Rattle.br_word.specs.State.{State, Running}
use Rattle.run_model.specs.Run.{observed, run}
use Rattle.ia_inst.specs.Step.{step, IsWellDefined}
use Rattle.sim_runs.specs.Forward.{AllGood, Moved, Short, Moves}
use Rattle.run_model.specs.Edges.{Edge}
use Rattle.sim_runs.specs.Whole.{Entered, IsKept}
use Rattle.sim_runs.specs.Relation.{Plan, Related, at_block, at_native, at_copy, gone, over, doomed, IsBeside, aside}
use Rattle.sim_runs.specs.Laws.{Leads, Captured, Original, Laid, Starts, PlainLaws, IslandLaws, IsIndirect, CopyLaws, in_copy}
use Rattle.sim_runs.specs.Leaving.{Anything, IsBelow, Claim}
use Rattle.sim_runs.specs.Image.{Opening}
use Rattle.sim_runs.proofs.Moves.{alike, over_move, gone_move, native_move, island_move, landed, copy_move, plain_move, captured_block}
use Rattle.sim_runs.proofs.Whole.{Simulates}

more : (R : State → State → Type 0) (W : State → Type 0) (h high left : ℕ) (s t : State) (cs : List ℕ) → h ≤ high → Moved R W h left s t cs → Moved R W high left s t cs
more R W h high left s t cs l m = record {
  took = m.took;
  steps = m.steps;
  some = m.some;
  few = m.few;
  in_time = m.in_time;
  going = m.going;
  bound = omega (arith, m.bound);
  shows = m.shows;
  quiet = m.quiet;
  next = m.next;
}

module _ (plan : Plan) (Static : State → Type 0) (plain turn opening closing top high : ℕ) (orig : Original Static) (laid : Laid plan) (laws : PlainLaws plan Static plain) (copies : CopyLaws plan Static turn) (islands : IslandLaws plan Static opening closing) (bound_plain : plain + turn ≤ high) (bound_island : opening + (1 + closing) ≤ high) where
  module _ (good W : State → Type 0) (may : Type 0) (claim : Claim plan Static good W may) where
    first : (left : ℕ) (s : State) → 0 < left → AllGood good left s → good s
    first zero s l g = absurd (omega arith)
    first (suc n) s l g = g.0

    pub moves : Moves good (Related plan Static W may) W high
    moves s t cs left l (at_block x h) g = ⊎_elim
        (λ (i : plan.is_island x ≡ true). inl (more _ W (opening + (1 + closing)) high left s t cs bound_island (island_move plan Static good W may claim orig laid opening closing islands x s t cs left l (first left s l g) i h)))
        (λ (i : plan.is_island x ≡ false). ⊎_elim
        (λ m. inl (more _ W (plain + turn) high left s t cs bound_plain m))
        (λ (q : Short left s). inr q)
        (plain_move plan Static good W may claim orig laid plain laws turn copies x s t cs left l g i h))
        (cases_Bool (plan.is_island x))
    moves s t cs left l (at_native x h) g = inl (more _ W (1 + closing) high left s t cs (omega arith) (native_move plan Static good W may claim orig laid opening closing islands x s t cs left l (first left s l g) h))
    moves s t cs left l (at_copy x k h) g = inl (more _ W turn high left s t cs (omega (arith, bound_plain)) (copy_move plan Static good W may claim orig turn copies x k s t cs left l (first left s l g) h))
    moves s t cs left l (gone m own e h w) g = inl (gone_move plan Static good W may claim laid.low high (omega arith) m s t cs left own l e h (claim.fine s (first left s l g)) w)
    moves s t cs left l (over h) g = inl (over_move plan Static good W may claim laid.low high (omega arith) s t cs left l h)
    moves s t cs left l (doomed h) g = absurd (h.doomed (claim.fine s (first left s l g)))

    pub enters : (s t : State) → Opening plan Static top s t → (plan.is_start s.eip ≡ false → plan.cold s.eip ≡ false → may) → (cs : List ℕ) → Entered (Related plan Static W may) W top s t cs
    enters s t o m cs = ⊎_elim
        (λ (b : plan.is_start s.eip ≡ true). begins (Captured plan s.eip s.regions t) (o.captured b cs) (λ u c. at_block s.eip (captured_block plan Static s.eip s t u o.own o.wider.flags o.wider.marks 0x01000000 b o.static o.goes refl o.wider.same o.wider.agree c)))
        (λ (b : plan.is_start s.eip ≡ false). begins (λ u. IsBeside plan o.own (aside plan s.eip) s u) (o.jumps b cs) (λ u w. beside b u (plan.cold s.eip) refl w))
        (cases_Bool (plan.is_start s.eip))
      where
        beside : plan.is_start s.eip ≡ false → (u : State) (c : Bool) → plan.cold s.eip ≡ c → IsBeside plan o.own (if c then plan.copy s.eip 0 else s.eip) s u → Related plan Static W may s u
        beside b u true e w = landed plan Static good W may claim orig turn copies s u o.static o.goes (in_copy e (record { own = o.own; ready = o.ready; wider = w }))
        beside b u false e w = gone (m b e) o.own o.ready.size (orig.high s o.static) w

        begins : (P : State → Type 0) → Leads P top t cs → ((u : State) → P u → Related plan Static W may s u) → Entered (Related plan Static W may) W top s t cs
        begins P l f = record {
          steps = l.steps;
          going = l.going;
          bound = l.bound;
          shows = λ i b. l.shows i b ∙ ap observed o.wider.same;
          quiet = λ i b. claim.low _ (l.inside i b);
          next = f _ l.there;
        }

    pub simulated : (s t : State) → Opening plan Static top s t → (plan.is_start s.eip ≡ false → plan.cold s.eip ≡ false → may) → Simulates (Related plan Static W may) good W top high s t
    simulated s t o m = record { alike = alike plan Static good W may; moves = moves; enters = enters s t o m }

  pub fine_claim : Claim plan Static IsWellDefined Anything (Unit {0})
  fine_claim = record { fine = λ s g. g; low = λ t l. tt; gone = λ m t. tt; leaves = λ x s a f g n. inl tt; lost = λ x k s t h g i r a c. inl tt }

  -- no original instruction is run while the edges are kept to
  module _ (set : List Edge) (never : (x : ℕ) (s : State) → Starts plan Static x s → AllGood (IsKept set) (plan.count x) s → plan.knows x (run (plan.count x) s []).eip ≡ false → plan.beyond x (run (plan.count x) s []).eip ≡ (run (plan.count x) s []).eip → IsWellDefined (run (plan.count x) s []) → ⊥)
      (nowhere : (s : State) → Static s → s.stop ≡ Running → IsKept set s → IsIndirect s → (step s 0).stop ≡ Running → plan.is_start (step s 0).eip ≡ false → plan.cold (step s 0).eip ≡ false → IsWellDefined (step s 0) → ⊥) where
    pub kept_claim : Claim plan Static (IsKept set) IsBelow ⊥
    kept_claim = record {
      fine = λ s g. g.fine;
      low = λ t l i. absurd (omega (arith, l, i));
      gone = λ m t. absurd m;
      leaves = λ x s a g u n. inr (never x s a g u n);
      lost = λ x k s t h g i r a c. inr (nowhere s h.static h.goes g i r a c);
    }
