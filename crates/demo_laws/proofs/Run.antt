-- The run of the demonstration, for any number of steps.
use Rattle.std.proofs.Common.{◌≡◌, ℕ, ◌+◌, ◌-◌, ◌<◌, ◌≤◌, [], ◌∷◌, ◌++◌, ◌⊎◌, inl, inr, sym, ap, ◌∙◌, subst, arith, append-nil}
use Rattle.br_word.specs.State.{State, Exited}
use Rattle.run_model.specs.Edges.{edges_from}
use Rattle.run_model.specs.Opening.{arguments, opening, opening_of, exe_or_none, guest_of}
use Rattle.run_model.specs.Run.{observed, run, WellDefined}
use Rattle.run_model.specs.Split.{RunsSplit, EdgesSplit, WellDefinedSplits}
use Rattle.elf_flat.specs.Flat.{flat_entry}
use Rattle.demo_gen.specs.Demonstration.{demo_file}
use Rattle.demo_laws.proofs.Goes.{Goes, rests, no_choice}
use Rattle.demo_laws.proofs.Calls.{Whole, whole}
use Rattle.demo_laws.specs.Accepted.{demo_of, IsDemoAccepted}
use Rattle.demo_laws.specs.Sites.{HasDemoSites}
use Rattle.demo_laws.specs.Runs.{edges_after, IsDemoRun}

split : (n m : ℕ) → (n < m) ⊎ (m ≤ n)
split n m = grind arith

module _ (splits : RunsSplit) (joins : EdgesSplit) (both : WellDefinedSplits) (count : ℕ) (few : count ≤ 1000) (sites : HasDemoSites count) (ok : IsDemoAccepted count) where
  abbrev First : State
  First = opening_of (demo_file count) [] []

  abbrev W : Type 0
  W = Whole splits joins both count few sites

  opens : First ≡ opening (demo_of count) (arguments []) []
  opens = ap (λ r. opening (exe_or_none r) (arguments []) []) ok.guest

  guest_entry : (guest_of (demo_file count)).entry ≡ flat_entry
  guest_entry = ap (λ r. (exe_or_none r).entry) ok.guest

  module _ (w : W) where
    goes : Goes w.steps First w.last (edges_after count count)
    goes = subst (λ s. Goes w.steps s w.last (edges_after count count)) (sym opens) w.goes

    exited : w.last.stop ≡ Exited 0
    exited = ap (λ o. o.stop) w.shown

    -- some steps more
    there : (n : ℕ) → w.steps ≤ n → run n First [] ≡ w.last
    there n h =
        let k = n - w.steps in
        let e : n ≡ w.steps + k = omega (arith, h) in
        ap (λ n. run n First []) e ∙ splits w.steps k First [] ∙ ap (λ cs. run k (run w.steps First []) cs) (no_choice splits joins both w.steps)
        ∙ ap (λ s. run k s []) goes.comes ∙ (rests k w.last 0 exited).comes

    found : (n : ℕ) → w.steps ≤ n → edges_from n First ≡ edges_after count count
    found n h =
        let k = n - w.steps in
        let e : n ≡ w.steps + k = omega (arith, h) in
        ap (λ n. edges_from n First) e ∙ joins w.steps k First ∙ ap (λ s. edges_from w.steps First ++ edges_from k s) goes.comes
        ∙ ap (λ es. edges_from w.steps First ++ es) (rests k w.last 0 exited).edges ∙ append-nil (edges_from w.steps First) ∙ goes.edges

    defined : (n : ℕ) → WellDefined n First
    defined n = by_case (split n w.steps)
      where
        by_case : (n < w.steps) ⊎ (w.steps ≤ n) → WellDefined n First
        by_case (inl l) =
            let e : w.steps ≡ n + (w.steps - n) = omega (arith, l) in
            ((both n (w.steps - n) First).0 (subst (λ m. WellDefined m First) e goes.defined)).0
        by_case (inr l) =
            let k = n - w.steps in
            let e : w.steps + k ≡ n = omega (arith, l) in
            subst (λ m. WellDefined m First) e ((both w.steps k First).1 (goes.defined, subst (WellDefined k) (sym goes.comes) (rests k w.last 0 exited).defined))

    runs : IsDemoRun count
    runs = record {
      defined = defined;
      steps = w.steps;
      few = w.bound;
      before = goes.before;
      shown = λ n h. ap observed (there n h) ∙ w.shown;
      edges = λ n h. ap (λ a. (0, a) ∷ edges_from n First) guest_entry ∙ ap (λ es. (0, flat_entry) ∷ es) (found n h);
    }

  pub demo_runs : IsDemoRun count
  demo_runs = runs (whole splits joins both count few sites)
