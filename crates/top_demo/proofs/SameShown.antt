-- The demonstration and the file that is written for it show the same.
use Rattle.std.proofs.Common.{◌≡◌, ◌<◌, ◌≤◌, ◌+◌, ◌-◌, ◌*◌, ℕ, zero, suc, List, [], drop, refl, sym, ◌∙◌, ap, arith}
use Rattle.std.proofs.lemmas.List.Elements.{All-nil}
use Rattle.br_word.specs.Memory.{AreBytes}
use Rattle.br_word.specs.State.{State, Running, Exited}
use Rattle.run_model.specs.Opening.{opening_of}
use Rattle.run_model.specs.Run.{observed, run, observed_of, AreOfBytes}
use Rattle.run_model.specs.Split.{RunsSplit}
use Rattle.guest_run.proofs.StoppedRuns.{run_none}
use Rattle.trace_file.specs.declared.limits.TheConstants.{FILE_EDGE_LIMIT}
use Rattle.demo_gen.specs.Demonstration.{demo_file}
use Rattle.demo_laws.specs.Runs.{demo_observed}
use Rattle.build_core.specs.ImageQuick.{ImageQuick}
use Rattle.top_demo.specs.DemoRuns.{shown_by, trace_by}
use Rattle.top_demo.specs.DemoPlan.{demo_guest, demo_image}
use Rattle.top_demo.specs.DemoMeaning.{ShowTheSame}
use Rattle.top_demo.proofs.Fits.{Parts, original, is_set, blocks, code, known}

no_choice : (n : ℕ) → let none : List ℕ = [] in drop n none ≡ none
no_choice zero = refl
no_choice (suc n) = refl

-- a run that has exited stays so
stays : RunsSplit → (k m status : ℕ) (s : State) → k ≤ m → (run k s []).stop ≡ Exited status → run m s [] ≡ run k s []
stays splits k m status s le exited =
    let e : m ≡ k + (m - k) = omega (arith, le) in
    let still : (run k s []).stop ≡ Running → ⊥ = λ is. (let z : Exited status ≡ Running = sym exited ∙ is in absurd (cc)) in
    ap (λ m. run m s []) e ∙ splits k (m - k) s [] ∙ ap (λ cs. run (m - k) (run k s []) cs) (no_choice k) ∙ run_none (m - k) (run k s []) still

pub same_shown : Parts → RunsSplit → ImageQuick → (count n m : ℕ) → 1 ≤ count → count ≤ 1000 → 10 + 5 * count ≤ n → n < FILE_EDGE_LIMIT → 16386 * (10 + 5 * count) ≤ m → ShowTheSame count n m
unfolding shown_by
same_shown parts splits quick count n m some few enough less long =
    let a = parts.accepted count some few in
    let r = parts.runs count some few in
    let file = demo_file count in
    let of_bytes : AreOfBytes file [] [] = record { file = a.bytes; words = All-nil AreBytes; input = All-nil (λ b. b < 256) } in
    let q = quick file (demo_guest count) (trace_by (demo_guest count) n) (original parts count n some few enough less) (is_set parts count n some few enough less) (blocks parts count n some few enough less)
    (code parts count n some few enough less) 1 (known parts count n some few enough less) [] [] [] of_bytes r.steps (r.defined r.steps) in
    let reached : observed_of (demo_image count n) [] [] [] q.0.steps ≡ demo_observed count = q.0.same ∙ r.shown r.steps (omega arith) in
    let within : q.0.steps ≤ m = omega (arith, q.1, r.few, long) in
    record {
      original = r.shown n (omega (arith, r.few, enough));
      rebuilt = ap observed (stays splits q.0.steps m 0 (opening_of (demo_image count n) [] []) within (ap (λ o. o.stop) reached)) ∙ reached;
    }
