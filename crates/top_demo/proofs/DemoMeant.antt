-- What `demo` answers means what it is to mean.
use Rattle.std.proofs.Common.{◌≡◌, ℕ, Some, Result, Ok, Err, refl, sym, ◌∙◌, subst, inl, inr, arith}
use Rattle.br_outside.specs.Outside.{StreamView, Gave}
use Rattle.br_outside.specs.declared.errors.SinkError.{SinkError}
use Rattle.br_outside.specs.declared.errors.SinkError.TheVariants as sink_errors
use Rattle.top_plan.specs.World.{World, on_out, on_report}
use Rattle.top_plan.specs.Texts.{WorkEnd, halt_text}
use Rattle.top_plan.specs.Plan.{Ends, Went, AfterGive}
use Rattle.top_plan.specs.Happened.{Reported, Happened}
use Rattle.top_plan.specs.Expected.{HasFailed, NoInput}
use Rattle.top_plan.specs.declared.ends.Halt.TheVariants.{Outside, Memory}
use Rattle.top_plan.specs.declared.ends.Object.TheVariants as objects
use Rattle.top_plan.proofs.Telling.{HowTold, Taken, Refused, Lacked, how_told}
use Rattle.top_demo.specs.declared.command.TheConstants.{ORIGINAL_STEPS, REBUILT_STEPS}
use Rattle.top_demo.specs.DemoPlan.{demo_line, demo_plan}
use Rattle.top_demo.proofs.LineMade.{done}
use Rattle.top_demo.specs.DemoMeaning.{ShowTheSame, MeansDemo}

-- it takes nothing of the input
pub demo_quiet : (count : ℕ) → NoInput (demo_plan count)
unfolding NoInput
demo_quiet count = tt

-- ---- the work was not done

-- it is reported, after a world in which the output may have failed
module _ (count : ℕ) (s : World) (v : StreamView) where
  memory_told : (result : ℕ) (r : StreamView) → HowTold (Some (halt_text Memory)) 4 s.report result r → MeansDemo count s result (on_report (on_out s v) r)
  memory_told result r (Taken is grew same) = record {
    answers = inr (inr is);
    done = λ zero. absurd (let z : 4 ≡ 0 = sym is ∙ zero in omega arith);
    outside = λ three. absurd (let z : 4 ≡ 3 = sym is ∙ three in omega arith);
    shelf = refl;
    input = refl;
  }
  memory_told result r (Refused is rose loud) = record {
    answers = inr (inl is);
    done = λ zero. absurd (let z : 3 ≡ 0 = sym is ∙ zero in omega arith);
    outside = λ three. inr (record { rose = rose; loud = loud });
    shelf = refl;
    input = refl;
  }
  memory_told result r (Lacked is same) = record {
    answers = inr (inr is);
    done = λ zero. absurd (let z : 4 ≡ 0 = sym is ∙ zero in omega arith);
    outside = λ three. absurd (let z : 4 ≡ 3 = sym is ∙ three in omega arith);
    shelf = refl;
    input = refl;
  }

  output_told : (result : ℕ) (r : StreamView) → HasFailed objects.Output s (on_report (on_out s v) r) → HowTold (Some (halt_text (Outside objects.Output))) 3 s.report result r → MeansDemo count s result (on_report (on_out s v) r)
  output_told result r failed (Taken is grew same) = record {
    answers = inr (inl is);
    done = λ zero. absurd (let z : 3 ≡ 0 = sym is ∙ zero in omega arith);
    outside = λ three. inl failed;
    shelf = refl;
    input = refl;
  }
  output_told result r failed (Refused is rose loud) = record {
    answers = inr (inl is);
    done = λ zero. absurd (let z : 3 ≡ 0 = sym is ∙ zero in omega arith);
    outside = λ three. inl failed;
    shelf = refl;
    input = refl;
  }
  output_told result r failed (Lacked is same) = record {
    answers = inr (inr is);
    done = λ zero. absurd (let z : 4 ≡ 0 = sym is ∙ zero in omega arith);
    outside = λ three. absurd (let z : 4 ≡ 3 = sym is ∙ three in omega arith);
    shelf = refl;
    input = refl;
  }

  -- ---- the end in a world with this output

  by_memory : (o : WorkEnd) (m : World) (result : ℕ) (t : World) → o ≡ Err Memory → m ≡ on_out s v → Reported o m result t → MeansDemo count s result t
  by_memory o m result t ends at reported =
      let P : World → Type 0 = λ m. Reported (Err Memory) m result t in
      let Q : WorkEnd → Type 0 = λ o. Reported o m result t in
      let told : Reported (Err Memory) (on_out s v) result t = subst P at (subst Q ends reported) in
      let R : World → Type 0 = λ t. MeansDemo count s result t in
      subst R (sym told.2) (memory_told result told.0 (how_told (Some (halt_text Memory)) 4 s.report result told.0 told.1))

  by_output : (o : WorkEnd) (m : World) (result : ℕ) (t : World) → o ≡ Err (Outside objects.Output) → m ≡ on_out s v → ((r : StreamView) → HasFailed objects.Output s (on_report (on_out s v) r)) → Reported o m result t → MeansDemo count s result t
  by_output o m result t ends at failed reported =
      let P : World → Type 0 = λ m. Reported (Err (Outside objects.Output)) m result t in
      let Q : WorkEnd → Type 0 = λ o. Reported o m result t in
      let told : Reported (Err (Outside objects.Output)) (on_out s v) result t = subst P at (subst Q ends reported) in
      let R : World → Type 0 = λ t. MeansDemo count s result t in
      subst R (sym told.2) (output_told result told.0 (failed told.0) (how_told (Some (halt_text (Outside objects.Output))) 3 s.report result told.0 told.1))

  by_done : ShowTheSame count ORIGINAL_STEPS REBUILT_STEPS → Gave (demo_line count) (Ok tt) s.out v → (o : WorkEnd) (m : World) (result : ℕ) (t : World) → o ≡ Ok done → m ≡ on_out s v → Reported o m result t → MeansDemo count s result t
  by_done same gave o m result t ends at reported =
      let P : World → Type 0 = λ m. Reported (Ok done) m result t in
      let Q : WorkEnd → Type 0 = λ o. Reported o m result t in
      let told : Reported (Ok done) (on_out s v) result t = subst P at (subst Q ends reported) in
      let R : World → Type 0 = λ t. MeansDemo count s result t in
      subst R (sym told.2) (record {
        answers = inl told.1.0;
        done = λ zero. record { out = gave.gives.0; report = told.1.1; same = same };
        outside = λ three. absurd (let z : 0 ≡ 3 = sym told.1.0 ∙ three in omega arith);
        shelf = refl;
        input = refl;
      })

-- what follows the print, by its answer
by_answer : (count : ℕ) (s : World) (v : StreamView) (answer : Result (Unit {0}) SinkError) → ShowTheSame count ORIGINAL_STEPS REBUILT_STEPS → Gave (demo_line count) answer s.out v
    → (o : WorkEnd) (m : World) (result : ℕ) (t : World) → AfterGive objects.Output (Went (Ends (Ok done))) answer (on_out s v) o m → Reported o m result t → MeansDemo count s result t
unfolding Went
by_answer count s v (Ok u) same gave o m result t (inl none) reported = by_memory count s v o m result t none.0 none.1 reported
by_answer count s v (Ok u) same gave o m result t (inr all) reported = by_done count s v same gave o m result t all.0 all.1 reported
by_answer count s v (Err sink_errors.Failed) same gave o m result t after reported =
    by_output count s v o m result t after.0 after.1 (λ r. record { rose = gave.gives.1; loud = gave.gives.2 }) reported
by_answer count s v (Err sink_errors.Memory) same gave o m result t after reported = by_memory count s v o m result t after.0 after.1 reported

by_way : (count : ℕ) (s : World) (o : WorkEnd) (m : World) (result : ℕ) (t : World) → ShowTheSame count ORIGINAL_STEPS REBUILT_STEPS → Reported o m result t → Went (demo_plan count) s o m → MeansDemo count s result t
unfolding Went
by_way count s o m result t same reported (inl none) = by_memory count s s.out o m result t none.0 none.1 reported
by_way count s o m result t same reported (inr (v, answer, gave, after)) = by_answer count s v answer same gave o m result t after reported

pub means_demo : (count : ℕ) (s : World) (result : ℕ) (t : World) → ShowTheSame count ORIGINAL_STEPS REBUILT_STEPS → Happened (demo_plan count) s result t → MeansDemo count s result t
means_demo count s result t same (o, m, went, reported) = by_way count s o m result t same reported went
