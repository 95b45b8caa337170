-- No call of a run failed but the one that ended it.
use Rattle.std.proofs.Common.{◌≡◌, ℕ, List, Result, Ok, Err, refl, sym, ◌∙◌, ap, subst, inl, inr}
use Rattle.br_outside.specs.Outside.{ShelfView, StreamView, Rose}
use Rattle.br_outside.specs.declared.errors.ShelfError.TheVariants as shelf_errors
use Rattle.br_outside.specs.declared.errors.StoreError.TheVariants as store_errors
use Rattle.br_outside.specs.declared.errors.SinkError.TheVariants as sink_errors
use Rattle.top_plan.specs.World.{World, on_shelf, on_out, on_report, faults_of}
use Rattle.top_plan.specs.Plan.{Plan, Ends, Fetches, Stores, Prints, Turned, Turns, Script, Went, CallFails, IsAhead, IsTurned, InputFails, OutputFails, ReportFails, TurnRunsOut, GoesOn, FailsInput, FailsOutput, FailsReport, WantsMemory, planned_end}
use Rattle.top_plan.specs.Texts.{Finished, WorkEnd}
use Rattle.top_plan.specs.Steady.{NoneRose, OnlyRose}
use Rattle.top_plan.specs.declared.ends.Halt.TheVariants.{Because, Outside, Memory}
use Rattle.top_plan.specs.declared.ends.Cause.{Cause}
use Rattle.top_plan.specs.declared.ends.Cause.TheVariants.{Limited}
use Rattle.top_plan.specs.declared.ends.Object.{Object}
use Rattle.top_plan.specs.declared.ends.Object.TheVariants as objects
use Rattle.top_plan.specs.declared.ends.Limit.TheVariants as limits

-- which counts rose up to this end of the work
abbrev pub WorkSteady : WorkEnd → World → World → Type 0
WorkSteady (Ok done) s t = NoneRose s t
WorkSteady (Err (Because cause)) s t = NoneRose s t
WorkSteady (Err (Outside x)) s t = OnlyRose x s t
WorkSteady (Err Memory) s t = NoneRose s t

-- ---- counts

pub none_same : (s t : World) → t ≡ s → NoneRose s t
none_same s t same = λ x. ap (faults_of x) same

pub one_later : (x : Object) (s m t : World) → NoneRose s m → OnlyRose x m t → OnlyRose x s t
one_later x s m t none one = record {
  rose = let P : ℕ → Type 0 = λ n. Rose n (faults_of x t) in subst P (none x) one.rose;
  others = λ y other. one.others y other ∙ none y;
}

pub one_still : (x : Object) (s m t : World) → OnlyRose x s m → NoneRose m t → OnlyRose x s t
one_still x s m t one none = record {
  rose = let P : ℕ → Type 0 = λ n. Rose (faults_of x s) n in subst P (sym (none x)) one.rose;
  others = λ y other. none y ∙ one.others y other;
}

shelf_same : (s : World) (v : ShelfView) → v.faults ≡ s.shelf.faults → NoneRose s (on_shelf s v)
shelf_same s v same = elim [ objects.Shelf ↦ same | objects.Input ↦ refl | objects.Output ↦ refl | objects.Report ↦ refl ]

out_same : (s : World) (v : StreamView) → v.faults ≡ s.out.faults → NoneRose s (on_out s v)
out_same s v same = elim [ objects.Shelf ↦ refl | objects.Input ↦ refl | objects.Output ↦ same | objects.Report ↦ refl ]

pub report_same : (s : World) (v : StreamView) → v.faults ≡ s.report.faults → NoneRose s (on_report s v)
report_same s v same = elim [ objects.Shelf ↦ refl | objects.Input ↦ refl | objects.Output ↦ refl | objects.Report ↦ same ]

shelf_rose : (s : World) (v : ShelfView) → Rose s.shelf.faults v.faults → OnlyRose objects.Shelf s (on_shelf s v)
shelf_rose s v rose = record { rose = rose; others = elim [ objects.Shelf ↦ (λ other. absurd (other refl)) | objects.Input ↦ (λ other. refl) | objects.Output ↦ (λ other. refl) | objects.Report ↦ (λ other. refl) ] }

out_rose : (s : World) (v : StreamView) → Rose s.out.faults v.faults → OnlyRose objects.Output s (on_out s v)
out_rose s v rose = record { rose = rose; others = elim [ objects.Shelf ↦ (λ other. refl) | objects.Input ↦ (λ other. refl) | objects.Output ↦ (λ other. absurd (other refl)) | objects.Report ↦ (λ other. refl) ] }

-- ---- steps and ends

-- steps before the rest of a run
pub steady_later : (o : WorkEnd) (s m t : World) → NoneRose s m → WorkSteady o m t → WorkSteady o s t
steady_later (Ok done) s m t none rest = λ x. rest x ∙ none x
steady_later (Err (Because cause)) s m t none rest = λ x. rest x ∙ none x
steady_later (Err (Outside x)) s m t none rest = one_later x s m t none rest
steady_later (Err Memory) s m t none rest = λ x. rest x ∙ none x

-- steps behind it
steady_still : (o : WorkEnd) (s m t : World) → WorkSteady o s m → NoneRose m t → WorkSteady o s t
steady_still (Ok done) s m t first none = λ x. none x ∙ first x
steady_still (Err (Because cause)) s m t first none = λ x. none x ∙ first x
steady_still (Err (Outside x)) s m t first none = one_still x s m t first none
steady_still (Err Memory) s m t first none = λ x. none x ∙ first x

-- an end after steps that did not fail
quiet_end : (o e : WorkEnd) (s m t : World) → o ≡ e → t ≡ m → WorkSteady e s m → WorkSteady o s t
quiet_end o e s m t is same h =
    let P : WorkEnd → Type 0 = λ o. WorkSteady o s t in
    let Q : World → Type 0 = λ t. WorkSteady e s t in
    subst P (sym is) (subst Q (sym same) h)

planned_steady : (end : Result Finished Cause) (s : World) → WorkSteady (planned_end end) s s
planned_steady (Ok done) s = none_same s s refl
planned_steady (Err cause) s = none_same s s refl

runs_out : (o : WorkEnd) (s m t : World) → NoneRose s m → (o ≡ Err Memory) × (t ≡ m) → WorkSteady o s t
runs_out o s m t none out = quiet_end o (Err Memory) s m t out.0 out.1 none

fails : (x : Object) (o : WorkEnd) (s m t : World) → OnlyRose x s m → CallFails x m o t → WorkSteady o s t
fails x o s m t one out = quiet_end o (Err (Outside x)) s m t out.0 out.1 one

-- ---- a turn

-- the same, by what each of the four was
all_same : (s m : World) → m.shelf ≡ s.shelf → m.input.faults ≡ s.input.faults → m.out.faults ≡ s.out.faults → m.report.faults ≡ s.report.faults → NoneRose s m
all_same s m shelf input out report = elim [ objects.Shelf ↦ ap (λ v. v.faults) shelf | objects.Input ↦ input | objects.Output ↦ out | objects.Report ↦ report ]

turned_same : (d : Turned) (s m : World) → IsTurned d s m → NoneRose s m
turned_same d s m h = all_same s m h.shelf h.input.steady.same h.out.steady.same h.report.steady.same

ahead_same : (m t : World) → IsAhead m t → NoneRose m t
ahead_same m t h = all_same m t h.shelf h.steady.same (ap (λ v. v.faults) h.out) (ap (λ v. v.faults) h.report)

input_rose : (d : Turned) (left : List ℕ) (s : World) (o : WorkEnd) (t : World) → InputFails d left s o t → WorkSteady o s t
input_rose d left s o t h = quiet_end o (Err (Outside objects.Input)) s t t h.ends refl (record {
  rose = h.fails.rose;
  others = elim [ objects.Shelf ↦ (λ other. ap (λ v. v.faults) h.shelf) | objects.Input ↦ (λ other. absurd (other refl)) | objects.Output ↦ (λ other. ap (λ v. v.faults) h.out) | objects.Report ↦ (λ other. ap (λ v. v.faults) h.report) ];
})

output_rose : (d : Turned) (s : World) (o : WorkEnd) (t : World) → OutputFails d s o t → WorkSteady o s t
output_rose d s o t h = quiet_end o (Err (Outside objects.Output)) s t t h.ends refl (record {
  rose = h.fails.rose;
  others = elim [ objects.Shelf ↦ (λ other. ap (λ v. v.faults) h.shelf) | objects.Input ↦ (λ other. ap (λ v. v.faults) h.input) | objects.Output ↦ (λ other. absurd (other refl)) | objects.Report ↦ (λ other. ap (λ v. v.faults) h.report) ];
})

report_rose : (d : Turned) (s : World) (o : WorkEnd) (t : World) → ReportFails d s o t → WorkSteady o s t
report_rose d s o t h = quiet_end o (Err (Outside objects.Report)) s t t h.ends refl (record {
  rose = h.fails.rose;
  others = elim [ objects.Shelf ↦ (λ other. ap (λ v. v.faults) h.shelf) | objects.Input ↦ (λ other. ap (λ v. v.faults) h.input) | objects.Output ↦ (λ other. ap (λ v. v.faults) h.out) | objects.Report ↦ (λ other. absurd (other refl)) ];
})

turn_wants : (d : Turned) (left : List ℕ) (s : World) (o : WorkEnd) (t : World) → TurnRunsOut d left s o t → WorkSteady o s t
turn_wants d left s o t h = quiet_end o (Err Memory) s t t h.ends refl (all_same s t h.shelf h.input.steady.same h.out_steady.same h.report_steady.same)

-- ---- a run

pub steadied : (p : Plan) (s : World) (o : WorkEnd) (t : World) → Went p s o t → WorkSteady o s t
unfolding Went
steadied (Ends end) s o t (inl out) = runs_out o s s t (none_same s s refl) out
steadied (Ends end) s o t (inr (is, same)) = quiet_end o (planned_end end) s s t is same (planned_steady end s)
steadied (Fetches name limit next) s o t (inl out) = runs_out o s s t (none_same s s refl) out
steadied (Fetches name limit next) s o t (inr (v, Ok bytes, was, went)) = steady_later o s (on_shelf s v) t (shelf_same s v was.gives.2) (steadied (next bytes) (on_shelf s v) o t went)
steadied (Fetches name limit next) s o t (inr (v, Err shelf_errors.Failed, was, went)) = fails objects.Shelf o s (on_shelf s v) t (shelf_rose s v was.gives.0) went
steadied (Fetches name limit next) s o t (inr (v, Err shelf_errors.TooLong, was, went)) = quiet_end o (Err (Because (Limited (limits.File limit)))) s (on_shelf s v) t went.0 went.1 (shelf_same s v was.gives.1)
steadied (Fetches name limit next) s o t (inr (v, Err shelf_errors.Memory, was, went)) = runs_out o s (on_shelf s v) t (shelf_same s v was.gives.1) went
steadied (Stores name bytes next) s o t (inl out) = runs_out o s s t (none_same s s refl) out
steadied (Stores name bytes next) s o t (inr (v, Ok u, was, went)) = steady_later o s (on_shelf s v) t (shelf_same s v was.gives.1) (steadied next (on_shelf s v) o t went)
steadied (Stores name bytes next) s o t (inr (v, Err store_errors.Failed, was, went)) = fails objects.Shelf o s (on_shelf s v) t (shelf_rose s v was.gives.1) went
steadied (Stores name bytes next) s o t (inr (v, Err store_errors.Memory, was, went)) = runs_out o s (on_shelf s v) t (shelf_same s v was.gives.1) went
steadied (Prints text next) s o t (inl out) = runs_out o s s t (none_same s s refl) out
steadied (Prints text next) s o t (inr (v, Ok u, was, went)) = steady_later o s (on_out s v) t (out_same s v was.gives.1) (steadied next (on_out s v) o t went)
steadied (Prints text next) s o t (inr (v, Err sink_errors.Failed, was, went)) = fails objects.Output o s (on_out s v) t (out_rose s v was.gives.1) went
steadied (Prints text next) s o t (inr (v, Err sink_errors.Memory, was, went)) = runs_out o s (on_out s v) t (out_same s v was.gives.1) went
steadied (Turns turn next) s o t (inl out) = runs_out o s s t (none_same s s refl) out
steadied (Turns turn next) s o t (inr (left, told, GoesOn m turned went)) = steady_later o s m t (turned_same (turn left) s m turned) (steadied (next left) m o t went)
steadied (Turns turn next) s o t (inr (left, told, FailsInput h)) = input_rose (turn left) left s o t h
steadied (Turns turn next) s o t (inr (left, told, FailsOutput h)) = output_rose (turn left) s o t h
steadied (Turns turn next) s o t (inr (left, told, FailsReport h)) = report_rose (turn left) s o t h
steadied (Turns turn next) s o t (inr (left, told, WantsMemory h)) = turn_wants (turn left) left s o t h
steadied (Script within) s o t (m, went, ahead) = steady_still o s m t (steadied within s o m went) (ahead_same m t ahead)
