-- What a turn keeps, and what input that is taken ahead does.
use Rattle.std.proofs.Common.{◌≡◌, ◌≤◌, ℕ, List, [], ◌++◌, take, refl, sym, ◌∙◌, ap, subst, arith}
use Rattle.std.specs.Option.{option_map}
use Rattle.br_outside.specs.Outside.{ShelfView, StreamView}
use Rattle.br_outside.specs.Streams.{Steady, Fails}
use Rattle.top_plan.specs.World.{World}
use Rattle.top_plan.specs.Texts.{WorkEnd}
use Rattle.top_plan.specs.Plan.{Turned, IsTurned, InputFails, OutputFails, ReportFails, TurnRunsOut, IsAhead}
use Rattle.top_plan.specs.declared.ends.Object.TheVariants as objects
use Rattle.top_plan.proofs.Kept.{IsKept, nothing}

-- the count of a stream has not fallen, and it is as calm as it was
record Holds (old new : StreamView) : Type 0 where
  later : old.faults ≤ new.faults
  calm : new.calm ≡ old.calm

same_holds : (old new : StreamView) → new ≡ old → Holds old new
same_holds old new is = let P : StreamView → Type 0 = λ v. Holds old v in subst P (sym is) (record { later = omega arith; calm = refl })

steady_holds : (old new : StreamView) → Steady old new → Holds old new
steady_holds old new h = record { later = omega (arith, h.same); calm = h.calm }

fails_holds : (old new : StreamView) → Fails old new → Holds old new
fails_holds old new h = record { later = h.later; calm = h.calm }

all_kept : (s t : World) (text : List ℕ) → t.shelf ≡ s.shelf → Holds s.input t.input → Holds s.out t.out → Holds s.report t.report
    → t.report.bytes ≡ option_map (λ w. w ++ text) s.report.bytes → IsKept s t
all_kept s t text shelf input out report grown = record {
  later = elim [ objects.Shelf ↦ (let P : ShelfView → Type 0 = λ v. s.shelf.faults ≤ v.faults in subst P (sym shelf) (omega arith)) | objects.Input ↦ input.later | objects.Output ↦ out.later | objects.Report ↦ report.later ];
  calm = elim [ objects.Shelf ↦ ap (λ v. v.calm) shelf | objects.Input ↦ input.calm | objects.Output ↦ out.calm | objects.Report ↦ report.calm ];
  grown = (text, grown);
}

still : (s t : World) → t.report ≡ s.report → t.report.bytes ≡ option_map (λ w. w ++ []) s.report.bytes
still s t is = ap (λ v. v.bytes) is ∙ nothing s.report.bytes

pub turned_kept : (d : Turned) (s m : World) → IsTurned d s m → IsKept s m
turned_kept d s m h = all_kept s m d.reported h.shelf (steady_holds s.input m.input h.input.steady) (steady_holds s.out m.out h.out.steady) (steady_holds s.report m.report h.report.steady) h.report.bytes

pub input_fails_kept : (d : Turned) (left : List ℕ) (s : World) (o : WorkEnd) (t : World) → InputFails d left s o t → IsKept s t
input_fails_kept d left s o t h = all_kept s t [] h.shelf (fails_holds s.input t.input h.fails) (same_holds s.out t.out h.out) (same_holds s.report t.report h.report) (still s t h.report)

pub output_fails_kept : (d : Turned) (s : World) (o : WorkEnd) (t : World) → OutputFails d s o t → IsKept s t
output_fails_kept d s o t h = all_kept s t [] h.shelf (same_holds s.input t.input h.input) (fails_holds s.out t.out h.fails) (same_holds s.report t.report h.report) (still s t h.report)

pub report_fails_kept : (d : Turned) (s : World) (o : WorkEnd) (t : World) → ReportFails d s o t → IsKept s t
report_fails_kept d s o t h = all_kept s t (take h.written d.reported) h.shelf (same_holds s.input t.input h.input) (same_holds s.out t.out h.out) (fails_holds s.report t.report h.fails) h.given

pub runs_out_kept : (d : Turned) (left : List ℕ) (s : World) (o : WorkEnd) (t : World) → TurnRunsOut d left s o t → IsKept s t
runs_out_kept d left s o t h = all_kept s t (take h.reported d.reported) h.shelf (steady_holds s.input t.input h.input.steady) (steady_holds s.out t.out h.out_steady) (steady_holds s.report t.report h.report_steady) h.report

pub ahead_kept : (m t : World) → IsAhead m t → IsKept m t
ahead_kept m t h = all_kept m t [] h.shelf (steady_holds m.input t.input h.steady) (same_holds m.out t.out h.out) (same_holds m.report t.report h.report) (still m t h.report)
