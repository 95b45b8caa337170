-- What a call has done whose end is reported.
use Rattle.std.proofs.Common.{◌≡◌, ◌⊎◌, ◌<◌, ◌≤◌, ◌-◌, ◌^◌, ℕ, List, ◌++◌, Option, Some, Result, Ok, Err, IsTrue, refl, sym, ◌∙◌, ap, subst, inl, inr, arith}
use Rattle.std.specs.Option.{option_map}
use Rattle.br_outside.specs.Files.{Files}
use Rattle.br_outside.specs.Outside.{StreamView, Rose}
use Rattle.top_plan.specs.World.{World, on_report, faults_of}
use Rattle.top_plan.specs.Plan.{Plan, Went}
use Rattle.top_plan.specs.Texts.{WorkEnd, end_line, end_text, end_status, object_text, usage_text, finish_status, cause_status}
use Rattle.top_plan.specs.declared.ends.Halt.TheVariants.{Because, Outside, Memory}
use Rattle.top_plan.specs.declared.ends.Cause.{Cause}
use Rattle.top_plan.specs.declared.ends.Cause.TheVariants.{RefusedWord, RefusedLine, Limited}
use Rattle.top_plan.specs.declared.ends.Finish.{Finish}
use Rattle.top_plan.specs.declared.ends.Finish.TheVariants as finishes
use Rattle.top_plan.specs.declared.ends.Object.{Object}
use Rattle.top_plan.specs.declared.ends.Object.TheVariants as objects
use Rattle.top_plan.specs.Expected.{Ending, expected, HasFailed, IsWhole, Decided, IsExact, IsUnchanged, IsCalm, IsComplete, EndsWith, HasCause}
use Rattle.top_plan.specs.Partial.{IsOrderly}
use Rattle.top_plan.specs.Happened.{Happened, Answered}
use Rattle.top_plan.specs.Steady.{NoneRose, OnlyRose, ReportRose, IsSteady, NoneFailed, OneFailed, ReportFailed, Unnamed}
use Rattle.top_plan.proofs.Kept.{IsKept, two_texts, rises, failed_still}
use Rattle.top_plan.proofs.Telling.{HowTold, Taken, Refused, Lacked, how_told, telling, telling_kept}
use Rattle.top_plan.proofs.TurnsOf.{sparing_of}
use Rattle.top_plan.proofs.Followed.{Follows, follows}
use Rattle.top_plan.proofs.Causes.{kept, caused, Risen, risen_still}
use Rattle.top_plan.proofs.Steadied.{WorkSteady, steadied, none_same, one_still, report_same}

report_failed : (s m : World) (v : StreamView) (t : World) → IsKept s m → t ≡ on_report m v → Rose m.report.faults v.faults → (IsTrue m.report.calm → ⊥) → HasFailed objects.Report s t
report_failed s m v t kept same rose loud =
    let P : World → Type 0 = λ t. HasFailed objects.Report s t in
    subst P (sym same) (record { rose = rises s.report.faults m.report.faults v.faults (kept.later objects.Report) rose; loud = λ c. loud (kept.calm objects.Report ∙ c) })

-- what was reported before, and then the line
told_line : (e : Ending) (o : WorkEnd) (s m v : StreamView) → o ≡ e.end → m.bytes ≡ option_map (λ w. w ++ e.reported) s.bytes → v.bytes ≡ option_map (λ w. w ++ end_text o) m.bytes
    → v.bytes ≡ option_map (λ w. w ++ (e.reported ++ end_text e.end)) s.bytes
told_line e o s m v is before line =
    let P : WorkEnd → Type 0 = λ o. v.bytes ≡ option_map (λ w. w ++ end_text o) m.bytes in
    two_texts s.bytes m.bytes v.bytes e.reported (end_text e.end) before (subst P is line)

-- ---- exact and complete

-- the report took the line
taken : (files : Files) (left : List ℕ) (e : Ending) (s : World) (o : WorkEnd) (m : World) (v : StreamView) (result : ℕ) (t : World)
    → v.bytes ≡ option_map (λ w. w ++ end_text o) m.report.bytes → result ≡ end_status o → t ≡ on_report m v → IsKept m (on_report m v)
    → Follows files left e s o m → Decided files left e s result t
taken files left e s o m v result t grew is same still (inl memory) = inl (is ∙ ap end_status memory)
taken files left e s o m v result t grew is same still (inr (inl (x, fault, failed))) =
    let P : World → Type 0 = λ t. HasFailed x s t in
    inr (inl (is ∙ ap end_status fault, x, subst P (sym same) (failed_still x s m (on_report m v) still failed)))
taken files left e s o m v result t grew is same still (inr (inr done)) =
    let P : World → Type 0 = λ t. IsWhole files left e s result t in
    inr (inr (subst P (sym same) (record {
      status = is ∙ ap end_status done.ends;
      shelf = done.shelf;
      input = done.input;
      out = done.out;
      report = told_line e o s.report m.report v done.ends done.report grew;
      rose = λ h. done.rose (done.ends ∙ h);
    })))

decided : (files : Files) (left : List ℕ) (e : Ending) (s : World) (o : WorkEnd) (m : World) (v : StreamView) (result : ℕ) (t : World)
    → HowTold (end_line o) (end_status o) m.report result v → t ≡ on_report m v → IsKept s m → IsKept m (on_report m v)
    → Follows files left e s o m → Decided files left e s result t
decided files left e s o m v result t (Taken is grew none) same kept still followed = taken files left e s o m v result t grew is same still followed
decided files left e s o m v result t (Refused is rose loud) same kept still followed = inr (inl (is, objects.Report, report_failed s m v t kept same rose loud))
decided files left e s o m v result t (Lacked is none) same kept still followed = inl is

pub exact : (p : Plan) (s : World) (result : ℕ) (t : World) → IsOrderly p → Happened p s result t → IsExact p s result t
exact p s result t orderly (o, m, went, (v, told, same)) files left holds =
    decided files left (expected p files left) s o m v result t (how_told (end_line o) (end_status o) m.report result v told) same (kept p s o m went)
    (telling_kept (end_line o) m v (telling (end_line o) (end_status o) m.report result v told))
    (follows p files left s o m (sparing_of p orderly) holds went)

unchanged_rose : (a b : ℕ) → b ≡ a → a < 2 ^ 64 - 1 → Rose a b → ⊥
unchanged_rose a b e h r = omega arith

-- where nothing failed, all is as expected
no_failure : (files : Files) (left : List ℕ) (e : Ending) (s : World) (result : ℕ) (t : World) → Decided files left e s result t → IsUnchanged s t ⊎ IsCalm e s
    → (result ≡ 4) ⊎ (IsWhole files left e s result t × (e.end ≡ Err (Outside objects.Shelf) → ⊥))
no_failure files left e s result t (inl memory) premise = inl memory
no_failure files left e s result t (inr (inl (is, x, failed))) (inl same) = absurd (unchanged_rose (faults_of x s) (faults_of x t) (same x).0 (same x).1 failed.rose)
no_failure files left e s result t (inr (inl (is, x, failed))) (inr calm) = absurd (failed.loud (calm.calm x))
no_failure files left e s result t (inr (inr whole)) (inl same) = inr (whole, λ h. unchanged_rose s.shelf.faults t.shelf.faults (same objects.Shelf).0 (same objects.Shelf).1 (whole.rose h))
no_failure files left e s result t (inr (inr whole)) (inr calm) = inr (whole, calm.there)

pub complete : (p : Plan) (s : World) (result : ℕ) (t : World) → IsOrderly p → Happened p s result t → IsComplete p s result t
complete p s result t orderly happened files left told premise = no_failure files left (expected p files left) s result t (exact p s result t orderly happened files left told) premise

-- ---- the status

-- a status is 3 where an object failed, and no end has 1
finish_not : (f : Finish) → (finish_status f ≡ 1 → ⊥) × (finish_status f ≡ 3 → ⊥)
finish_not finishes.Done = (λ h. omega (arith, h), λ h. omega (arith, h))
finish_not finishes.Fault = (λ h. omega (arith, h), λ h. omega (arith, h))
finish_not finishes.Budget = (λ h. omega (arith, h), λ h. omega (arith, h))

cause_not : (c : Cause) → (cause_status c ≡ 1 → ⊥) × (cause_status c ≡ 3 → ⊥)
cause_not (RefusedWord word number place) = (λ h. omega (arith, h), λ h. omega (arith, h))
cause_not (RefusedLine line number place) = (λ h. omega (arith, h), λ h. omega (arith, h))
cause_not (Limited limit) = (λ h. omega (arith, h), λ h. omega (arith, h))

end_not_1 : (o : WorkEnd) → end_status o ≡ 1 → ⊥
end_not_1 (Ok done) h = (finish_not done.finish).0 h
end_not_1 (Err (Because cause)) h = (cause_not cause).0 h
end_not_1 (Err (Outside x)) h = omega (arith, h)
end_not_1 (Err Memory) h = omega (arith, h)

status_3 : (o : WorkEnd) → end_status o ≡ 3 → (x : Object) × (o ≡ Err (Outside x))
status_3 (Ok done) h = absurd ((finish_not done.finish).1 h)
status_3 (Err (Because cause)) h = absurd ((cause_not cause).1 h)
status_3 (Err (Outside x)) h = (x, refl)
status_3 (Err Memory) h = absurd (omega (arith, h))

not_1 : (line : Option (List ℕ)) (status : ℕ) (old : StreamView) (result : ℕ) (new : StreamView) → (status ≡ 1 → ⊥) → HowTold line status old result new → result ≡ 1 → ⊥
not_1 line status old result new other (Taken is grew none) one = other (sym is ∙ one)
not_1 line status old result new other (Refused is rose loud) one = omega (arith, is, one)
not_1 line status old result new other (Lacked is none) one = omega (arith, is, one)

-- words that are a command are not refused as none
pub planned : (p : Plan) (s : World) (result : ℕ) (t : World) → Happened p s result t → result ≡ 1 → ⊥
planned p s result t (o, m, went, (v, told, same)) = not_1 (end_line o) (end_status o) m.report result v (end_not_1 o) (how_told (end_line o) (end_status o) m.report result v told)

-- ---- why the status is 3

-- the line that names the object was given
line_given : (x : Object) (s m : World) (o : WorkEnd) (v : StreamView) (t : World) → IsKept s m → o ≡ Err (Outside x) → v.bytes ≡ option_map (λ w. w ++ end_text o) m.report.bytes → t ≡ on_report m v → EndsWith (object_text x) s.report.bytes t.report.bytes
line_given x s m o v t kept is grew same =
    let P : World → Type 0 = λ t. EndsWith (object_text x) s.report.bytes t.report.bytes in
    let Q : WorkEnd → Type 0 = λ o. v.bytes ≡ option_map (λ w. w ++ end_text o) m.report.bytes in
    subst P (sym same) (kept.grown.0, two_texts s.report.bytes m.report.bytes v.bytes kept.grown.0 (object_text x) kept.grown.1 (subst Q is grew))

named_3 : (p : Plan) (s : World) (o : WorkEnd) (m : World) (v : StreamView) (t : World) → Went p s o m → v.bytes ≡ option_map (λ w. w ++ end_text o) m.report.bytes → IsKept m (on_report m v) → t ≡ on_report m v → (x : Object) × (o ≡ Err (Outside x))
    → (x : Object) × Risen x s t × EndsWith (object_text x) s.report.bytes t.report.bytes
named_3 p s o m v t went grew still same (x, is) =
    let P : World → Type 0 = λ t. Risen x s t in
    (x, subst P (sym same) (risen_still x s m (on_report m v) still (caused p s o m x is went)), line_given x s m o v t (kept p s o m went) is grew same)

report_rises : (s m : World) (v : StreamView) (t : World) → IsKept s m → t ≡ on_report m v → Rose m.report.faults v.faults → Risen objects.Report s t
report_rises s m v t kept same rose = let P : World → Type 0 = λ t. Risen objects.Report s t in subst P (sym same) (rises s.report.faults m.report.faults v.faults (kept.later objects.Report) rose)

caused_so : (p : Plan) (s : World) (o : WorkEnd) (m : World) (v : StreamView) (result : ℕ) (t : World) → Went p s o m → HowTold (end_line o) (end_status o) m.report result v → IsKept m (on_report m v) → t ≡ on_report m v → HasCause s result t
caused_so p s o m v result t went (Taken is grew none) still same three = inr (named_3 p s o m v t went grew still same (status_3 o (sym is ∙ three)))
caused_so p s o m v result t went (Refused is rose loud) still same three = inl (report_rises s m v t (kept p s o m went) same rose)
caused_so p s o m v result t went (Lacked is none) still same three = absurd (let z : 4 ≡ 3 = sym is ∙ three in omega arith)

-- the same of words that are no command
usage_caused : (line : Option (List ℕ)) (s : World) (v : StreamView) (result : ℕ) (t : World) → HowTold line 1 s.report result v → t ≡ on_report s v → HasCause s result t
usage_caused line s v result t (Taken is grew none) same three = absurd (let z : 1 ≡ 3 = sym is ∙ three in omega arith)
usage_caused line s v result t (Refused is rose loud) same three = inl (let P : World → Type 0 = λ t. Risen objects.Report s t in subst P (sym same) rose)
usage_caused line s v result t (Lacked is none) same three = absurd (let z : 4 ≡ 3 = sym is ∙ three in omega arith)

pub cause : (asked : Result Plan ℕ) (s : World) (result : ℕ) (t : World) → Answered asked s result t → HasCause s result t
cause (Ok p) s result t (o, m, went, (v, told, same)) =
    caused_so p s o m v result t went (how_told (end_line o) (end_status o) m.report result v told)
    (telling_kept (end_line o) m v (telling (end_line o) (end_status o) m.report result v told)) same
cause (Err word) s result t (v, told, same) = usage_caused (Some (usage_text word)) s v result t (how_told (Some (usage_text word)) 1 s.report result v told) same

-- ---- where the faults stand

none_then : (s m t : World) → NoneRose s m → NoneRose m t → NoneRose s t
none_then s m t a b = λ x. b x ∙ a x

-- at most the count of this object rose before that of the report
then_report : (x : Object) (s m : World) (v : StreamView) (t : World) → s.report.faults ≤ m.report.faults → ((y : Object) → (y ≡ x → ⊥) → faults_of y m ≡ faults_of y s) → t ≡ on_report m v → Rose m.report.faults v.faults → ReportRose x s t
then_report x s m v t later before same rose =
    let P : World → Type 0 = λ t. ReportRose x s t in
    subst P (sym same) (record {
      rose = rises s.report.faults m.report.faults v.faults later rose;
      others = elim [ objects.Shelf ↦ (λ other last. before objects.Shelf other) | objects.Input ↦ (λ other last. before objects.Input other) | objects.Output ↦ (λ other last. before objects.Output other) | objects.Report ↦ (λ other last. absurd (last refl)) ];
    })

-- where nothing failed before the line
quiet_told : (line : Option (List ℕ)) (status : ℕ) (s m : World) (v : StreamView) (result : ℕ) (t : World) → (status ≡ 3 → ⊥) → NoneRose s m → HowTold line status m.report result v → t ≡ on_report m v → IsSteady s result t
quiet_told line status s m v result t other none (Taken is grew still) same =
    let P : World → Type 0 = λ t. NoneRose s t in
    NoneFailed (λ three. other (sym is ∙ three)) (subst P (sym same) (none_then s m (on_report m v) none (report_same m v still)))
quiet_told line status s m v result t other none (Refused is rose loud) same =
    ReportFailed objects.Report is (then_report objects.Report s m v t (omega (arith, none objects.Report)) (λ y other. none y) same rose)
quiet_told line status s m v result t other none (Lacked is still) same =
    let P : World → Type 0 = λ t. NoneRose s t in
    NoneFailed (λ three. omega (arith, is, three)) (subst P (sym same) (none_then s m (on_report m v) none (report_same m v still)))

-- where a call of this object failed before it
fault_told : (x : Object) (s m : World) (v : StreamView) (result : ℕ) (t : World) → IsKept s m → OnlyRose x s m → HowTold (Some (object_text x)) 3 m.report result v → t ≡ on_report m v → IsSteady s result t
fault_told x s m v result t kept one (Taken is grew still) same =
    let P : World → Type 0 = λ t. OnlyRose x s t in
    OneFailed x is (subst P (sym same) (one_still x s m (on_report m v) one (report_same m v still))) (line_given x s m (Err (Outside x)) v t kept refl grew same)
fault_told x s m v result t kept one (Refused is rose loud) same = ReportFailed x is (then_report x s m v t (kept.later objects.Report) one.others same rose)
fault_told x s m v result t kept one (Lacked is still) same =
    let P : World → Type 0 = λ t. OnlyRose x s t in
    Unnamed x is (subst P (sym same) (one_still x s m (on_report m v) one (report_same m v still)))

by_end : (o : WorkEnd) (s m : World) (v : StreamView) (result : ℕ) (t : World) → IsKept s m → WorkSteady o s m → HowTold (end_line o) (end_status o) m.report result v → t ≡ on_report m v → IsSteady s result t
by_end (Ok done) s m v result t kept steady told same = quiet_told done.line (finish_status done.finish) s m v result t (finish_not done.finish).1 steady told same
by_end (Err (Because cause)) s m v result t kept steady told same = quiet_told (end_line (Err (Because cause))) (cause_status cause) s m v result t (cause_not cause).1 steady told same
by_end (Err (Outside x)) s m v result t kept steady told same = fault_told x s m v result t kept steady told same
by_end (Err Memory) s m v result t kept steady told same = quiet_told (end_line (Err Memory)) 4 s m v result t (λ h. omega (arith, h)) steady told same

pub steady : (asked : Result Plan ℕ) (s : World) (result : ℕ) (t : World) → Answered asked s result t → IsSteady s result t
steady (Ok p) s result t (o, m, went, (v, told, same)) = by_end o s m v result t (kept p s o m went) (steadied p s o m went) (how_told (end_line o) (end_status o) m.report result v told) same
steady (Err word) s result t (v, told, same) =
    quiet_told (Some (usage_text word)) 1 s s v result t (λ h. omega (arith, h)) (none_same s s refl) (how_told (Some (usage_text word)) 1 s.report result v told) same
