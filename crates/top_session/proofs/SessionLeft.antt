-- Whatever a session leaves is what the first lines of its script come to, but for one name whose store failed.
use Rattle.std.proofs.Common.{◌≡◌, ◌⊎◌, ℕ, List, Some, Result, Ok, Err, refl, sym, ◌∙◌, ap, subst, inl, inr, arith}
use Rattle.elf_read.specs.Elf.{elf, Refused}
use Rattle.elf_read.specs.declared.exe.Exe.{Exe}
use Rattle.elf_read.specs.declared.exe.Reach.TheVariants.{Original}
use Rattle.sha2.specs.Sha256.{sha256}
use Rattle.br_outside.specs.Files.{Files}
use Rattle.br_outside.specs.Outside.{ShelfView}
use Rattle.br_outside.specs.declared.errors.ShelfError.TheVariants as shelf_errors
use Rattle.session_core.specs.Session.{new_session}
use Rattle.top_plan.specs.World.{World, on_shelf}
use Rattle.top_plan.specs.Plan.{Ends, Script, Went}
use Rattle.top_plan.specs.Parts.{checked}
use Rattle.top_plan.specs.Texts.{Finished, WorkEnd, end_line, end_status}
use Rattle.top_plan.specs.Happened.{Happened, Reported}
use Rattle.top_plan.specs.declared.ends.Cause.{Cause}
use Rattle.top_plan.specs.declared.ends.Object.TheVariants as objects
use Rattle.top_plan.proofs.Kept.{IsKept, nothing, shelf_kept, failed_still}
use Rattle.top_plan.proofs.Followed.{told_to}
use Rattle.top_plan.proofs.Telling.{telling, telling_kept}
use Rattle.top_plan.proofs.TurnsKept.{ahead_kept}
use Rattle.top_files.specs.OriginalPart.{of_word, with_digest}
use Rattle.top_session.specs.Lines.{lines_end}
use Rattle.top_session.specs.SessionPlan.{lines_part, session_plan}
use Rattle.script_text.specs.Split.{lines_of}
use Rattle.top_session.specs.Sitting.{Sitting}
use Rattle.top_session.specs.SessionMeaning.{seated, HoldsBut, IsLeft, AreFirst, HasLeft, IsUntouched}
use Rattle.top_session.proofs.Fronts.{IsAt, lines_left}

abbrev Leaves : List ℕ → Files → List ℕ → World → World → Type 0
Leaves original files script s t = IsUntouched s t ⊎ HasLeft original files script s t

-- ---- behind the lines

-- the shelf and the output stay
holds_still : (files : Files) (s m t : World) → IsKept m t → t.shelf ≡ m.shelf → HoldsBut files s m → HoldsBut files s t
holds_still files s m t kept same (inl holds) = inl (ap (λ v. v.files) same ∙ holds)
holds_still files s m t kept same (inr (failed, name, but)) = inr (failed_still objects.Shelf s m t kept failed, name, (but.0, ap (λ v. v.files) same ∙ but.1))

left_still : (sat : Sitting) (s m t : World) → IsKept m t → t.shelf ≡ m.shelf → t.out ≡ m.out → IsLeft sat s m → IsLeft sat s t
left_still sat s m t kept shelf out h = record { shelf = holds_still sat.files s m t kept shelf h.shelf; out = (h.out.0, ap (λ v. v.bytes) out ∙ h.out.1) }

first_still : (digest : List ℕ) (q : ℕ) (sat : Sitting) (lines : List (List ℕ)) (s m t : World) → IsKept m t → t.shelf ≡ m.shelf → t.out ≡ m.out → AreFirst digest q sat lines s m → AreFirst digest q sat lines s t
first_still digest q sat lines s m t kept shelf out (front, back, parts, h) = (front, back, parts, left_still _ s m t kept shelf out h)

leaves_still : (original : List ℕ) (files : Files) (script : List ℕ) (s m t : World) → IsKept m t → t.shelf ≡ m.shelf → t.out ≡ m.out → Leaves original files script s m → Leaves original files script s t
leaves_still original files script s m t kept shelf out (inl h) = inl (record { shelf = ap (λ v. v.files) shelf ∙ h.shelf; out = ap (λ v. v.bytes) out ∙ h.out })
leaves_still original files script s m t kept shelf out (inr h) =
    inr (record { content = h.content; exe = h.exe; there = h.there; accepted = h.accepted; first = first_still (sha256 h.content) 0 (seated h.exe files) (lines_of script) s m t kept shelf out h.first })

-- ---- the original

-- the shelf was asked, and no more
untouched : (s : World) (v : ShelfView) (t : World) → v.files ≡ s.shelf.files → t ≡ on_shelf s v → IsUntouched s t
untouched s v t files same = let P : World → Type 0 = λ t. IsUntouched s t in subst P (sym same) (record { shelf = files; out = refl })

ends_untouched : (end : Result Finished Cause) (s : World) (v : ShelfView) (o : WorkEnd) (t : World) → v.files ≡ s.shelf.files → Went (Ends end) (on_shelf s v) o t → IsUntouched s t
unfolding Went
ends_untouched end s v o t files (inl out) = untouched s v t files out.1
ends_untouched end s v o t files (inr is) = untouched s v t files is.1

script_left : (original content : List ℕ) (exe : Exe) (files : Files) (script : List ℕ) (s m : World) (o : WorkEnd) (t : World) → files original ≡ Some content → elf Original content ≡ Ok exe → IsAt (seated exe files) script s m
    → Went (Script (lines_part (sha256 content) 1048576 0 (new_session exe) lines_end)) m o t → Leaves original files script s t
unfolding Went
script_left original content exe files script s m o t there is h (m', went, ahead) =
    inr (record {
      content = content;
      exe = exe;
      there = there;
      accepted = is;
      first = first_still (sha256 content) 0 (seated exe files) (lines_of script) s m' t (ahead_kept m' t ahead) ahead.shelf ahead.out (lines_left (sha256 content) 1048576 0 (seated exe files) script s m o m' (omega arith) h went);
    })

exe_left : (original content : List ℕ) (r : Result Exe Refused) (files : Files) (script : List ℕ) (s : World) (v : ShelfView) (o : WorkEnd) (t : World) → files original ≡ Some content → elf Original content ≡ r
    → s.shelf.files ≡ Some files → s.input.bytes ≡ Some script → v.files ≡ s.shelf.files → IsKept s (on_shelf s v)
    → Went (checked (with_digest content (of_word 1 r)) (λ subject. Script (lines_part subject.digest 1048576 0 (new_session subject.exe) lines_end))) (on_shelf s v) o t → Leaves original files script s t
exe_left original content (Ok exe) files script s v o t there is told has same kept went =
    script_left original content exe files script s (on_shelf s v) o t there is (record { shelf = same ∙ told; input = has; out = nothing s.out.bytes; kept = kept }) went
exe_left original content (Err refused) files script s v o t there is told has same kept went = inl (ends_untouched _ s v o t same went)

went_left : (original : List ℕ) (files : Files) (script : List ℕ) (s : World) (o : WorkEnd) (t : World) → s.shelf.files ≡ Some files → s.input.bytes ≡ Some script → Went (session_plan original) s o t → Leaves original files script s t
unfolding Went
went_left original files script s o t told has (inl out) = inl (untouched s s.shelf t refl out.1)
went_left original files script s o t told has (inr (v, Ok content, was, went)) =
    let there : files original ≡ Some content = told_to s.shelf.files files (λ f. f original ≡ Some content) told was.gives.1 in
    exe_left original content (elf Original content) files script s v o t there refl told has was.same (shelf_kept s v was.later was.calm) went
went_left original files script s o t told has (inr (v, Err shelf_errors.Failed, was, went)) = inl (untouched s v t was.same went.1)
went_left original files script s o t told has (inr (v, Err shelf_errors.TooLong, was, went)) = inl (untouched s v t was.same went.1)
went_left original files script s o t told has (inr (v, Err shelf_errors.Memory, was, went)) = inl (untouched s v t was.same went.1)

-- ---- all

reported_left : (original : List ℕ) (files : Files) (script : List ℕ) (s : World) (o : WorkEnd) (m : World) (result : ℕ) (t : World) → Leaves original files script s m → Reported o m result t → Leaves original files script s t
reported_left original files script s o m result t h (v, told, same) =
    let P : World → Type 0 = λ t. Leaves original files script s t in
    subst P (sym same) (leaves_still original files script s m _ (telling_kept (end_line o) m v (telling (end_line o) (end_status o) m.report result v told)) refl refl h)

pub session_left : (original : List ℕ) (files : Files) (script : List ℕ) (s : World) (result : ℕ) (t : World) → s.shelf.files ≡ Some files → s.input.bytes ≡ Some script → Happened (session_plan original) s result t
    → IsUntouched s t ⊎ HasLeft original files script s t
session_left original files script s result t told has (o, m, went, reported) =
    reported_left original files script s o m result t (went_left original files script s o m told has went) reported
