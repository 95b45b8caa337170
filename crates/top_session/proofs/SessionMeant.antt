-- What the answers of `session` mean, by what its plan comes to.
use Rattle.std.proofs.Common.{◌≡◌, ◌+◌, ℕ, List, [], ◌++◌, length, drop, All, Option, Some, None, Result, Ok, Err, refl, sym, ◌∙◌, ap, inl, inr, arith}
use Rattle.std.specs.Option.{option_map}
use Rattle.std.proofs.lemmas.List.{drop_all}
use Rattle.elf_read.specs.Elf.{elf, Refused}
use Rattle.elf_read.specs.declared.exe.Exe.{Exe}
use Rattle.elf_read.specs.declared.exe.Reach.TheVariants.{Original}
use Rattle.sha2.specs.Sha256.{sha256}
use Rattle.br_outside.specs.Files.{Files}
use Rattle.session_core.specs.Session.{new_session}
use Rattle.top_plan.specs.World.{World}
use Rattle.top_plan.specs.Plan.{Script}
use Rattle.top_plan.specs.Parts.{checked}
use Rattle.top_plan.specs.Texts.{Finished, WorkEnd, end_status, end_text, halt_status, halt_text, cause_status}
use Rattle.top_plan.specs.Expected.{ends_with, after_fetch, expected, IsWhole, LeavesBut, Decided, IsExact}
use Rattle.top_plan.specs.Happened.{Happened}
use Rattle.top_plan.specs.declared.ends.Halt.{Halt}
use Rattle.top_plan.specs.declared.ends.Halt.TheVariants.{Because, Outside, Memory}
use Rattle.top_plan.specs.declared.ends.Cause.{Cause}
use Rattle.top_plan.specs.declared.ends.Cause.TheVariants.{RefusedWord, RefusedLine, Limited}
use Rattle.top_plan.specs.declared.ends.Object.TheVariants as objects
use Rattle.top_plan.specs.declared.ends.Limit.TheVariants as limits
use Rattle.top_files.specs.declared.original.Subject.{Subject}
use Rattle.top_files.specs.OriginalPart.{of_word, with_digest}
use Rattle.top_files.specs.Answers.{OnlySays, UnlessBroken}
use Rattle.top_files.proofs.ReadMeant.{only_says, chosen}
use Rattle.top_session.specs.Lines.{lines_end}
use Rattle.top_session.specs.SessionPlan.{lines_part, session_plan}
use Rattle.top_session.specs.SessionMeaning.{seated, course_of, IsSound, IsFollowed, FollowsExe, FollowsContent, MeansSession}
use Rattle.top_session.proofs.Sits as sits
use Rattle.top_session.proofs.SessionLeft.{session_left}

-- each file that a script stores is sound
abbrev pub AllSound : Type 0
AllSound = (content : List ℕ) (exe : Exe) (files : Files) (script : List ℕ) → elf Original content ≡ Ok exe → All (IsSound exe content) (course_of exe content files script).sat.stored

-- shelf and input tell this
record IsGiven (files : Files) (script : List ℕ) (s : World) : Type 0 where
  shelf : s.shelf.files ≡ Some files
  input : s.input.bytes ≡ Some script

-- nothing was taken
untaken : (left : List ℕ) (o : Option (List ℕ)) → LeavesBut 0 left o → o ≡ Some left
untaken left o (more, few, is) = is ∙ ap (λ n. Some (drop n left)) (let z : more ≡ 0 = omega (arith, few) in z)

says : (halt : Halt) (files : Files) (script : List ℕ) (s : World) (result : ℕ) (t : World) → IsGiven files script s → IsWhole files script (ends_with (Err halt) files script) s result t → OnlySays (halt_status halt) (halt_text halt) s result t
says halt files script s result t h w = only_says halt files script s result t h.shelf (untaken script t.input.bytes (w.input h.input) ∙ sym h.input) w

-- only work that is done has the status 0
cause_not_0 : (c : Cause) → cause_status c ≡ 0 → ⊥
cause_not_0 (RefusedWord word number place) h = omega (arith, h)
cause_not_0 (RefusedLine line number place) h = omega (arith, h)
cause_not_0 (Limited limit) h = omega (arith, h)

done_0 : (o : WorkEnd) → end_status o ≡ 0 → (done : Finished) × (o ≡ Ok done)
done_0 (Ok done) h = (done, refl)
done_0 (Err (Because cause)) h = absurd (cause_not_0 cause h)
done_0 (Err (Outside x)) h = absurd (omega (arith, h))
done_0 (Err Memory) h = absurd (omega (arith, h))

all_taken : (n : ℕ) (left : List ℕ) (o : Option (List ℕ)) → left ≡ [] → LeavesBut n left o → o ≡ Some []
all_taken n left o none (more, few, is) = is ∙ (ap (λ l. Some (drop more l)) none ∙ ap Some (drop_all more [] (omega arith)))

follows : (content : List ℕ) (exe : Exe) (files : Files) (script : List ℕ) (s : World) (result : ℕ) (t : World) → AllSound → elf Original content ≡ Ok exe → IsGiven files script s
    → IsWhole files script (expected (Script (lines_part (sha256 content) 1048576 0 (new_session exe) lines_end)) files script) s result t → IsFollowed exe content (course_of exe content files script) s result t
unfolding expected
follows content exe files script s result t sound accepted h w =
    let e = expected (lines_part (sha256 content) 1048576 0 (new_session exe) lines_end) files script in
    let is = sits.seated (sha256 content) 1048576 0 (seated exe files) script (omega arith) in
    let course = course_of exe content files script in
    record {
      status = w.status ∙ ap end_status is.end;
      shelf = w.shelf h.shelf ∙ ap Some is.files;
      out = w.out ∙ ap (λ x. option_map (λ written. written ++ x) s.out.bytes) is.printed;
      report = w.report ∙ (ap (λ x. option_map (λ written. written ++ (x ++ end_text e.end)) s.report.bytes) is.reported ∙ ap (λ x. option_map (λ written. written ++ end_text x) s.report.bytes) is.end);
      input = λ zero. let d = done_0 e.end (sym w.status ∙ zero) in all_taken (e.spare + 4096) e.left t.input.bytes (is.left d.0 d.1) (w.input h.input);
      sound = sound content exe files script accepted;
    }

by_exe : (content : List ℕ) (r : Result Exe Refused) (files : Files) (script : List ℕ) (s : World) (result : ℕ) (t : World) → AllSound → elf Original content ≡ r → IsGiven files script s
    → IsWhole files script (expected (checked (with_digest content (of_word 1 r)) (λ subject. Script (lines_part subject.digest 1048576 0 (new_session subject.exe) lines_end))) files script) s result t
    → FollowsExe content r files script s result t
unfolding expected
by_exe content (Ok exe) files script s result t sound is h w = follows content exe files script s result t sound is h w
by_exe content (Err refused) files script s result t sound is h w = says (Because (RefusedWord 1 refused.number refused.place)) files script s result t h w

by_content : (c : Option (List ℕ)) (files : Files) (script : List ℕ) (s : World) (result : ℕ) (t : World) → AllSound → IsGiven files script s
    → IsWhole files script (after_fetch 16777216 (λ bytes. expected (checked (with_digest bytes (of_word 1 (elf Original bytes))) (λ (subject : Subject). Script (lines_part subject.digest 1048576 0 (new_session subject.exe) lines_end))) files script) files script c) s result t
    → FollowsContent c files script s result t
by_content None files script s result t sound h w = says (Outside objects.Shelf) files script s result t h w
by_content (Some content) files script s result t sound h w =
    let by = chosen (λ e. IsWhole files script e s result t) (length content) 16777216 _ (ends_with (Err (Because (Limited (limits.File 16777216)))) files script) w in
    (λ short. by_exe content (elf Original content) files script s result t sound refl h (by.0 short), λ long. says (Because (Limited (limits.File 16777216))) files script s result t h (by.1 long))

-- ---- all

pub means : (original : List ℕ) (s : World) (result : ℕ) (t : World) → AllSound → IsExact (session_plan original) s result t → Happened (session_plan original) s result t → MeansSession original s result t
unfolding expected
means original s result t sound exact happened files script told has = record {
  done = by (exact files script (record { shelf = inr told; input = inr has }));
  left = session_left original files script s result t told has happened;
}
  where
    by : Decided files script (expected (session_plan original) files script) s result t → UnlessBroken (FollowsContent (files original) files script s result t) s result t
    by (inl four) = inl four
    by (inr (inl failed)) = inr (inl failed)
    by (inr (inr w)) = inr (inr (by_content (files original) files script s result t sound (record { shelf = told; input = has }) w))
