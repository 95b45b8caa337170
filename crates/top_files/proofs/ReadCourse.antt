-- The courses that the reading of an original and its traces can take.
use Rattle.std.proofs.Common.{◌≡◌, ◌⊎◌, ◌≤◌, ◌+◌, nat_le, cond, Bool, true, false, ℕ, List, [], ◌∷◌, length, Option, Some, None, IfSome, Result, Ok, Err, IsTrue, refl, ◌∙◌, subst, inl, inr, arith}
use Rattle.std.proofs.lemmas.Bool.{leb-true}
use Rattle.br_outside.specs.Files.{Files}
use Rattle.br_outside.specs.Outside.{ShelfView, Rose, Fetched}
use Rattle.br_outside.specs.declared.errors.ShelfError.TheVariants as shelf_errors
use Rattle.elf_read.specs.Elf.{elf, Refused}
use Rattle.elf_read.specs.declared.exe.Exe.{Exe}
use Rattle.elf_read.specs.declared.exe.Reach.TheVariants.{Original}
use Rattle.sha2.specs.Sha256.{sha256}
use Rattle.trace_file.specs.Edges.{Edge}
use Rattle.trace_file.specs.Trace.{trace}
use Rattle.trace_file.specs.Trace as trace_file
use Rattle.top_plan.specs.World.{World, on_shelf}
use Rattle.top_plan.specs.Texts.{WorkEnd}
use Rattle.top_plan.specs.Plan.{Plan, Went}
use Rattle.top_plan.specs.Parts.{checked}
use Rattle.top_plan.specs.declared.ends.Halt.TheVariants.{Because, Outside, Memory}
use Rattle.top_plan.specs.declared.ends.Cause.{Cause}
use Rattle.top_plan.specs.declared.ends.Cause.TheVariants.{RefusedWord, Limited}
use Rattle.top_plan.specs.declared.ends.Object.TheVariants as objects
use Rattle.top_plan.specs.declared.ends.Limit.{Limit}
use Rattle.top_plan.specs.declared.ends.Limit.TheVariants as limits
use Rattle.top_plan.proofs.Kept.{rises}
use Rattle.top_files.specs.OriginalPart.{of_word, original_part, with_digest, subject_part}
use Rattle.top_files.specs.TracesPart.{edges_of_word, counted, traces_part}
use Rattle.top_files.specs.ReadMeaning.{AreAccepted, AreGiven, IsOneAbsent, IsReadLimit}

-- a shelf from which files were fetched
pub record IsSeen (old new : ShelfView) : Type 0 where
  pub same : new.files ≡ old.files
  pub later : old.faults ≤ new.faults
  pub calm : new.calm ≡ old.calm

-- how the reading of these names stopped, whose words stand from the first to the last
pub data Stopped (names : List (List ℕ)) (first last : ℕ) (old : ShelfView) (o : WorkEnd) (new : ShelfView) : Type 0 where
  Wants : o ≡ Err Memory → Stopped names first last old o new
  Misses : o ≡ Err (Outside objects.Shelf) → Rose old.faults new.faults → (IsTrue old.calm → IfSome old.files (IsOneAbsent names)) → Stopped names first last old o new
  Passes : (limit : Limit) → IsReadLimit limit → o ≡ Err (Because (Limited limit)) → Stopped names first last old o new
  Refuses : (word number place : ℕ) → first ≤ word → word ≤ last → o ≡ Err (Because (RefusedWord word number place)) → Stopped names first last old o new

-- and that the files are the same then
abbrev pub Halts : List (List ℕ) → ℕ → ℕ → World → WorkEnd → World → Type 0
Halts names first last s o t = (v : ShelfView) × (t ≡ on_shelf s v) × (v.files ≡ s.shelf.files) × Stopped names first last s.shelf o v

-- what holds of the files of a shelf
pub of_all : (told : Option Files) (P : Files → Type 0) → ((files : Files) → P files) → IfSome told P
of_all None P h = tt
of_all (Some files) P h = h files

pub of_both : (told : Option Files) (P Q R : Files → Type 0) → ((files : Files) → P files → Q files → R files) → IfSome told P → IfSome told Q → IfSome told R
of_both None P Q R f p q = tt
of_both (Some files) P Q R f p q = f files p q

pub told_before : (old new : Option Files) (P : Files → Type 0) → new ≡ old → IfSome new P → IfSome old P
told_before old new P same h = let Q : Option Files → Type 0 = λ o. IfSome o P in subst Q same h

of_one : (told : Option Files) (P Q : Files → Type 0) → ((files : Files) → P files → Q files) → IfSome told P → IfSome told Q
of_one None P Q f p = tt
of_one (Some files) P Q f p = f files p

seen_on : (name : List ℕ) (limit : ℕ) (bytes : List ℕ) (old v w : ShelfView) → IsSeen old v → Fetched name limit (Ok bytes) v w → IsSeen old w
seen_on name limit bytes old v w seen was = record { same = was.same ∙ seen.same; later = omega (arith, seen.later, was.later); calm = was.calm ∙ seen.calm }

-- ---- traces

-- all traces were read, and the run goes on behind them
pub record Reached (digest : List ℕ) (names : List (List ℕ)) (before : ℕ) (next : List (List Edge) → Plan) (s : World) (o : WorkEnd) (t : World) : Type 0 where
  pub sets : List (List Edge)
  pub shelf : ShelfView
  pub seen : IsSeen s.shelf shelf
  pub accepted : IfSome s.shelf.files (λ files. AreAccepted files digest names before sets)
  pub went : Went (next sets) (on_shelf s shelf) o t

-- what one trace more makes of what was reached
with_first : (digest name bytes : List ℕ) (names : List (List ℕ)) (before : ℕ) (es : List Edge) (next : List (List Edge) → Plan) (s : World) (o : WorkEnd) (t : World)
    → IfSome s.shelf.files (λ files. files name ≡ Some bytes) → length bytes ≤ 16777216 → trace bytes digest ≡ Ok es → before + length es ≤ 16777216
    → Reached digest names (before + length es) (λ rest. next (es ∷ rest)) s o t → Reached digest (name ∷ names) before next s o t
with_first digest name bytes names before es next s o t there short accepted few r = record {
  sets = es ∷ r.sets;
  shelf = r.shelf;
  seen = r.seen;
  accepted = of_both s.shelf.files (λ files. files name ≡ Some bytes) (λ files. AreAccepted files digest names (before + length es) r.sets) (λ files. AreAccepted files digest (name ∷ names) before (es ∷ r.sets))
      (λ files here rest. (record { content = bytes; there = here; short = short; accepted = accepted; few = few }, rest)) there r.accepted;
  went = r.went;
}

later_reached : {A : Type 0} {B C : Type 0} → (B → C) → A ⊎ B → A ⊎ C
later_reached f (inl a) = inl a
later_reached f (inr b) = inr (f b)

counted_course : (all : List (List ℕ)) (first last : ℕ) (digest name bytes : List ℕ) (names : List (List ℕ)) (word before : ℕ) (next : List (List Edge) → Plan) (s : World) (o : WorkEnd) (t : World) (v : ShelfView) (es : List Edge) (b : Bool)
    → nat_le (before + length es) 16777216 ≡ b → IsSeen s.shelf v → IfSome s.shelf.files (λ files. files name ≡ Some bytes) → length bytes ≤ 16777216 → trace bytes digest ≡ Ok es
    → ((es : List Edge) → Went (traces_part digest names (word + 1) (before + length es) (λ rest. next (es ∷ rest))) (on_shelf s v) o t
    → Halts all first last s o t ⊎ Reached digest names (before + length es) (λ rest. next (es ∷ rest)) s o t)
    → Went (checked (cond b (Ok es) (Err (Limited (limits.Edges 16777216)))) (λ es. traces_part digest names (word + 1) (before + length es) (λ rest. next (es ∷ rest)))) (on_shelf s v) o t
    → Halts all first last s o t ⊎ Reached digest (name ∷ names) before next s o t
unfolding Went
counted_course all first last digest name bytes names word before next s o t v es true few seen there short accepted later went =
    later_reached (with_first digest name bytes names before es next s o t there short accepted (leb-true (before + length es) 16777216 few)) (later es went)
counted_course all first last digest name bytes names word before next s o t v es false few seen there short accepted later (inl out) = inl (v, out.1, seen.same, Wants out.0)
counted_course all first last digest name bytes names word before next s o t v es false few seen there short accepted later (inr (is, same)) = inl (v, same, seen.same, Passes (limits.Edges 16777216) (inr (inr refl)) is)

trace_course : (all : List (List ℕ)) (first last : ℕ) (digest name bytes : List ℕ) (names : List (List ℕ)) (word before : ℕ) (next : List (List Edge) → Plan) (s : World) (o : WorkEnd) (t : World) (v : ShelfView) (r : Result (List Edge) trace_file.Refused)
    → trace bytes digest ≡ r → first ≤ word → word ≤ last → IsSeen s.shelf v → IfSome s.shelf.files (λ files. files name ≡ Some bytes) → length bytes ≤ 16777216
    → ((es : List Edge) → Went (traces_part digest names (word + 1) (before + length es) (λ rest. next (es ∷ rest))) (on_shelf s v) o t
    → Halts all first last s o t ⊎ Reached digest names (before + length es) (λ rest. next (es ∷ rest)) s o t)
    → Went (checked (counted before (edges_of_word word r)) (λ es. traces_part digest names (word + 1) (before + length es) (λ rest. next (es ∷ rest)))) (on_shelf s v) o t
    → Halts all first last s o t ⊎ Reached digest (name ∷ names) before next s o t
unfolding Went
trace_course all first last digest name bytes names word before next s o t v (Ok es) accepted low high seen there short later went =
    counted_course all first last digest name bytes names word before next s o t v es (nat_le (before + length es) 16777216) refl seen there short accepted later went
trace_course all first last digest name bytes names word before next s o t v (Err refused) is low high seen there short later (inl out) = inl (v, out.1, seen.same, Wants out.0)
trace_course all first last digest name bytes names word before next s o t v (Err refused) is low high seen there short later (inr (ends, same)) = inl (v, same, seen.same, Refuses word refused.number refused.place low high ends)

traces_course : (all : List (List ℕ)) (first last : ℕ) (digest : List ℕ) (names : List (List ℕ)) (word before : ℕ) (next : List (List Edge) → Plan) (s : World) (o : WorkEnd) (t : World) (v : ShelfView)
    → ((files : Files) → IsOneAbsent names files → IsOneAbsent all files) → first ≤ word → word + length names ≤ last + 1 → IsSeen s.shelf v
    → Went (traces_part digest names word before next) (on_shelf s v) o t → Halts all first last s o t ⊎ Reached digest names before next s o t
unfolding Went traces_part
traces_course all first last digest [] word before next s o t v up low high seen went =
    inr (record { sets = []; shelf = v; seen = seen; accepted = of_all s.shelf.files (λ files. AreAccepted files digest [] before []) (λ files. tt); went = went })
traces_course all first last digest (name ∷ names) word before next s o t v up low high seen (inl out) = inl (v, out.1, seen.same, Wants out.0)
traces_course all first last digest (name ∷ names) word before next s o t v up low high seen (inr (w, Ok bytes, was, went)) =
    trace_course all first last digest name bytes names word before next s o t w (trace bytes digest) refl low (omega (arith, high)) (seen_on name 16777216 bytes s.shelf v w seen was)
    (told_before s.shelf.files v.files (λ files. files name ≡ Some bytes) seen.same was.gives.1) was.gives.0
    (λ es went. traces_course all first last digest names (word + 1) (before + length es) (λ rest. next (es ∷ rest)) s o t w (λ files h. up files (inr h)) (omega (arith, low)) (omega (arith, high)) (seen_on name 16777216 bytes s.shelf v w seen was) went)
    went
traces_course all first last digest (name ∷ names) word before next s o t v up low high seen (inr (w, Err shelf_errors.Failed, was, (is, same))) =
    inl (
      w,
      same,
      was.same ∙ seen.same,
      Misses is (rises s.shelf.faults v.faults w.faults seen.later was.gives.0)
          (λ calm. of_one s.shelf.files (λ files. files name ≡ None) (IsOneAbsent all) (λ files h. up files (inl h)) (told_before s.shelf.files v.files (λ files. files name ≡ None) seen.same (was.gives.1 (seen.calm ∙ calm)))),
    )
traces_course all first last digest (name ∷ names) word before next s o t v up low high seen (inr (w, Err shelf_errors.TooLong, was, (is, same))) = inl (w, same, was.same ∙ seen.same, Passes (limits.File 16777216) (inr (inl refl)) is)
traces_course all first last digest (name ∷ names) word before next s o t v up low high seen (inr (w, Err shelf_errors.Memory, was, (is, same))) = inl (w, same, was.same ∙ seen.same, Wants is)

-- ---- an original and its traces

-- all was read, and the run goes on behind it
pub record ReachedAll (original : List ℕ) (names : List (List ℕ)) (next : Exe → List (List Edge) → Plan) (s : World) (o : WorkEnd) (t : World) : Type 0 where
  pub exe : Exe
  pub sets : List (List Edge)
  pub shelf : ShelfView
  pub seen : IsSeen s.shelf shelf
  pub given : IfSome s.shelf.files (λ files. AreGiven original names files exe sets)
  pub went : Went (next exe sets) (on_shelf s shelf) o t

-- the original and its traces, whatever follows
abbrev pub given_part : List ℕ → List (List ℕ) → ℕ → (Exe → List (List Edge) → Plan) → Plan
given_part original names word next = subject_part original word (λ subject. traces_part subject.digest names (word + 1) 0 (next subject.exe))

with_original : (original bytes : List ℕ) (names : List (List ℕ)) (exe : Exe) (next : Exe → List (List Edge) → Plan) (s : World) (o : WorkEnd) (t : World)
    → IfSome s.shelf.files (λ files. files original ≡ Some bytes) → length bytes ≤ 16777216 → elf Original bytes ≡ Ok exe
    → Reached (sha256 bytes) names 0 (next exe) s o t → ReachedAll original names next s o t
with_original original bytes names exe next s o t there short accepted r = record {
  exe = exe;
  sets = r.sets;
  shelf = r.shelf;
  seen = r.seen;
  given = of_both s.shelf.files (λ files. files original ≡ Some bytes) (λ files. AreAccepted files (sha256 bytes) names 0 r.sets) (λ files. AreGiven original names files exe r.sets)
      (λ files here rest. record { content = bytes; there = here; short = short; accepted = accepted; traces = rest }) there r.accepted;
  went = r.went;
}

exe_course : (original bytes : List ℕ) (names : List (List ℕ)) (word : ℕ) (next : Exe → List (List Edge) → Plan) (s : World) (o : WorkEnd) (t : World) (v : ShelfView) → Fetched original 16777216 (Ok bytes) s.shelf v
    → (r : Result Exe Refused) → elf Original bytes ≡ r → Went (checked (with_digest bytes (of_word word r)) (λ subject. traces_part subject.digest names (word + 1) 0 (next subject.exe))) (on_shelf s v) o t
    → Halts (original ∷ names) word (word + length names) s o t ⊎ ReachedAll original names next s o t
unfolding Went
exe_course original bytes names word next s o t v was (Ok exe) accepted went =
    later_reached (with_original original bytes names exe next s o t was.gives.1 was.gives.0 accepted)
    (traces_course (original ∷ names) word (word + length names) (sha256 bytes) names (word + 1) 0 (next exe) s o t v (λ files h. inr h) (omega arith) (omega arith) (record { same = was.same; later = was.later; calm = was.calm }) went)
exe_course original bytes names word next s o t v was (Err refused) is (inl out) = inl (v, out.1, was.same, Wants out.0)
exe_course original bytes names word next s o t v was (Err refused) is (inr (ends, same)) = inl (v, same, was.same, Refuses word refused.number refused.place (omega arith) (omega arith) ends)

pub read_course : (original : List ℕ) (names : List (List ℕ)) (word : ℕ) (next : Exe → List (List Edge) → Plan) (s : World) (o : WorkEnd) (t : World) → Went (given_part original names word next) s o t
    → Halts (original ∷ names) word (word + length names) s o t ⊎ ReachedAll original names next s o t
unfolding Went
read_course original names word next s o t (inl out) = inl (s.shelf, out.1, refl, Wants out.0)
read_course original names word next s o t (inr (v, Ok bytes, was, went)) = exe_course original bytes names word next s o t v was (elf Original bytes) refl went
read_course original names word next s o t (inr (v, Err shelf_errors.Failed, was, (is, same))) =
    inl (v, same, was.same, Misses is was.gives.0 (λ calm. of_one s.shelf.files (λ files. files original ≡ None) (IsOneAbsent (original ∷ names)) (λ files h. inl h) (was.gives.1 calm)))
read_course original names word next s o t (inr (v, Err shelf_errors.TooLong, was, (is, same))) = inl (v, same, was.same, Passes (limits.File 16777216) (inl refl) is)
read_course original names word next s o t (inr (v, Err shelf_errors.Memory, was, (is, same))) = inl (v, same, was.same, Wants is)

-- ---- where there are no traces, the digest is not asked for

same_exe : (bytes : List ℕ) (r : Result Exe Cause) (next : Exe → Plan) (s : World) (o : WorkEnd) (t : World) → Went (checked r next) s o t → Went (checked (with_digest bytes r) (λ subject. next subject.exe)) s o t
same_exe bytes (Ok exe) next s o t went = went
same_exe bytes (Err cause) next s o t went = went

pub without_digest : (original : List ℕ) (word : ℕ) (next : Exe → Plan) (s : World) (o : WorkEnd) (t : World) → Went (original_part original word next) s o t → Went (subject_part original word (λ subject. next subject.exe)) s o t
unfolding Went
without_digest original word next s o t (inl out) = inl out
without_digest original word next s o t (inr (v, Ok bytes, was, went)) = inr (v, Ok bytes, was, same_exe bytes (of_word word (elf Original bytes)) next (on_shelf s v) o t went)
without_digest original word next s o t (inr (v, Err shelf_errors.Failed, was, went)) = inr (v, Err shelf_errors.Failed, was, went)
without_digest original word next s o t (inr (v, Err shelf_errors.TooLong, was, went)) = inr (v, Err shelf_errors.TooLong, was, went)
without_digest original word next s o t (inr (v, Err shelf_errors.Memory, was, went)) = inr (v, Err shelf_errors.Memory, was, went)
