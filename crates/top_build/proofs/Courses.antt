-- The courses that the work of `build` can take.
use Rattle.std.proofs.Common.{◌≡◌, ◌⊎◌, ◌≤◌, ◌+◌, nat_le, cond, Bool, true, false, ℕ, List, ◌∷◌, length, IfSome, Ok, Err, Option, Some, IsTrue, refl, ◌∙◌, ap, inl, inr}
use Rattle.std.specs.Option.{option_map}
use Rattle.std.proofs.lemmas.Bool.{leb-true}
use Rattle.br_outside.specs.Files.{Files, put}
use Rattle.br_outside.specs.Outside.{ShelfView, Rose, SameBut}
use Rattle.br_outside.specs.declared.errors.StoreError.TheVariants as store_errors
use Rattle.elf_read.specs.declared.exe.Exe.{Exe}
use Rattle.trace_file.specs.Edges.{Edge, union_of}
use Rattle.flow_graph.specs.declared.error.TheConstants.{MAX_BLOCKS}
use Rattle.flow_graph.specs.GraphOf.{graph_of}
use Rattle.code_layout.specs.declared.place.TheConstants.{MAX_CODE}
use Rattle.code_layout.specs.Linked.{code_of}
use Rattle.code_layout.specs.Image.{image, built_of}
use Rattle.top_plan.specs.World.{World, on_shelf}
use Rattle.top_plan.specs.Texts.{WorkEnd}
use Rattle.top_plan.specs.Plan.{Stores, Went}
use Rattle.top_plan.specs.Parts.{checked}
use Rattle.top_plan.specs.Outcomes.{done_with}
use Rattle.top_plan.specs.declared.ends.Halt.TheVariants.{Because, Outside, Memory}
use Rattle.top_plan.specs.declared.ends.Cause.TheVariants.{RefusedWord, Limited}
use Rattle.top_plan.specs.declared.ends.Object.TheVariants as objects
use Rattle.top_plan.specs.declared.ends.Limit.{Limit}
use Rattle.top_plan.specs.declared.ends.Limit.TheVariants as limits
use Rattle.top_plan.proofs.Kept.{rises}
use Rattle.top_files.specs.ReadMeaning.{AreGiven, IsOneAbsent}
use Rattle.top_files.proofs.ReadCourse.{IsSeen, Stopped, Halts, ReachedAll, read_course}
use Rattle.top_files.proofs.ReadCourse as reading
use Rattle.top_build.specs.BuildPlan.{image_part, built_end, build_plan, built_line}
use Rattle.top_build.specs.BuildMeaning.{IsBuildLimit}

-- what was done to the shelf by the work of `build N E T..`, and how it ended
pub data Course (name original : List ℕ) (traces : List (List ℕ)) (old : ShelfView) (o : WorkEnd) (new : ShelfView) : Type 0 where
  Wants : o ≡ Err Memory → new.files ≡ old.files → Course name original traces old o new
  Misses : o ≡ Err (Outside objects.Shelf) → new.files ≡ old.files → Rose old.faults new.faults → (IsTrue old.calm → IfSome old.files (IsOneAbsent (original ∷ traces))) → Course name original traces old o new
  Passes : (limit : Limit) → IsBuildLimit limit → o ≡ Err (Because (Limited limit)) → new.files ≡ old.files → Course name original traces old o new
  Refuses : (word number place : ℕ) → 2 ≤ word → word ≤ 2 + length traces → o ≡ Err (Because (RefusedWord word number place)) → new.files ≡ old.files → Course name original traces old o new
  Breaks : o ≡ Err (Outside objects.Shelf) → SameBut name old.files new.files → Rose old.faults new.faults → (IsTrue old.calm → ⊥) → Course name original traces old o new
  Keeps : (exe : Exe) (sets : List (List Edge)) → IfSome old.files (λ files. AreGiven original traces files exe sets) → length (graph_of exe (union_of sets)) ≤ MAX_BLOCKS → length (code_of exe (union_of sets)) ≤ MAX_CODE
      → new.files ≡ option_map (put name (Some (image exe (union_of sets)))) old.files → (o ≡ Ok (done_with (built_line (built_of exe (union_of sets))))) ⊎ (o ≡ Err Memory) → Course name original traces old o new

-- a course with the world that it leads to
abbrev pub CourseTo : List ℕ → List ℕ → List (List ℕ) → World → WorkEnd → World → Type 0
CourseTo name original traces s o t = (v : ShelfView) × (t ≡ on_shelf s v) × Course name original traces s.shelf o v

same_but : (name : List ℕ) (a b c : Option Files) → b ≡ a → SameBut name b c → SameBut name a c
same_but name a b c same (content, is) = (content, is ∙ ap (option_map (put name content)) same)

-- all was read, and what is left is to store the image
stores : (name original : List ℕ) (traces : List (List ℕ)) (exe : Exe) (sets : List (List Edge)) (s : World) (v : ShelfView) (o : WorkEnd) (t : World) → IsSeen s.shelf v
    → IfSome s.shelf.files (λ files. AreGiven original traces files exe sets) → length (graph_of exe (union_of sets)) ≤ MAX_BLOCKS → length (code_of exe (union_of sets)) ≤ MAX_CODE
    → Went (Stores name (image exe (union_of sets)) (built_end (built_of exe (union_of sets)))) (on_shelf s v) o t → CourseTo name original traces s o t
unfolding Went
stores name original traces exe sets s v o t seen given few short (inl (m, same)) = (v, same, Wants m seen.same)
stores name original traces exe sets s v o t seen given few short (inr (w, Ok u, kept, inl (m, same))) = (w, same, Keeps exe sets given few short (kept.gives.0 ∙ ap (option_map (put name (Some (image exe (union_of sets))))) seen.same) (inr m))
stores name original traces exe sets s v o t seen given few short (inr (w, Ok u, kept, inr (is, same))) = (w, same, Keeps exe sets given few short (kept.gives.0 ∙ ap (option_map (put name (Some (image exe (union_of sets))))) seen.same) (inl is))
stores name original traces exe sets s v o t seen given few short (inr (w, Err store_errors.Failed, kept, (is, same))) =
    (w, same, Breaks is (same_but name s.shelf.files v.files w.files seen.same kept.gives.0) (rises s.shelf.faults v.faults w.faults seen.later kept.gives.1) (λ calm. kept.gives.2 (seen.calm ∙ calm)))
stores name original traces exe sets s v o t seen given few short (inr (w, Err store_errors.Memory, kept, (is, same))) = (w, same, Wants is (kept.gives.0 ∙ seen.same))

-- first the blocks are counted, then the code
limits_first : (name original : List ℕ) (traces : List (List ℕ)) (exe : Exe) (sets : List (List Edge)) (s : World) (v : ShelfView) (o : WorkEnd) (t : World) (p q : Bool)
    → nat_le (length (graph_of exe (union_of sets))) MAX_BLOCKS ≡ p → nat_le (length (code_of exe (union_of sets))) MAX_CODE ≡ q → IsSeen s.shelf v
    → IfSome s.shelf.files (λ files. AreGiven original traces files exe sets)
    → Went (checked (cond p (cond q (Ok (built_of exe (union_of sets))) (Err (Limited (limits.Code MAX_CODE)))) (Err (Limited (limits.Blocks MAX_BLOCKS)))) (λ b. Stores name b.bytes (built_end b))) (on_shelf s v) o t
    → CourseTo name original traces s o t
unfolding Went
limits_first name original traces exe sets s v o t true true few short seen given went = stores name original traces exe sets s v o t seen given (leb-true _ MAX_BLOCKS few) (leb-true _ MAX_CODE short) went
limits_first name original traces exe sets s v o t true false few short seen given (inl (m, same)) = (v, same, Wants m seen.same)
limits_first name original traces exe sets s v o t true false few short seen given (inr (ends, same)) = (v, same, Passes (limits.Code MAX_CODE) (inr (inr refl)) ends seen.same)
limits_first name original traces exe sets s v o t false q few short seen given (inl (m, same)) = (v, same, Wants m seen.same)
limits_first name original traces exe sets s v o t false q few short seen given (inr (ends, same)) = (v, same, Passes (limits.Blocks MAX_BLOCKS) (inr (inl refl)) ends seen.same)

-- reading stopped
stops : (name original : List ℕ) (traces : List (List ℕ)) (old : ShelfView) (o : WorkEnd) (new : ShelfView) → new.files ≡ old.files → Stopped (original ∷ traces) 2 (2 + length traces) old o new → Course name original traces old o new
stops name original traces old o new same (reading.Wants is) = Wants is same
stops name original traces old o new same (reading.Misses is rose absent) = Misses is same rose absent
stops name original traces old o new same (reading.Passes limit which is) = Passes limit (inl which) is same
stops name original traces old o new same (reading.Refuses word number place low high is) = Refuses word number place low high is same

goes_on : (name original : List ℕ) (traces : List (List ℕ)) (s : World) (o : WorkEnd) (t : World)
    → Halts (original ∷ traces) 2 (2 + length traces) s o t ⊎ ReachedAll original traces (λ exe sets. image_part name exe (union_of sets) built_end) s o t → CourseTo name original traces s o t
goes_on name original traces s o t (inl (v, same, files, stopped)) = (v, same, stops name original traces s.shelf o v files stopped)
goes_on name original traces s o t (inr r) =
    limits_first name original traces r.exe r.sets s r.shelf o t (nat_le (length (graph_of r.exe (union_of r.sets))) MAX_BLOCKS) (nat_le (length (code_of r.exe (union_of r.sets))) MAX_CODE)
    refl refl r.seen r.given r.went

pub course : (name original : List ℕ) (traces : List (List ℕ)) (s : World) (o : WorkEnd) (t : World) → Went (build_plan name original traces) s o t → CourseTo name original traces s o t
course name original traces s o t went = goes_on name original traces s o t (read_course original traces 2 (λ exe sets. image_part name exe (union_of sets) built_end) s o t went)
