-- What the answers of `build` mean, by the courses that its work can take.
use Rattle.std.proofs.Common.{◌≡◌, ◌⊎◌, ◌≤◌, nat_le, cond, ℕ, List, [], ◌∷◌, ◌++◌, length, Option, Some, IfSome, Result, Ok, Err, IsTrue, refl, sym, ◌∙◌, ap, subst, inl, inr, arith}
use Rattle.std.specs.Option.{option_map}
use Rattle.br_outside.specs.Files.{Files, put}
use Rattle.br_outside.specs.Outside.{ShelfView, StreamView}
use Rattle.elf_read.specs.declared.exe.Exe.{Exe}
use Rattle.sha2.specs.Sha256.{sha256}
use Rattle.trace_file.specs.Edges.{Edge, union_of}
use Rattle.flow_graph.specs.declared.error.TheConstants.{MAX_BLOCKS}
use Rattle.flow_graph.specs.GraphOf.{graph_of}
use Rattle.code_layout.specs.declared.place.TheConstants.{MAX_CODE}
use Rattle.code_layout.specs.declared.built.Built.{Built}
use Rattle.code_layout.specs.Linked.{code_of}
use Rattle.code_layout.specs.Image.{image, built_of}
use Rattle.build_core.specs.ImageLaw.{ImageLaw}
use Rattle.build_core.specs.ImageQuick.{ImageQuick}
use Rattle.top_plan.specs.World.{World, on_shelf, on_report}
use Rattle.top_plan.specs.Texts.{WorkEnd, end_line, end_text, end_status, cause_text, object_text}
use Rattle.top_plan.specs.Plan.{Stores as storing}
use Rattle.top_plan.specs.Parts.{checked}
use Rattle.top_plan.specs.Expected.{HasFailed, NoInput, expected, IsExact}
use Rattle.top_plan.specs.Happened.{TellsLine, Reported, Happened}
use Rattle.top_plan.specs.Outcomes.{done_with}
use Rattle.top_plan.specs.declared.ends.Halt.TheVariants.{Because}
use Rattle.top_plan.specs.declared.ends.Cause.{Cause}
use Rattle.top_plan.specs.declared.ends.Cause.TheVariants.{Limited}
use Rattle.top_plan.specs.declared.ends.Object.TheVariants as objects
use Rattle.top_plan.specs.declared.ends.Limit.{Limit}
use Rattle.top_plan.specs.declared.ends.Limit.TheVariants as limits
use Rattle.top_plan.proofs.Followed.{told_to}
use Rattle.top_plan.proofs.Telling.{HowTold, Taken, Refused as Failed, Lacked, how_told}
use Rattle.top_files.specs.Answers.{Says, Unstored, OnlyUnder, UnlessBroken}
use Rattle.top_files.specs.ReadMeaning.{AreGiven, IsOneAbsent, ReadsContent}
use Rattle.top_files.proofs.PartTurns.{checked_quiet, reading_quiet, untaken}
use Rattle.top_files.proofs.ReadMeant.{IsQuiet, Did, chosen, says, has_stored, reading_means}
use Rattle.top_build.specs.BuildPlan.{limited_built, image_part, built_end, built_line, build_plan}
use Rattle.top_build.specs.BuildMeaning.{IsStored, Stores, BuildsImage, BuildsSets, IsBuildLimit, IsRefusal, MeansBuild}
use Rattle.top_build.proofs.EdgesGiven.{edges_given}
use Rattle.top_build.proofs.Courses.{Course, Wants, Misses, Passes, Refuses, Breaks, Keeps, CourseTo, course}

-- the report line of an end
abbrev pub Line : WorkEnd → StreamView → ℕ → StreamView → Type 0
Line o = TellsLine (end_line o) (end_status o)

-- the world with another shelf and report
abbrev pub left_as : World → ShelfView → StreamView → World
left_as s v r = on_report (on_shelf s v) r

-- an answer that is neither 3 nor 4 is that of the end, and its line was given
said : (o : WorkEnd) (old new : StreamView) (result k : ℕ) → Line o old result new → result ≡ k → (k ≡ 3 → ⊥) → (k ≡ 4 → ⊥) → (end_status o ≡ k) × (new.bytes ≡ option_map (λ w. w ++ end_text o) old.bytes)
said o old new result k line is not_3 not_4 = by_told (how_told (end_line o) (end_status o) old result new line)
  where
    by_told : HowTold (end_line o) (end_status o) old result new → (end_status o ≡ k) × (new.bytes ≡ option_map (λ w. w ++ end_text o) old.bytes)
    by_told (Taken status grew same) = (sym status ∙ is, grew)
    by_told (Failed status rose loud) = absurd (not_3 (sym is ∙ status))
    by_told (Lacked status same) = absurd (not_4 (sym is ∙ status))

-- an answer 3 is that of the end, and its line was given, or the report failed
said_3 : (o : WorkEnd) (s : World) (v : ShelfView) (new : StreamView) (result : ℕ) → Line o s.report result new → result ≡ 3
    → HasFailed objects.Report s (left_as s v new) ⊎ ((end_status o ≡ 3) × (new.bytes ≡ option_map (λ w. w ++ end_text o) s.report.bytes))
said_3 o s v new result line is = by_told (how_told (end_line o) (end_status o) s.report result new line)
  where
    by_told : HowTold (end_line o) (end_status o) s.report result new → HasFailed objects.Report s (left_as s v new) ⊎ ((end_status o ≡ 3) × (new.bytes ≡ option_map (λ w. w ++ end_text o) s.report.bytes))
    by_told (Taken status grew same) = inr (sym status ∙ is, grew)
    by_told (Failed status rose loud) = inl (record { rose = rose; loud = loud })
    by_told (Lacked status same) = absurd (let z : 4 ≡ 3 = sym status ∙ is in omega arith)

line_is : (o x : WorkEnd) (a b : Option (List ℕ)) → b ≡ option_map (λ w. w ++ end_text o) a → o ≡ x → b ≡ option_map (λ w. w ++ end_text x) a
line_is o x a b h is = let P : WorkEnd → Type 0 = λ o. b ≡ option_map (λ w. w ++ end_text o) a in subst P is h

-- the end has another status
other : {A : Type 0} (o x : WorkEnd) (k : ℕ) → o ≡ x → end_status o ≡ k → (end_status x ≡ k → ⊥) → A
other o x k is h apart = absurd (apart (sym (ap end_status is) ∙ h))

-- what each original's image with edges does, and how fast
abbrev pub Law : Type 0
Law = ImageLaw × ImageQuick

kept_image : (name original : List ℕ) (traces : List (List ℕ)) (exe : Exe) (sets : List (List Edge)) (files : Files) (s t : World) → Law → IfSome s.shelf.files (λ files. AreGiven original traces files exe sets)
    → length (graph_of exe (union_of sets)) ≤ MAX_BLOCKS → length (code_of exe (union_of sets)) ≤ MAX_CODE
    → t.shelf.files ≡ option_map (put name (Some (image exe (union_of sets)))) s.shelf.files → s.shelf.files ≡ Some files → IsStored name original traces files t
kept_image name original traces exe sets files s t law given few short stored told =
    let here : AreGiven original traces files exe sets = told_to s.shelf.files files (λ files. AreGiven original traces files exe sets) told given in
    let edges = edges_given files (sha256 here.content) traces sets here.traces in
    let laws = law.0 here.content exe (union_of sets) here.accepted edges few short in
    record {
      exe = exe;
      sets = sets;
      given = here;
      guest = laws.0;
      few = few;
      short = short;
      stored = stored ∙ ap (option_map (put name (Some (image exe (union_of sets))))) told;
      preserved = laws.1;
      covered = laws.2;
      pace = law.1 here.content exe (union_of sets) here.accepted edges few short;
    }

-- the status of an end, and its line
record Said (o : WorkEnd) (k : ℕ) (s : World) (r : StreamView) : Type 0 where
  status : end_status o ≡ k
  line : r.bytes ≡ option_map (λ w. w ++ end_text o) s.report.bytes

done : (name original : List ℕ) (traces : List (List ℕ)) (s : World) (o : WorkEnd) (v : ShelfView) (r : StreamView) → Law → Course name original traces s.shelf o v → Said o 0 s r
    → (files : Files) → s.shelf.files ≡ Some files → (stored : IsStored name original traces files (left_as s v r)) × Says (built_line (built_of stored.exe (union_of stored.sets))) s (left_as s v r)
unfolding kept_image
done name original traces s o v r law (Wants m same) z files told = other o _ 0 m z.status (λ h. omega (arith, h))
done name original traces s o v r law (Misses m same rose absent) z files told = other o _ 0 m z.status (λ h. omega (arith, h))
done name original traces s o v r law (Passes limit which m same) z files told = other o _ 0 m z.status (λ h. omega (arith, h))
done name original traces s o v r law (Refuses word number place low high m same) z files told = other o _ 0 m z.status (λ h. omega (arith, h))
done name original traces s o v r law (Breaks m same rose loud) z files told = other o _ 0 m z.status (λ h. omega (arith, h))
done name original traces s o v r law (Keeps exe sets given few short stored (inr m)) z files told = other o _ 0 m z.status (λ h. omega (arith, h))
done name original traces s o v r law (Keeps exe sets given few short stored (inl is)) z files told =
    (kept_image name original traces exe sets files s (left_as s v r) law given few short stored told, line_is o (Ok (done_with (built_line (built_of exe (union_of sets))))) s.report.bytes r.bytes z.line is)

refused_2 : (name original : List ℕ) (traces : List (List ℕ)) (s : World) (o : WorkEnd) (v : ShelfView) (r : StreamView) → Course name original traces s.shelf o v → Said o 2 s r
    → Unstored s (left_as s v r) × IsRefusal traces s (left_as s v r)
refused_2 name original traces s o v r (Wants m same) z = other o _ 2 m z.status (λ h. omega (arith, h))
refused_2 name original traces s o v r (Misses m same rose absent) z = other o _ 2 m z.status (λ h. omega (arith, h))
refused_2 name original traces s o v r (Passes limit which m same) z = other o _ 2 m z.status (λ h. omega (arith, h))
refused_2 name original traces s o v r (Refuses word number place low high m same) z = (same, record { word = word; number = number; place = place; first = low; last = high; line = line_is o _ s.report.bytes r.bytes z.line m })
refused_2 name original traces s o v r (Breaks m same rose loud) z = other o _ 2 m z.status (λ h. omega (arith, h))
refused_2 name original traces s o v r (Keeps exe sets given few short stored (inr m)) z = other o _ 2 m z.status (λ h. omega (arith, h))
refused_2 name original traces s o v r (Keeps exe sets given few short stored (inl m)) z = other o _ 2 m z.status (λ h. omega (arith, h))

limit_7 : (name original : List ℕ) (traces : List (List ℕ)) (s : World) (o : WorkEnd) (v : ShelfView) (r : StreamView) → Course name original traces s.shelf o v → Said o 7 s r
    → Unstored s (left_as s v r) × (limit : Limit) × IsBuildLimit limit × Says (cause_text (Limited limit)) s (left_as s v r)
limit_7 name original traces s o v r (Wants m same) z = other o _ 7 m z.status (λ h. omega (arith, h))
limit_7 name original traces s o v r (Misses m same rose absent) z = other o _ 7 m z.status (λ h. omega (arith, h))
limit_7 name original traces s o v r (Passes limit which m same) z = (same, limit, which, line_is o _ s.report.bytes r.bytes z.line m)
limit_7 name original traces s o v r (Refuses word number place low high m same) z = other o _ 7 m z.status (λ h. omega (arith, h))
limit_7 name original traces s o v r (Breaks m same rose loud) z = other o _ 7 m z.status (λ h. omega (arith, h))
limit_7 name original traces s o v r (Keeps exe sets given few short stored (inr m)) z = other o _ 7 m z.status (λ h. omega (arith, h))
limit_7 name original traces s o v r (Keeps exe sets given few short stored (inl m)) z = other o _ 7 m z.status (λ h. omega (arith, h))

-- what is known where the shelf is named
record IsNamed (original : List ℕ) (traces : List (List ℕ)) (s : World) (v : ShelfView) (r : StreamView) : Type 0 where
  line : Says (object_text objects.Shelf) s (left_as s v r)
  absent : IsTrue s.shelf.calm → Unstored s (left_as s v r) × IfSome s.shelf.files (IsOneAbsent (original ∷ traces))

shelf_3 : (name original : List ℕ) (traces : List (List ℕ)) (s : World) (o : WorkEnd) (v : ShelfView) (r : StreamView) → Course name original traces s.shelf o v → Said o 3 s r → IsNamed original traces s v r
shelf_3 name original traces s o v r (Wants m same) z = other o _ 3 m z.status (λ h. omega (arith, h))
shelf_3 name original traces s o v r (Misses m same rose absent) z = record { line = line_is o _ s.report.bytes r.bytes z.line m; absent = λ calm. (same, absent calm) }
shelf_3 name original traces s o v r (Passes limit which m same) z = other o _ 3 m z.status (λ h. omega (arith, h))
shelf_3 name original traces s o v r (Refuses word number place low high m same) z = other o _ 3 m z.status (λ h. omega (arith, h))
shelf_3 name original traces s o v r (Breaks m same rose loud) z = record { line = line_is o _ s.report.bytes r.bytes z.line m; absent = λ calm. absurd (loud calm) }
shelf_3 name original traces s o v r (Keeps exe sets given few short stored (inr m)) z = other o _ 3 m z.status (λ h. omega (arith, h))
shelf_3 name original traces s o v r (Keeps exe sets given few short stored (inl m)) z = other o _ 3 m z.status (λ h. omega (arith, h))

-- no course ends with any other status
never : (name original : List ℕ) (traces : List (List ℕ)) (old : ShelfView) (o : WorkEnd) (v : ShelfView) (k : ℕ) → Course name original traces old o v → (0 ≡ k → ⊥) → (2 ≡ k → ⊥) → (3 ≡ k → ⊥) → (4 ≡ k → ⊥) → (7 ≡ k → ⊥) → end_status o ≡ k → ⊥
never name original traces old o v k (Wants m same) n0 n2 n3 n4 n7 z = other o _ k m z n4
never name original traces old o v k (Misses m same rose absent) n0 n2 n3 n4 n7 z = other o _ k m z n3
never name original traces old o v k (Passes limit which m same) n0 n2 n3 n4 n7 z = other o _ k m z n7
never name original traces old o v k (Refuses word number place low high m same) n0 n2 n3 n4 n7 z = other o _ k m z n2
never name original traces old o v k (Breaks m same rose loud) n0 n2 n3 n4 n7 z = other o _ k m z n3
never name original traces old o v k (Keeps exe sets given few short stored (inr m)) n0 n2 n3 n4 n7 z = other o _ k m z n4
never name original traces old o v k (Keeps exe sets given few short stored (inl m)) n0 n2 n3 n4 n7 z = other o _ k m z n0

-- what is known of the shelf whatever the status is
record IsLeft (name original : List ℕ) (traces : List (List ℕ)) (s t : World) : Type 0 where
  memory : Unstored s t ⊎ (HasFailed objects.Shelf s t ⊎ Stores name original traces s t)
  others : OnlyUnder name s t

left : (name original : List ℕ) (traces : List (List ℕ)) (s : World) (o : WorkEnd) (v : ShelfView) (r : StreamView) → Law → Course name original traces s.shelf o v → IsLeft name original traces s (left_as s v r)
left name original traces s o v r law (Wants m same) = record { memory = inl same; others = inl same }
left name original traces s o v r law (Misses m same rose absent) = record { memory = inl same; others = inl same }
left name original traces s o v r law (Passes limit which m same) = record { memory = inl same; others = inl same }
left name original traces s o v r law (Refuses word number place low high m same) = record { memory = inl same; others = inl same }
left name original traces s o v r law (Breaks m same rose loud) = record { memory = inr (inl (record { rose = rose; loud = loud })); others = inr same }
left name original traces s o v r law (Keeps exe sets given few short stored ends) = record {
  memory = inr (inr (λ files told. kept_image name original traces exe sets files s (left_as s v r) law given few short stored told));
  others = inr (Some (image exe (union_of sets)), stored);
}

-- a line that was said, in one record
so : (o : WorkEnd) (s : World) (r : StreamView) (result k : ℕ) → Line o s.report result r → result ≡ k → (k ≡ 3 → ⊥) → (k ≡ 4 → ⊥) → Said o k s r
so o s r result k line is not_3 not_4 = let h = said o s.report r result k line is not_3 not_4 in record { status = h.0; line = h.1 }

so_3 : (name original : List ℕ) (traces : List (List ℕ)) (o : WorkEnd) (s : World) (v : ShelfView) (r : StreamView) (result : ℕ) → Course name original traces s.shelf o v → Line o s.report result r → result ≡ 3 → HasFailed objects.Report s (left_as s v r) ⊎ IsNamed original traces s v r
so_3 name original traces o s v r result c line is = named (said_3 o s v r result line is)
  where
    named : HasFailed objects.Report s (left_as s v r) ⊎ ((end_status o ≡ 3) × (r.bytes ≡ option_map (λ w. w ++ end_text o) s.report.bytes)) → HasFailed objects.Report s (left_as s v r) ⊎ IsNamed original traces s v r
    named (inl failed) = inl failed
    named (inr h) = inr (shelf_3 name original traces s o v r c (record { status = h.0; line = h.1 }))

right : {A B C : Type 0} → A ⊎ B → (B → C) → A ⊎ C
right (inl a) f = inl a
right (inr b) f = inr (f b)

no_guest : (name original : List ℕ) (traces : List (List ℕ)) (o : WorkEnd) (s : World) (v : ShelfView) (r : StreamView) (result : ℕ) → Course name original traces s.shelf o v → Line o s.report result r → (result ≡ 5) ⊎ (result ≡ 6) → ⊥
no_guest name original traces o s v r result c line (inl is) = never name original traces s.shelf o v 5 c (λ h. omega arith) (λ h. omega arith) (λ h. omega arith) (λ h. omega arith) (λ h. omega arith) (so o s r result 5 line is (λ h. omega arith) (λ h. omega arith)).status
no_guest name original traces o s v r result c line (inr is) = never name original traces s.shelf o v 6 c (λ h. omega arith) (λ h. omega arith) (λ h. omega arith) (λ h. omega arith) (λ h. omega arith) (so o s r result 6 line is (λ h. omega arith) (λ h. omega arith)).status

-- ---- over a shelf that tells

image_means : (name : List ℕ) (exe : Exe) (edges : List Edge) (files : Files) (s : World) (result : ℕ) (t : World) → IsQuiet files s t → Did (image_part name exe edges built_end) files s result t → BuildsImage name exe edges files s result t
unfolding expected
image_means name exe edges files s result t h w =
    let b = built_of exe edges in
    let long : Result Built Cause = Err (Limited (limits.Code MAX_CODE)) in
    let many : Result Built Cause = Err (Limited (limits.Blocks MAX_BLOCKS)) in
    let P : Result Built Cause → Type 0 = λ r. Did (checked r (λ b. storing name b.bytes (built_end b))) files s result t in
    let blocks = chosen P (length (graph_of exe edges)) MAX_BLOCKS (cond (nat_le (length (code_of exe edges)) MAX_CODE) (Ok b) long) many w in
    record {
      many = λ past. says (Because (Limited (limits.Blocks MAX_BLOCKS))) files s result t h (blocks.1 past);
      long = λ few past. says (Because (Limited (limits.Code MAX_CODE))) files s result t h ((chosen P (length (code_of exe edges)) MAX_CODE (Ok b) long (blocks.0 few)).1 past);
      built = λ few short. has_stored name (image exe edges) (built_line b) files s result t h ((chosen P (length (code_of exe edges)) MAX_CODE (Ok b) long (blocks.0 few)).0 short);
    }

-- nothing is asked of the input
pub build_quiet : (name original : List ℕ) (traces : List (List ℕ)) → NoInput (build_plan name original traces)
unfolding NoInput
build_quiet name original traces = reading_quiet original traces 2 _ (λ subject sets. checked_quiet (limited_built (built_of subject.exe (union_of sets))) (λ b. storing name b.bytes (built_end b)) (λ b. tt))

-- by the contents, in the order of the words
abbrev pub Told : List ℕ → List ℕ → List (List ℕ) → World → ℕ → World → Type 0
Told name original traces s result t = (files : Files) → s.shelf.files ≡ Some files
    → UnlessBroken (ReadsContent (BuildsSets name files s result t) traces 2 (files original) files s result t) s result t

told_means : (name original : List ℕ) (traces : List (List ℕ)) (s : World) (result : ℕ) (t : World) → Happened (build_plan name original traces) s result t → IsExact (build_plan name original traces) s result t → Told name original traces s result t
told_means name original traces s result t happened exact files told =
    let quiet : NoInput (build_plan name original traces) = build_quiet name original traces in
    let same : t.input ≡ s.input = untaken (build_plan name original traces) s result t quiet happened in
    let h : IsQuiet files s t = record { told = told; input = ap (λ v. v.bytes) same } in
    reading_means original traces 2 (λ subject sets. image_part name subject.exe (union_of sets) built_end) (BuildsSets name files s result t) files s result t h
    (λ subject sets w. image_means name subject.exe (union_of sets) files s result t h w) (exact files [] (record { shelf = inr told; input = inl quiet }))

-- ---- all

means_course : (name original : List ℕ) (traces : List (List ℕ)) (o : WorkEnd) (s : World) (v : ShelfView) (r : StreamView) (result : ℕ) → Law → Told name original traces s result (left_as s v r) → Course name original traces s.shelf o v → Line o s.report result r → MeansBuild name original traces s result (left_as s v r)
means_course name original traces o s v r result law told c line = record {
  told = told;
  done = λ is. done name original traces s o v r law c (so o s r result 0 line is (λ h. omega arith) (λ h. omega arith));
  usage = λ is. never name original traces s.shelf o v 1 c (λ h. omega arith) (λ h. omega arith) (λ h. omega arith) (λ h. omega arith) (λ h. omega arith) (so o s r result 1 line is (λ h. omega arith) (λ h. omega arith)).status;
  refused = λ is. refused_2 name original traces s o v r c (so o s r result 2 line is (λ h. omega arith) (λ h. omega arith));
  outside = λ is. right (so_3 name original traces o s v r result c line is) (λ n. n.line);
  absent = λ is calm. right (so_3 name original traces o s v r result c line is) (λ n. n.absent calm);
  memory = λ is. (left name original traces s o v r law c).memory;
  limit = λ is. limit_7 name original traces s o v r c (so o s r result 7 line is (λ h. omega arith) (λ h. omega arith));
  no_guest = no_guest name original traces o s v r result c line;
  others = (left name original traces s o v r law c).others;
  input = refl;
  out = refl;
}

-- the world after the report
after_report : (name original : List ℕ) (traces : List (List ℕ)) (o : WorkEnd) (s : World) (v : ShelfView) (result : ℕ) (t : World) → Law → Told name original traces s result t → Course name original traces s.shelf o v → Reported o (on_shelf s v) result t
    → MeansBuild name original traces s result t
after_report name original traces o s v result t law known c (r, told, same) =
    let P : World → Type 0 = λ t. MeansBuild name original traces s result t in
    let Q : World → Type 0 = λ t. Told name original traces s result t in
    subst P (sym same) (means_course name original traces o s v r result law (subst Q same known) c told)

taken : (name original : List ℕ) (traces : List (List ℕ)) (o : WorkEnd) (s m : World) (result : ℕ) (t : World) → Law → Told name original traces s result t → CourseTo name original traces s o m → Reported o m result t → MeansBuild name original traces s result t
taken name original traces o s m result t law known (v, same, c) reported =
    let P : World → Type 0 = λ m. Reported o m result t in after_report name original traces o s v result t law known c (subst P same reported)

-- What `build N E T..` answers means what it is to mean.
pub means_build : (name original : List ℕ) (traces : List (List ℕ)) (s : World) (result : ℕ) (t : World) → Law → Happened (build_plan name original traces) s result t → IsExact (build_plan name original traces) s result t → MeansBuild name original traces s result t
means_build name original traces s result t law (o, m, went, reported) exact =
    taken name original traces o s m result t law (told_means name original traces s result t (o, m, went, reported) exact) (course name original traces s o m went) reported
