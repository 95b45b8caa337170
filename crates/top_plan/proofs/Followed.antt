-- A run over objects that tell what they hold comes to what is expected of its plan.
use Rattle.std.proofs.Common.{◌≡◌, ◌⊎◌, ◌<◌, ◌≤◌, ◌+◌, nat_le, ℕ, List, [], ◌∷◌, ◌++◌, length, drop, Option, Some, None, Ok, Err, IsTrue, IfSome, refl, sym, ◌∙◌, ap, subst, inl, inr, arith}
use Rattle.std.specs.Option.{option_map}
use Rattle.std.proofs.lemmas.Bool.{le-leb, lt-leb, cond-true, cond-false}
use Rattle.std.proofs.lemmas.List.{drop-drop}
use Rattle.br_outside.specs.Files.{Files, put}
use Rattle.br_outside.specs.Outside.{ShelfView, StreamView, Rose, Fetched, Stored}
use Rattle.br_outside.specs.declared.errors.ShelfError.TheVariants as shelf_errors
use Rattle.br_outside.specs.declared.errors.StoreError.TheVariants as store_errors
use Rattle.br_outside.specs.declared.errors.SinkError.TheVariants as sink_errors
use Rattle.top_plan.specs.World.{World, on_shelf, on_out, faults_of, calm_of}
use Rattle.top_plan.specs.Plan.{Plan, Ends, Fetches, Stores, Prints, Turned, Turns, Script, Went, IsAhead, IsTurned, AfterTurn, GoesOn, FailsInput, FailsOutput, FailsReport, WantsMemory}
use Rattle.top_plan.specs.Texts.{WorkEnd}
use Rattle.top_plan.specs.declared.ends.Halt.TheVariants.{Because, Outside, Memory}
use Rattle.top_plan.specs.declared.ends.Cause.TheVariants.{Limited}
use Rattle.top_plan.specs.declared.ends.Object.{Object}
use Rattle.top_plan.specs.declared.ends.Object.TheVariants as objects
use Rattle.top_plan.specs.declared.ends.Limit.TheVariants as limits
use Rattle.top_plan.specs.Expected.{Store, Ending, ends_with, after_fetch, turned_before, scripted, expected, NoFiles, NoInput, AllTurns, IsSparing, LeavesBut, IsTold, HasFailed}
use Rattle.top_plan.proofs.Kept.{IsKept, nothing, two_texts, shelf_kept, out_kept, rises, fails_later, failed_still, no_fault}
use Rattle.top_plan.proofs.TurnsKept.{turned_kept, ahead_kept}
use Rattle.top_plan.proofs.Unread.{input_stays, leaves_all}

-- a step of a run: the files, the input left, and what it printed and reported
record IsStep (files : Files) (left : List ℕ) (files' : Files) (left' : List ℕ) (printed reported : List ℕ) (s m : World) : Type 0 where
  kept : IsKept s m
  shelf : s.shelf.files ≡ Some files → m.shelf.files ≡ Some files'
  input : s.input.bytes ≡ Some left → m.input.bytes ≡ Some left'
  out : m.out.bytes ≡ option_map (λ w. w ++ printed) s.out.bytes
  report : m.report.bytes ≡ option_map (λ w. w ++ reported) s.report.bytes

-- all was done as expected, up to the report line
pub record IsDone (files : Files) (left : List ℕ) (e : Ending) (s : World) (o : WorkEnd) (t : World) : Type 0 where
  pub ends : o ≡ e.end
  pub shelf : s.shelf.files ≡ Some files → t.shelf.files ≡ Some e.files
  pub input : s.input.bytes ≡ Some left → LeavesBut e.spare e.left t.input.bytes
  pub out : t.out.bytes ≡ option_map (λ w. w ++ e.printed) s.out.bytes
  pub report : t.report.bytes ≡ option_map (λ w. w ++ e.reported) s.report.bytes
  pub rose : o ≡ Err (Outside objects.Shelf) → Rose s.shelf.faults t.shelf.faults

abbrev pub Follows : Files → List ℕ → Ending → World → WorkEnd → World → Type 0
Follows files left e s o t = (o ≡ Err Memory) ⊎ ((x : Object) × (o ≡ Err (Outside x)) × HasFailed x s t) ⊎ IsDone files left e s o t

shelf_step : (files files' : Files) (left : List ℕ) (s : World) (v : ShelfView) → s.shelf.faults ≤ v.faults → v.calm ≡ s.shelf.calm
    → (s.shelf.files ≡ Some files → v.files ≡ Some files') → IsStep files left files' left [] [] s (on_shelf s v)
shelf_step files files' left s v later calm holds = record { kept = shelf_kept s v later calm; shelf = holds; input = λ h. h; out = nothing s.out.bytes; report = nothing s.report.bytes }

out_step : (files : Files) (left text : List ℕ) (s : World) (v : StreamView) → s.out.faults ≤ v.faults → v.calm ≡ s.out.calm
    → v.bytes ≡ option_map (λ w. w ++ text) s.out.bytes → IsStep files left files left text [] s (on_out s v)
out_step files left text s v later calm grew = record { kept = out_kept s v later calm; shelf = λ h. h; input = λ h. h; out = grew; report = nothing s.report.bytes }

still : (files : Files) (left : List ℕ) (s : World) → IsStep files left files left [] [] s s
still files left s = shelf_step files files left s s.shelf (omega arith) refl (λ h. h)

-- what comes after a step
done_after : (files : Files) (left : List ℕ) (files' : Files) (left' printed reported : List ℕ) (stored : List Store) (e : Ending) (s m : World) (o : WorkEnd) (t : World)
    → IsStep files left files' left' printed reported s m → IsDone files' left' e m o t
    → IsDone files left (record e { stored = stored ++ e.stored; printed = printed ++ e.printed; reported = reported ++ e.reported }) s o t
done_after files left files' left' printed reported stored e s m o t step done = record {
  ends = done.ends;
  shelf = λ h. done.shelf (step.shelf h);
  input = λ h. done.input (step.input h);
  out = two_texts s.out.bytes m.out.bytes t.out.bytes printed e.printed step.out done.out;
  report = two_texts s.report.bytes m.report.bytes t.report.bytes reported e.reported step.report done.report;
  rose = λ h. rises s.shelf.faults m.shelf.faults t.shelf.faults (step.kept.later objects.Shelf) (done.rose h);
}

after : (files : Files) (left : List ℕ) (files' : Files) (left' printed reported : List ℕ) (stored : List Store) (e : Ending) (s m : World) (o : WorkEnd) (t : World)
    → IsStep files left files' left' printed reported s m → Follows files' left' e m o t
    → Follows files left (record e { stored = stored ++ e.stored; printed = printed ++ e.printed; reported = reported ++ e.reported }) s o t
after files left files' left' printed reported stored e s m o t step (inl memory) = inl memory
after files left files' left' printed reported stored e s m o t step (inr (inl (x, is, failed))) = inr (inl (x, is, fails_later x s m t step.kept failed))
after files left files' left' printed reported stored e s m o t step (inr (inr done)) = inr (inr (done_after files left files' left' printed reported stored e s m o t step done))

-- the end stands where a step came to
stops_at : (files : Files) (left : List ℕ) (files' : Files) (left' : List ℕ) (end : WorkEnd) (s m : World) (o : WorkEnd) (t : World)
    → IsStep files left files' left' [] [] s m → o ≡ end → t ≡ m → (o ≡ Err (Outside objects.Shelf) → Rose s.shelf.faults m.shelf.faults)
    → Follows files left (ends_with end files' left') s o t
stops_at files left files' left' end s m o t step is same rose =
    let P : World → Type 0 = λ t. IsDone files left (ends_with end files' left') s o t in
    inr (inr (subst P (sym same) (record { ends = is; shelf = step.shelf; input = λ h. (0, omega arith, step.input h); out = step.out; report = step.report; rose = rose })))

failed_at : (x : Object) (s m t : World) → t ≡ m → Rose (faults_of x s) (faults_of x m) → (IsTrue (calm_of x s) → ⊥) → HasFailed x s t
failed_at x s m t same rose loud = let P : World → Type 0 = λ t. HasFailed x s t in subst P (sym same) (record { rose = rose; loud = loud })

pub told_to : {A : Type 0} (o : Option A) (a : A) (P : A → Type 0) → o ≡ Some a → IfSome o P → P a
told_to {A} o a P is h = let Q : Option A → Type 0 = λ o. IfSome o P in subst Q is h

pub fetch_ok : (limit : ℕ) (next : List ℕ → Ending) (files : Files) (left bytes : List ℕ) (c : Option (List ℕ)) → c ≡ Some bytes → length bytes ≤ limit → next bytes ≡ after_fetch limit next files left c
fetch_ok limit next files left bytes c here short = rw here (sym (cond-true (nat_le (length bytes) limit) (next bytes) _ (le-leb (length bytes) limit short)))

fetch_long : (limit : ℕ) (next : List ℕ → Ending) (files : Files) (left bytes : List ℕ) (c : Option (List ℕ)) → c ≡ Some bytes → limit < length bytes
    → ends_with (Err (Because (Limited (limits.File limit)))) files left ≡ after_fetch limit next files left c
fetch_long limit next files left bytes c here long = rw here (sym (cond-false (nat_le (length bytes) limit) (next bytes) _ (lt-leb (length bytes) limit long)))

-- a fetch that failed: the name is absent, or the shelf is not calm
failed_fetch : (limit : ℕ) (next : List ℕ → Ending) (files : Files) (left name : List ℕ) (s : World) (v : ShelfView) (o : WorkEnd) (t : World) → s.shelf.files ≡ Some files → Fetched name limit (Err shelf_errors.Failed) s.shelf v
    → o ≡ Err (Outside objects.Shelf) → t ≡ on_shelf s v → (c : Option (List ℕ)) → files name ≡ c → Follows files left (after_fetch limit next files left c) s o t
failed_fetch limit next files left name s v o t told was is same None here =
    stops_at files left files left _ s (on_shelf s v) o t (shelf_step files files left s v was.later was.calm (λ h. was.same ∙ h)) is same (λ h. was.gives.0)
failed_fetch limit next files left name s v o t told was is same (Some bytes) here = inr (inl (
  objects.Shelf,
  is,
  failed_at objects.Shelf s (on_shelf s v) t same was.gives.0
      (λ calm. let absent : files name ≡ None = told_to s.shelf.files files (λ f. f name ≡ None) told (was.gives.1 calm) in cc),
))

long_fetch : (limit : ℕ) (next : List ℕ → Ending) (files : Files) (left name : List ℕ) (s : World) (v : ShelfView) (o : WorkEnd) (t : World) → s.shelf.files ≡ Some files → Fetched name limit (Err shelf_errors.TooLong) s.shelf v
    → o ≡ Err (Because (Limited (limits.File limit))) → t ≡ on_shelf s v → Follows files left (after_fetch limit next files left (files name)) s o t
long_fetch limit next files left name s v o t told was is same =
    let there : (bytes : List ℕ) × (files name ≡ Some bytes) × (limit < length bytes) = told_to s.shelf.files files (λ f. (bytes : List ℕ) × (f name ≡ Some bytes) × (limit < length bytes)) told was.gives.0 in
    let P : Ending → Type 0 = λ e. Follows files left e s o t in
    subst P (fetch_long limit next files left there.0 (files name) there.1 there.2)
    (stops_at files left files left _ s (on_shelf s v) o t (shelf_step files files left s v was.later was.calm (λ h. was.same ∙ h)) is same (λ h. cc))

-- what a plan that asks the shelf, or the input, is told
pub asked : {A B : Type 0} → A ⊎ B → (A → ⊥) → B
asked (inl a) none = absurd (none a)
asked (inr b) none = b

pub either : {A B C D : Type 0} → A ⊎ B → (A → C) → (B → D) → C ⊎ D
either (inl a) f g = inl (f a)
either (inr b) f g = inr (g b)

-- the files of a plan that stores are told
pub stored_files : (name bytes : List ℕ) (files : Files) (s : World) (v : ShelfView) (u : Unit {0}) → Stored name bytes (Ok u) s.shelf v → s.shelf.files ≡ Some files → v.files ≡ Some (put name (Some bytes) files)
stored_files name bytes files s v u was told = was.gives.0 ∙ ap (option_map (put name (Some bytes))) told

-- ---- a turn

pub input_after : (d : Turned) (left : List ℕ) (s m : World) (h : IsTurned d s m) → s.input.bytes ≡ Some left → m.input.bytes ≡ Some (drop h.more d.left)
input_after d left s m h has = told_to s.input.bytes left (λ b. m.input.bytes ≡ Some (drop h.more d.left)) has h.input.bytes

-- nothing more was taken than the turn uses
pub used_alone : (d : Turned) (left : List ℕ) (s m : World) (h : IsTurned d s m) → s.input.bytes ≡ Some left → d.spare ≡ 0 → m.input.bytes ≡ Some d.left
used_alone d left s m h has none = input_after d left s m h has ∙ ap (λ n. Some (drop n d.left)) (let z : h.more ≡ 0 = omega (arith, h.few) in z)

-- a turn, and then what comes after it; what is left of the input is told apart
after_turn : (files : Files) (left : List ℕ) (d : Turned) (e : Ending) (s m : World) (o : WorkEnd) (t : World) → IsTurned d s m
    → ((m.input.bytes ≡ Some d.left → LeavesBut e.spare e.left t.input.bytes) → s.input.bytes ≡ Some left → LeavesBut (d.spare + e.spare) e.left t.input.bytes)
    → Follows files d.left e m o t → Follows files left (turned_before d e) s o t
after_turn files left d e s m o t h input (inl memory) = inl memory
after_turn files left d e s m o t h input (inr (inl (x, is, failed))) = inr (inl (x, is, fails_later x s m t (turned_kept d s m h) failed))
after_turn files left d e s m o t h input (inr (inr done)) = inr (inr (record {
  ends = done.ends;
  shelf = λ told. done.shelf (ap (λ v. v.files) h.shelf ∙ told);
  input = input done.input;
  out = two_texts s.out.bytes m.out.bytes t.out.bytes d.printed e.printed h.out.bytes done.out;
  report = two_texts s.report.bytes m.report.bytes t.report.bytes d.reported e.reported h.report.bytes done.report;
  rose = λ f. rises s.shelf.faults m.shelf.faults t.shelf.faults ((turned_kept d s m h).later objects.Shelf) (done.rose f);
}))

-- the rest reads on where the turn has stopped to
reads_on : (d : Turned) (e : Ending) (left : List ℕ) (s m t : World) → IsTurned d s m → d.spare ≡ 0
    → (m.input.bytes ≡ Some d.left → LeavesBut e.spare e.left t.input.bytes) → s.input.bytes ≡ Some left → LeavesBut (d.spare + e.spare) e.left t.input.bytes
reads_on d e left s m t h none rest has = let r = rest (used_alone d left s m h has none) in (r.0, omega (arith, r.1), r.2)

-- the rest leaves the input as it is
reads_no_more : (d : Turned) (q : Plan) (files : Files) (left : List ℕ) (s m : World) (o : WorkEnd) (t : World) → IsTurned d s m → NoInput q → Went q m o t
    → s.input.bytes ≡ Some left → LeavesBut (d.spare + (expected q files d.left).spare) (expected q files d.left).left t.input.bytes
reads_no_more d q files left s m o t h quiet went has =
    (h.more, omega (arith, h.few), ap (λ v. v.bytes) (input_stays q m o t quiet went) ∙ (input_after d left s m h has ∙ ap (λ l. Some (drop h.more l)) (sym (leaves_all q files d.left quiet))))

-- a turn, and what follows by what comes after it
turn_follows : (d : Turned) (q : Plan) (files : Files) (left : List ℕ) (s : World) (o : WorkEnd) (t : World) → s.input.bytes ≡ Some left → NoFiles q ⊎ (s.shelf.files ≡ Some files)
    → (d.spare ≡ 0) ⊎ NoInput q
    → ((m : World) → IsTold q files d.left m → Went q m o t → Follows files d.left (expected q files d.left) m o t)
    → AfterTurn d left (Went q) s o t → Follows files left (turned_before d (expected q files d.left)) s o t
turn_follows d q files left s o t has shelf (inl none) then (GoesOn m h went) =
    after_turn files left d (expected q files d.left) s m o t h (λ rest has. reads_on d (expected q files d.left) left s m t h none rest has)
    (then m (record { shelf = either shelf (λ a. a) (λ b. ap (λ v. v.files) h.shelf ∙ b); input = inr (used_alone d left s m h has none) }) went)
turn_follows d q files left s o t has shelf (inr quiet) then (GoesOn m h went) =
    after_turn files left d (expected q files d.left) s m o t h (λ rest has. reads_no_more d q files left s m o t h quiet went has)
    (then m (record { shelf = either shelf (λ a. a) (λ b. ap (λ v. v.files) h.shelf ∙ b); input = inl quiet }) went)
turn_follows d q files left s o t has shelf sparing then (FailsInput h) = inr (inl (objects.Input, h.ends, record { rose = h.fails.rose; loud = h.fails.uncalm }))
turn_follows d q files left s o t has shelf sparing then (FailsOutput h) = inr (inl (objects.Output, h.ends, record { rose = h.fails.rose; loud = h.fails.uncalm }))
turn_follows d q files left s o t has shelf sparing then (FailsReport h) = inr (inl (objects.Report, h.ends, record { rose = h.fails.rose; loud = h.fails.uncalm }))
turn_follows d q files left s o t has shelf sparing then (WantsMemory h) = inl h.ends

-- ---- a script

-- a back part of what is left, and some of it is taken ahead
pub ahead_of : (more : ℕ) (left : List ℕ) (m t : World) (h : IsAhead m t) → m.input.bytes ≡ Some (drop more left) → t.input.bytes ≡ Some (drop (more + h.ahead) left)
ahead_of more left m t h has = h.input ∙ (ap (option_map (drop h.ahead)) has ∙ ap Some (drop-drop h.ahead more left))

script_follows : (files : Files) (left : List ℕ) (e : Ending) (s m : World) (o : WorkEnd) (t : World) → IsAhead m t → Follows files left e s o m → Follows files left (scripted e) s o t
script_follows files left e s m o t h (inl memory) = inl memory
script_follows files left e s m o t h (inr (inl (x, is, failed))) = inr (inl (x, is, failed_still x s m t (ahead_kept m t h) failed))
script_follows files left e s m o t h (inr (inr done)) =
    let Q : ShelfView → Type 0 = λ v. Rose s.shelf.faults v.faults in
    inr (inr (record {
      ends = done.ends;
      shelf = λ told. ap (λ v. v.files) h.shelf ∙ done.shelf told;
      input = λ has. let r = done.input has in (r.0 + h.ahead, omega (arith, r.1, h.few), ahead_of r.0 e.left m t h r.2);
      out = ap (λ v. v.bytes) h.out ∙ done.out;
      report = ap (λ v. v.bytes) h.report ∙ done.report;
      rose = λ f. subst Q (sym h.shelf) (done.rose f);
    }))

pub follows : (p : Plan) (files : Files) (left : List ℕ) (s : World) (o : WorkEnd) (t : World) → IsSparing p → IsTold p files left s → Went p s o t → Follows files left (expected p files left) s o t
unfolding Went expected NoFiles NoInput AllTurns
follows (Ends end) files left s o t sparing told (inl out) = inl out.0
follows (Ends end) files left s o t sparing told (inr (is, same)) = stops_at files left files left _ s s o t (still files left s) is same (λ h. absurd (no_fault end o objects.Shelf is h))
follows (Fetches name limit next) files left s o t sparing told (inl out) = inl out.0
follows (Fetches name limit next) files left s o t sparing told (inr (v, Ok bytes, was, went)) =
    let holds : s.shelf.files ≡ Some files = asked told.shelf (λ a. a) in
    let here : files name ≡ Some bytes = told_to s.shelf.files files (λ f. f name ≡ Some bytes) holds was.gives.1 in
    let P : Ending → Type 0 = λ e. Follows files left e s o t in
    subst P (fetch_ok limit (λ bytes. expected (next bytes) files left) files left bytes (files name) here was.gives.0)
    (after files left files left [] [] [] _ s (on_shelf s v) o t (shelf_step files files left s v was.later was.calm (λ h. was.same ∙ h))
    (follows (next bytes) files left (on_shelf s v) o t (sparing bytes) (record { shelf = inr (was.same ∙ holds); input = either told.input (λ a. a bytes) (λ b. b) }) went))
follows (Fetches name limit next) files left s o t sparing told (inr (v, Err shelf_errors.Failed, was, went)) =
    failed_fetch limit (λ bytes. expected (next bytes) files left) files left name s v o t (asked told.shelf (λ a. a)) was went.0 went.1 (files name) refl
follows (Fetches name limit next) files left s o t sparing told (inr (v, Err shelf_errors.TooLong, was, went)) =
    long_fetch limit (λ bytes. expected (next bytes) files left) files left name s v o t (asked told.shelf (λ a. a)) was went.0 went.1
follows (Fetches name limit next) files left s o t sparing told (inr (v, Err shelf_errors.Memory, was, went)) = inl went.0
follows (Stores name bytes next) files left s o t sparing told (inl out) = inl out.0
follows (Stores name bytes next) files left s o t sparing told (inr (v, Ok u, was, went)) =
    let holds : s.shelf.files ≡ Some files = asked told.shelf (λ a. a) in
    after files left (put name (Some bytes) files) left [] [] (record { name = name; bytes = bytes } ∷ []) _ s (on_shelf s v) o t (shelf_step files (put name (Some bytes) files) left s v was.later was.calm (stored_files name bytes files s v u was))
    (follows next (put name (Some bytes) files) left (on_shelf s v) o t sparing (record { shelf = inr (stored_files name bytes files s v u was holds); input = told.input }) went)
follows (Stores name bytes next) files left s o t sparing told (inr (v, Err store_errors.Failed, was, went)) = inr (inl (objects.Shelf, went.0, failed_at objects.Shelf s (on_shelf s v) t went.1 was.gives.1 was.gives.2))
follows (Stores name bytes next) files left s o t sparing told (inr (v, Err store_errors.Memory, was, went)) = inl went.0
follows (Prints text next) files left s o t sparing told (inl out) = inl out.0
follows (Prints text next) files left s o t sparing told (inr (v, Ok u, was, went)) =
    after files left files left text [] [] _ s (on_out s v) o t (out_step files left text s v was.later was.calm was.gives.0) (follows next files left (on_out s v) o t sparing (record { shelf = told.shelf; input = told.input }) went)
follows (Prints text next) files left s o t sparing told (inr (v, Err sink_errors.Failed, was, went)) = inr (inl (objects.Output, went.0, failed_at objects.Output s (on_out s v) t went.1 was.gives.1 was.gives.2))
follows (Prints text next) files left s o t sparing told (inr (v, Err sink_errors.Memory, was, went)) = inl went.0
follows (Turns turn next) files left s o t sparing told (inl out) = inl out.0
follows (Turns turn next) files left s o t sparing told (inr (left', tells, went)) =
    let has : s.input.bytes ≡ Some left = asked told.input (λ a. a) in
    let same : left ≡ left' = told_to s.input.bytes left (λ b. b ≡ left') has tells in
    let P : List ℕ → Type 0 = λ l. AfterTurn (turn l) l (Went (next l)) s o t in
    turn_follows (turn left) (next left) files left s o t has (either told.shelf (λ a. a left) (λ b. b)) (sparing left).1
    (λ m told went. follows (next left) files (turn left).left m o t (sparing left).0 told went) (subst P (sym same) went)
follows (Script within) files left s o t sparing told (m, went, ahead) =
    script_follows files left (expected within files left) s m o t ahead (follows within files left s o m sparing (record { shelf = told.shelf; input = inr (asked told.input (λ a. a)) }) went)
