-- What a run leaves is a front part of what the plan comes to.
use Rattle.std.proofs.Common.{◌≡◌, ◌⊎◌, ◌≤◌, ◌+◌, ◌-◌, ℕ, List, ◌++◌, length, take, drop, Option, Some, Ok, Err, refl, sym, ◌∙◌, ap, subst, inl, inr, arith}
use Rattle.std.specs.Option.{option_map}
use Rattle.std.proofs.lemmas.List.{length-drop, drop-drop}
use Rattle.br_outside.specs.Files.{Files, put}
use Rattle.br_outside.specs.Outside.{ShelfView, StreamView, SameBut, Stored}
use Rattle.br_outside.specs.declared.errors.ShelfError.TheVariants as shelf_errors
use Rattle.br_outside.specs.declared.errors.StoreError.TheVariants as store_errors
use Rattle.br_outside.specs.declared.errors.SinkError.TheVariants as sink_errors
use Rattle.top_plan.specs.World.{World, on_shelf, on_out}
use Rattle.top_plan.specs.Plan.{Plan, Ends, Fetches, Stores, Prints, Turned, Turns, Script, Went, IsAhead, IsTurned, AfterTurn, GoesOn, FailsInput, FailsOutput, FailsReport, WantsMemory}
use Rattle.top_plan.specs.Texts.{WorkEnd, end_line, end_text, end_status, halt_text}
use Rattle.top_plan.specs.Happened.{Reported, Happened}
use Rattle.top_plan.specs.Expected.{Ending, stored_before, printed_before, turned_before, scripted, expected, NoFiles, NoInput, AllTurns, IsSparing, IsTold}
use Rattle.top_plan.specs.Partial.{WroteFront, StoredFront, LeftBack, Interrupts, ReportedFront, IsFront, IsPartial, Uses, IsTaking, IsOrderly}
use Rattle.top_plan.specs.declared.ends.Halt.{Halt}
use Rattle.top_plan.specs.declared.ends.Halt.TheVariants.{Outside, Memory}
use Rattle.top_plan.proofs.Kept.{IsKept, shelf_kept, out_kept, failed_still}
use Rattle.top_plan.proofs.Telling.{IsTelling, telling, telling_kept}
use Rattle.top_plan.proofs.TurnsOf.{sparing_of, taking_of}
use Rattle.top_plan.proofs.TurnsKept.{turned_kept}
use Rattle.top_plan.proofs.Unread.{input_stays, leaves_all, after_each}
use Rattle.top_plan.proofs.Followed.{Follows, follows, told_to, fetch_ok, asked, either, stored_files, input_after, used_alone, ahead_of}
use Rattle.top_plan.proofs.Fronts.{wrote_none, wrote_after, wrote_before, gave_front, stored_none, stored_later, stored_still}

-- a run up to its last line
record IsCut (files : Files) (left : List ℕ) (e : Ending) (s t : World) : Type 0 where
  shelf : s.shelf.files ≡ Some files → StoredFront e.stored files s t
  input : s.input.bytes ≡ Some left → LeftBack left e t.input.bytes
  out : WroteFront e.printed s.out.bytes t.out.bytes
  report : WroteFront e.reported s.report.bytes t.report.bytes

-- ---- what is left of the input

-- what the whole leaves is not more than there was
no_longer : (p : Plan) (files : Files) (left : List ℕ) → IsTaking p → length (expected p files left).left ≤ length left
unfolding expected AllTurns
no_longer (Ends end) files left taking = omega arith
no_longer (Fetches name limit next) files left taking = after_each (λ e. length e.left ≤ length left) limit (λ bytes. expected (next bytes) files left) files left (λ bytes. no_longer (next bytes) files left (taking bytes)) (λ end. omega arith) (files name)
no_longer (Stores name bytes next) files left taking = no_longer next (put name (Some bytes) files) left taking
no_longer (Prints text next) files left taking = no_longer next files left taking
no_longer (Turns turn next) files left taking =
    let u : Uses (turn left) left = (taking left).1 in
    let a : length (turn left).left ≡ length left - u.used = ap length u.rest ∙ length-drop u.used left in
    omega (arith, a, no_longer (next left) files (turn left).left (taking left).0)
no_longer (Script within) files left taking = no_longer within files left taking

left_still : (left : List ℕ) (e : Ending) (s t : World) → length e.left ≤ length left → t.input.bytes ≡ s.input.bytes → s.input.bytes ≡ Some left → LeftBack left e t.input.bytes
left_still left e s t few same has = (0, same ∙ has, omega arith)

-- ---- where a run ends in the midst

-- nothing was done there
stands : (files : Files) (left : List ℕ) (e : Ending) (s t : World) → length e.left ≤ length left → t.shelf.files ≡ s.shelf.files → t.input.bytes ≡ s.input.bytes → t.out.bytes ≡ s.out.bytes → t.report.bytes ≡ s.report.bytes → IsCut files left e s t
stands files left e s t few shelf input out report = record {
  shelf = λ told. stored_none e.stored files s t (shelf ∙ told);
  input = left_still left e s t few input;
  out = wrote_none e.printed s.out.bytes t.out.bytes out;
  report = wrote_none e.reported s.report.bytes t.report.bytes report;
}

-- the run ended as it stood
ends_at : (files : Files) (left : List ℕ) (e : Ending) (s m t : World) → t ≡ m → IsCut files left e s m → IsCut files left e s t
ends_at files left e s m t same cut = let P : World → Type 0 = λ t. IsCut files left e s t in subst P (sym same) cut

gives_up : (files : Files) (left : List ℕ) (e : Ending) (s t : World) → length e.left ≤ length left → t ≡ s → IsCut files left e s t
gives_up files left e s t few same = ends_at files left e s s t same (stands files left e s s few refl refl refl refl)

shelf_fails : (files : Files) (left : List ℕ) (e : Ending) (s : World) (v : ShelfView) (t : World) → length e.left ≤ length left → v.files ≡ s.shelf.files → t ≡ on_shelf s v → IsCut files left e s t
shelf_fails files left e s v t few shelf same = ends_at files left e s (on_shelf s v) t same (stands files left e s (on_shelf s v) few shelf refl refl refl)

store_fails : (files : Files) (left name bytes : List ℕ) (e : Ending) (s : World) (v : ShelfView) (t : World) → length e.left ≤ length left → Stored name bytes (Err store_errors.Failed) s.shelf v → t ≡ on_shelf s v
    → IsCut files left (stored_before name bytes e) s t
store_fails files left name bytes e s v t few was same =
    let P : Option Files → Type 0 = λ f. SameBut name f v.files in
    ends_at files left (stored_before name bytes e) s (on_shelf s v) t same (record {
      shelf = λ told. inr (inl (record { rose = was.gives.1; loud = was.gives.2 }, subst P told was.gives.0));
      input = left_still left e s (on_shelf s v) few refl;
      out = wrote_none e.printed s.out.bytes s.out.bytes refl;
      report = wrote_none e.reported s.report.bytes s.report.bytes refl;
    })

print_fails : (files : Files) (left text : List ℕ) (e : Ending) (s : World) (v : StreamView) (t : World) → length e.left ≤ length left → WroteFront text s.out.bytes v.bytes → t ≡ on_out s v
    → IsCut files left (printed_before text e) s t
print_fails files left text e s v t few wrote same =
    ends_at files left (printed_before text e) s (on_out s v) t same (record {
      shelf = λ told. stored_none e.stored files s (on_out s v) told;
      input = left_still left e s (on_out s v) few refl;
      out = wrote_before text e.printed s.out.bytes v.bytes wrote;
      report = wrote_none e.reported s.report.bytes s.report.bytes refl;
    })

-- ---- a step, and a part of what comes after it

after_fetching : (files : Files) (left : List ℕ) (e : Ending) (s : World) (v : ShelfView) (t : World) → IsKept s (on_shelf s v) → v.files ≡ s.shelf.files → IsCut files left e (on_shelf s v) t → IsCut files left e s t
after_fetching files left e s v t kept same cut = record {
  shelf = λ told. stored_later e.stored files s (on_shelf s v) t kept (cut.shelf (same ∙ told));
  input = cut.input;
  out = cut.out;
  report = cut.report;
}

after_storing : (files : Files) (left name bytes : List ℕ) (e : Ending) (s : World) (v : ShelfView) (t : World) → IsKept s (on_shelf s v) → (s.shelf.files ≡ Some files → v.files ≡ Some (put name (Some bytes) files))
    → IsCut (put name (Some bytes) files) left e (on_shelf s v) t → IsCut files left (stored_before name bytes e) s t
after_storing files left name bytes e s v t kept made cut = record {
  shelf = λ told. inr (inr (stored_later e.stored (put name (Some bytes) files) s (on_shelf s v) t kept (cut.shelf (made told))));
  input = cut.input;
  out = cut.out;
  report = cut.report;
}

after_printing : (files : Files) (left text : List ℕ) (e : Ending) (s : World) (v : StreamView) (t : World) → IsKept s (on_out s v) → v.bytes ≡ option_map (λ w. w ++ text) s.out.bytes
    → IsCut files left e (on_out s v) t → IsCut files left (printed_before text e) s t
after_printing files left text e s v t kept grew cut = record {
  shelf = λ told. stored_later e.stored files s (on_out s v) t kept (cut.shelf told);
  input = cut.input;
  out = wrote_after text e.printed s.out.bytes v.bytes t.out.bytes grew cut.out;
  report = cut.report;
}

-- ---- a turn

-- so many bytes were taken, and no more than are asked for
taken_most : (d : Turned) (left : List ℕ) (e : Ending) (s t : World) (taken : ℕ) → Uses d left → length e.left ≤ length d.left → taken ≤ d.asked
    → t.input.bytes ≡ Some (drop taken left) → LeftBack left (turned_before d e) t.input.bytes
taken_most d left e s t taken u few most is =
    let a : length (drop d.asked left) ≡ length left - d.asked = length-drop d.asked left in
    let b : length (drop taken left) ≡ length left - taken = length-drop taken left in
    (taken, is, omega (arith, u.most, a, b))

input_fails : (files : Files) (left : List ℕ) (d : Turned) (e : Ending) (s t : World) → (s.input.bytes ≡ Some left → LeftBack left (turned_before d e) t.input.bytes) → t.shelf ≡ s.shelf → WroteFront d.printed s.out.bytes t.out.bytes → WroteFront d.reported s.report.bytes t.report.bytes
    → IsCut files left (turned_before d e) s t
input_fails files left d e s t input shelf out report = record {
  shelf = λ told. stored_none e.stored files s t (ap (λ v. v.files) shelf ∙ told);
  input = input;
  out = wrote_before d.printed e.printed s.out.bytes t.out.bytes out;
  report = wrote_before d.reported e.reported s.report.bytes t.report.bytes report;
}

output_fails : (files : Files) (left : List ℕ) (d : Turned) (e : Ending) (s t : World) → length e.left ≤ length left → WroteFront d.printed s.out.bytes t.out.bytes → WroteFront d.reported s.report.bytes t.report.bytes → t.shelf ≡ s.shelf → t.input ≡ s.input
    → IsCut files left (turned_before d e) s t
output_fails files left d e s t few out report shelf input = record {
  shelf = λ told. stored_none e.stored files s t (ap (λ v. v.files) shelf ∙ told);
  input = left_still left (turned_before d e) s t few (ap (λ v. v.bytes) input);
  out = wrote_before d.printed e.printed s.out.bytes t.out.bytes out;
  report = wrote_before d.reported e.reported s.report.bytes t.report.bytes report;
}

after_turning : (files : Files) (left : List ℕ) (d : Turned) (e : Ending) (s m t : World) → IsTurned d s m → (s.input.bytes ≡ Some left → LeftBack left (turned_before d e) t.input.bytes)
    → IsCut files d.left e m t → IsCut files left (turned_before d e) s t
after_turning files left d e s m t h input cut = record {
  shelf = λ told. stored_later e.stored files s m t (turned_kept d s m h) (cut.shelf (ap (λ v. v.files) h.shelf ∙ told));
  input = input;
  out = wrote_after d.printed e.printed s.out.bytes m.out.bytes t.out.bytes h.out.bytes cut.out;
  report = wrote_after d.reported e.reported s.report.bytes m.report.bytes t.report.bytes h.report.bytes cut.report;
}

-- a back part of a back part
further : (used n : ℕ) (rest left : List ℕ) (o : Option (List ℕ)) → rest ≡ drop used left → o ≡ Some (drop n rest) → o ≡ Some (drop (used + n) left)
further used n rest left o is has = has ∙ (ap (λ l. Some (drop n l)) is ∙ ap Some (drop-drop n used left))

-- the rest reads on where the turn has stopped to
reads_on : (d : Turned) (left : List ℕ) (e : Ending) (s m t : World) → Uses d left → IsTurned d s m → d.spare ≡ 0 → (m.input.bytes ≡ Some d.left → LeftBack d.left e t.input.bytes)
    → s.input.bytes ≡ Some left → LeftBack left (turned_before d e) t.input.bytes
reads_on d left e s m t u h none rest has =
    let r : LeftBack d.left e t.input.bytes = rest (used_alone d left s m h has none) in
    let a : length (drop (u.used + r.0) left) ≡ length (drop r.0 d.left) = ap length (sym (drop-drop r.0 u.used left)) ∙ ap (λ l. length (drop r.0 l)) (sym u.rest) in
    (u.used + r.0, further u.used r.0 d.left left t.input.bytes u.rest r.1, omega (arith, a, r.2))

-- the rest leaves the input as it is
reads_no_more : (d : Turned) (left : List ℕ) (q : Plan) (files : Files) (s m : World) (o : WorkEnd) (t : World) → Uses d left → IsTurned d s m → NoInput q → Went q m o t
    → s.input.bytes ≡ Some left → LeftBack left (turned_before d (expected q files d.left)) t.input.bytes
reads_no_more d left q files s m o t u h quiet went has =
    let a : length (drop (u.used + h.more) left) ≡ length d.left - h.more = ap length (sym (drop-drop h.more u.used left)) ∙ (ap (λ l. length (drop h.more l)) (sym u.rest) ∙ length-drop h.more d.left) in
    let b : length (expected q files d.left).left ≡ length d.left = ap length (leaves_all q files d.left quiet) in
    (u.used + h.more, further u.used h.more d.left left t.input.bytes u.rest (ap (λ v. v.bytes) (input_stays q m o t quiet went) ∙ input_after d left s m h has), omega (arith, a, b, h.few))

turn_cut : (d : Turned) (q : Plan) (files : Files) (left : List ℕ) (s : World) (o : WorkEnd) (t : World) → s.input.bytes ≡ Some left → NoFiles q ⊎ (s.shelf.files ≡ Some files) → Uses d left → (d.spare ≡ 0) ⊎ NoInput q
    → length (expected q files d.left).left ≤ length d.left
    → ((m : World) → IsTold q files d.left m → Went q m o t → IsCut files d.left (expected q files d.left) m t)
    → AfterTurn d left (Went q) s o t → IsCut files left (turned_before d (expected q files d.left)) s t
turn_cut d q files left s o t has shelf u (inl none) few then (GoesOn m h went) =
    let cut : IsCut files d.left (expected q files d.left) m t = then m (record { shelf = either shelf (λ a. a) (λ b. ap (λ v. v.files) h.shelf ∙ b); input = inr (used_alone d left s m h has none) }) went in
    after_turning files left d (expected q files d.left) s m t h (λ has. reads_on d left (expected q files d.left) s m t u h none cut.input has) cut
turn_cut d q files left s o t has shelf u (inr quiet) few then (GoesOn m h went) =
    after_turning files left d (expected q files d.left) s m t h (λ has. reads_no_more d left q files s m o t u h quiet went has)
    (then m (record { shelf = either shelf (λ a. a) (λ b. ap (λ v. v.files) h.shelf ∙ b); input = inl quiet }) went)
turn_cut d q files left s o t has shelf u sparing few then (FailsInput h) =
    input_fails files left d (expected q files d.left) s t (λ has. taken_most d left (expected q files d.left) s t h.taken u few (omega (arith, h.few)) (told_to s.input.bytes left (λ b. t.input.bytes ≡ Some (drop h.taken left)) has h.rest))
    h.shelf (wrote_none d.printed s.out.bytes t.out.bytes (ap (λ v. v.bytes) h.out)) (wrote_none d.reported s.report.bytes t.report.bytes (ap (λ v. v.bytes) h.report))
turn_cut d q files left s o t has shelf u sparing few then (FailsOutput h) =
    let a : length d.left ≡ length left - u.used = ap length u.rest ∙ length-drop u.used left in
    output_fails files left d (expected q files d.left) s t (omega (arith, a, few)) (h.written, h.given) (wrote_none d.reported s.report.bytes t.report.bytes (ap (λ v. v.bytes) h.report)) h.shelf h.input
turn_cut d q files left s o t has shelf u sparing few then (FailsReport h) =
    let a : length d.left ≡ length left - u.used = ap length u.rest ∙ length-drop u.used left in
    output_fails files left d (expected q files d.left) s t (omega (arith, a, few)) (wrote_none d.printed s.out.bytes t.out.bytes (ap (λ v. v.bytes) h.out)) (h.written, h.given) h.shelf h.input
turn_cut d q files left s o t has shelf u sparing few then (WantsMemory h) =
    input_fails files left d (expected q files d.left) s t (λ has. taken_most d left (expected q files d.left) s t h.taken u few h.few (told_to s.input.bytes left (λ b. t.input.bytes ≡ Some (drop h.taken left)) has h.input.bytes))
    h.shelf (h.printed, h.out) (h.reported, h.report)

-- ---- a script

script_cut : (files : Files) (left : List ℕ) (e : Ending) (s m t : World) → IsAhead m t → IsCut files left e s m → IsCut files left (scripted e) s t
script_cut files left e s m t h cut = record {
  shelf = λ told. stored_still e.stored files s m t h.shelf (cut.shelf told);
  input = λ has.
      let r : LeftBack left e m.input.bytes = cut.input has in
      let a : length (drop r.0 left) ≡ length left - r.0 = length-drop r.0 left in
      let b : length (drop (r.0 + h.ahead) left) ≡ length left - (r.0 + h.ahead) = length-drop (r.0 + h.ahead) left in
      (r.0 + h.ahead, ahead_of r.0 left m t h r.1, omega (arith, a, b, r.2, h.few));
  out = (cut.out.0, ap (λ v. v.bytes) h.out ∙ cut.out.1);
  report = (cut.report.0, ap (λ v. v.bytes) h.report ∙ cut.report.1);
}

-- ---- the run

-- the content was fetched, and the run goes on
fetch_cut : (name : List ℕ) (limit : ℕ) (next : List ℕ → Plan) (files : Files) (left bytes : List ℕ) (s : World) (v : ShelfView) (t : World) → files name ≡ Some bytes → length bytes ≤ limit → IsKept s (on_shelf s v) → v.files ≡ s.shelf.files
    → IsCut files left (expected (next bytes) files left) (on_shelf s v) t → IsCut files left (expected (Fetches name limit next) files left) s t
unfolding expected
fetch_cut name limit next files left bytes s v t here short kept same cut =
    let P : Ending → Type 0 = λ e. IsCut files left e s t in
    subst P (fetch_ok limit (λ bytes. expected (next bytes) files left) files left bytes (files name) here short) (after_fetching files left (expected (next bytes) files left) s v t kept same cut)

cut : (p : Plan) (files : Files) (left : List ℕ) (s : World) (o : WorkEnd) (t : World) → IsSparing p → IsTaking p → IsTold p files left s → Went p s o t → IsCut files left (expected p files left) s t
unfolding Went expected NoFiles NoInput AllTurns
cut (Ends end) files left s o t sparing taking told (inl out) = gives_up files left _ s t (no_longer (Ends end) files left taking) out.1
cut (Ends end) files left s o t sparing taking told (inr (is, same)) = gives_up files left _ s t (no_longer (Ends end) files left taking) same
cut (Fetches name limit next) files left s o t sparing taking told (inl out) = gives_up files left _ s t (no_longer (Fetches name limit next) files left taking) out.1
cut (Fetches name limit next) files left s o t sparing taking told (inr (v, Ok bytes, was, went)) =
    let holds : s.shelf.files ≡ Some files = asked told.shelf (λ a. a) in
    let here : files name ≡ Some bytes = told_to s.shelf.files files (λ f. f name ≡ Some bytes) holds was.gives.1 in
    fetch_cut name limit next files left bytes s v t here was.gives.0 (shelf_kept s v was.later was.calm) was.same
    (cut (next bytes) files left (on_shelf s v) o t (sparing bytes) (taking bytes) (record { shelf = inr (was.same ∙ holds); input = either told.input (λ a. a bytes) (λ b. b) }) went)
cut (Fetches name limit next) files left s o t sparing taking told (inr (v, Err shelf_errors.Failed, was, went)) = shelf_fails files left _ s v t (no_longer (Fetches name limit next) files left taking) was.same went.1
cut (Fetches name limit next) files left s o t sparing taking told (inr (v, Err shelf_errors.TooLong, was, went)) = shelf_fails files left _ s v t (no_longer (Fetches name limit next) files left taking) was.same went.1
cut (Fetches name limit next) files left s o t sparing taking told (inr (v, Err shelf_errors.Memory, was, went)) = shelf_fails files left _ s v t (no_longer (Fetches name limit next) files left taking) was.same went.1
cut (Stores name bytes next) files left s o t sparing taking told (inl out) = gives_up files left _ s t (no_longer (Stores name bytes next) files left taking) out.1
cut (Stores name bytes next) files left s o t sparing taking told (inr (v, Ok u, was, went)) =
    let holds : s.shelf.files ≡ Some files = asked told.shelf (λ a. a) in
    after_storing files left name bytes (expected next (put name (Some bytes) files) left) s v t (shelf_kept s v was.later was.calm) (stored_files name bytes files s v u was)
    (cut next (put name (Some bytes) files) left (on_shelf s v) o t sparing taking (record { shelf = inr (stored_files name bytes files s v u was holds); input = told.input }) went)
cut (Stores name bytes next) files left s o t sparing taking told (inr (v, Err store_errors.Failed, was, went)) =
    store_fails files left name bytes (expected next (put name (Some bytes) files) left) s v t (no_longer next (put name (Some bytes) files) left taking) was went.1
cut (Stores name bytes next) files left s o t sparing taking told (inr (v, Err store_errors.Memory, was, went)) = shelf_fails files left _ s v t (no_longer (Stores name bytes next) files left taking) was.gives.0 went.1
cut (Prints text next) files left s o t sparing taking told (inl out) = gives_up files left _ s t (no_longer (Prints text next) files left taking) out.1
cut (Prints text next) files left s o t sparing taking told (inr (v, Ok u, was, went)) =
    after_printing files left text (expected next files left) s v t (out_kept s v was.later was.calm) was.gives.0
    (cut next files left (on_out s v) o t sparing taking (record { shelf = told.shelf; input = told.input }) went)
cut (Prints text next) files left s o t sparing taking told (inr (v, Err sink_errors.Failed, was, went)) =
    print_fails files left text (expected next files left) s v t (no_longer next files left taking) (gave_front text (Err sink_errors.Failed) s.out v was) went.1
cut (Prints text next) files left s o t sparing taking told (inr (v, Err sink_errors.Memory, was, went)) =
    print_fails files left text (expected next files left) s v t (no_longer next files left taking) (gave_front text (Err sink_errors.Memory) s.out v was) went.1
cut (Turns turn next) files left s o t sparing taking told (inl out) = gives_up files left _ s t (no_longer (Turns turn next) files left taking) out.1
cut (Turns turn next) files left s o t sparing taking told (inr (left', tells, went)) =
    let has : s.input.bytes ≡ Some left = asked told.input (λ a. a) in
    let same : left ≡ left' = told_to s.input.bytes left (λ b. b ≡ left') has tells in
    let P : List ℕ → Type 0 = λ l. AfterTurn (turn l) l (Went (next l)) s o t in
    turn_cut (turn left) (next left) files left s o t has (either told.shelf (λ a. a left) (λ b. b)) (taking left).1 (sparing left).1 (no_longer (next left) files (turn left).left (taking left).0)
    (λ m told went. cut (next left) files (turn left).left m o t (sparing left).0 (taking left).0 told went) (subst P (sym same) went)
cut (Script within) files left s o t sparing taking told (m, went, ahead) =
    script_cut files left (expected within files left) s m t ahead (cut within files left s o m sparing taking (record { shelf = told.shelf; input = inr (asked told.input (λ a. a)) }) went)

-- ---- the last line

-- what a report of the end does: nothing but that a front part of its text is written
record IsSaid (o : WorkEnd) (m t : World) : Type 0 where
  kept : IsKept m t
  shelf : t.shelf ≡ m.shelf
  input : t.input ≡ m.input
  out : t.out ≡ m.out
  text : WroteFront (end_text o) m.report.bytes t.report.bytes

said : (o : WorkEnd) (m : World) (result : ℕ) (t : World) → Reported o m result t → IsSaid o m t
said o m result t (v, told, same) =
    let h : IsTelling (end_line o) m.report v = telling (end_line o) (end_status o) m.report result v told in
    let P : World → Type 0 = λ t. IsSaid o m t in
    subst P (sym same) (record { kept = telling_kept (end_line o) m v h; shelf = refl; input = refl; out = refl; text = h.front })

-- a halt's line behind a front part of the report
halt_said : (e : Ending) (o : WorkEnd) (halt : Halt) (s m t : World) → o ≡ Err halt → WroteFront e.reported s.report.bytes m.report.bytes → Interrupts halt s t → WroteFront (end_text o) m.report.bytes t.report.bytes → ReportedFront e s t
halt_said e o halt s m t is (n, before) stops text =
    let P : WorkEnd → Type 0 = λ o. WroteFront (end_text o) m.report.bytes t.report.bytes in
    inr (halt, n, stops, wrote_after (take n e.reported) (halt_text halt) s.report.bytes m.report.bytes t.report.bytes before (subst P is text))

-- its own line behind the report
end_said : (e : Ending) (o : WorkEnd) (s m t : World) → o ≡ e.end → m.report.bytes ≡ option_map (λ w. w ++ e.reported) s.report.bytes → WroteFront (end_text o) m.report.bytes t.report.bytes → ReportedFront e s t
end_said e o s m t is before text =
    let P : WorkEnd → Type 0 = λ o. WroteFront (end_text o) m.report.bytes t.report.bytes in
    inl (wrote_after e.reported (end_text e.end) s.report.bytes m.report.bytes t.report.bytes before (subst P is text))

line_said : (files : Files) (left : List ℕ) (e : Ending) (s : World) (o : WorkEnd) (m t : World) → Follows files left e s o m → WroteFront e.reported s.report.bytes m.report.bytes → IsSaid o m t → ReportedFront e s t
line_said files left e s o m t (inl memory) before h = halt_said e o Memory s m t memory before tt h.text
line_said files left e s o m t (inr (inl (x, fault, failed))) before h = halt_said e o (Outside x) s m t fault before (failed_still x s m t h.kept failed) h.text
line_said files left e s o m t (inr (inr done)) before h = end_said e o s m t done.ends done.report h.text

all_said : (files : Files) (left : List ℕ) (e : Ending) (s : World) (o : WorkEnd) (m t : World) → Follows files left e s o m → IsCut files left e s m → IsSaid o m t → IsFront files left e s t
all_said files left e s o m t followed cut h = record {
  shelf = λ told. stored_still e.stored files s m t h.shelf (cut.shelf told);
  input = λ has. let r = cut.input has in (r.0, ap (λ v. v.bytes) h.input ∙ r.1, r.2);
  out = (cut.out.0, ap (λ v. v.bytes) h.out ∙ cut.out.1);
  report = line_said files left e s o m t followed cut.report h;
}

pub partial : (p : Plan) (s : World) (result : ℕ) (t : World) → IsOrderly p → Happened p s result t → IsPartial p s t
partial p s result t orderly (o, m, went, reported) files left told =
    let sparing = sparing_of p orderly in
    let e = expected p files left in
    all_said files left e s o m t (follows p files left s o m sparing told went) (cut p files left s o m sparing (taking_of p orderly) told went) (said o m result t reported)
