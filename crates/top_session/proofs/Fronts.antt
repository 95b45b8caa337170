-- Whatever a run of a script leaves is what its first lines come to, but for one name whose store failed.
use Rattle.std.proofs.Common.{◌≡◌, ◌⊎◌, ◌≤◌, ◌+◌, nat_le, ℕ, zero, suc, Bool, true, false, cond, List, [], ◌∷◌, ◌++◌, length, take, drop, Option, Some, None, Result, Ok, Err, refl, sym, ◌∙◌, ap, subst, inl, inr, arith}
use Rattle.std.specs.Option.{option_map}
use Rattle.std.proofs.lemmas.Bool.{leb-true, le-leb, cond-true}
use Rattle.std.proofs.lemmas.List.{append-nil}
use Rattle.br_outside.specs.Files.{Files, put}
use Rattle.br_outside.specs.Outside.{ShelfView, StreamView, SameBut, Stored}
use Rattle.br_outside.specs.declared.errors.ShelfError.TheVariants as shelf_errors
use Rattle.br_outside.specs.declared.errors.StoreError.TheVariants as store_errors
use Rattle.br_outside.specs.declared.errors.SinkError.TheVariants as sink_errors
use Rattle.trace_file.specs.Trace.{trace}
use Rattle.code_layout.specs.declared.built.Built.{Built}
use Rattle.code_layout.specs.Image.{built_of}
use Rattle.session_core.specs.Session.{SessionView, traces_in, with_traces, live_edges, to_make, emitted_from}
use Rattle.script_text.specs.Lines.{Ordered, Nothings, Adds, Removes, Emits, order_of}
use Rattle.line_reader.specs.Lines.{line_length, Next, Nothing, TooLong, Text, next_in, used_in}
use Rattle.top_plan.specs.World.{World, on_shelf, on_out}
use Rattle.top_plan.specs.Plan.{Plan, Ends, Fetches, Stores, Went, AfterTurn, GoesOn, FailsInput, FailsOutput, FailsReport, WantsMemory}
use Rattle.top_plan.specs.Parts.{checked, prints}
use Rattle.top_plan.specs.Texts.{Finished, WorkEnd}
use Rattle.top_plan.specs.Partial.{WroteFront}
use Rattle.top_plan.specs.declared.ends.Cause.{Cause}
use Rattle.top_plan.specs.declared.ends.Object.TheVariants as objects
use Rattle.top_plan.proofs.Kept.{IsKept, nothing, two_texts, then_kept, shelf_kept, out_kept, fails_later}
use Rattle.top_plan.proofs.Fronts.{wrote_all, wrote_after, wrote_before, gave_front}
use Rattle.top_plan.proofs.Followed.{told_to, stored_files, used_alone}
use Rattle.top_plan.proofs.TurnsKept.{turned_kept}
use Rattle.top_build.specs.BuildPlan.{limited_built}
use Rattle.top_session.specs.Lines.{line_turn, line_part, added_line, removed_line, emitted_line, lines_end}
use Rattle.top_session.specs.SessionPlan.{edges_of_line, added, removed, order_part, line_step, past_last, lines_part}
use Rattle.script_text.specs.Split.{lines_of}
use Rattle.top_session.specs.Sitting.{Sitting, Done, prints_on, stores_on, checks_on, content_on, order_done, line_done, goes_on, sitting}
use Rattle.top_session.specs.SessionMeaning.{IsLeft, AreFirst}
use Rattle.top_session.proofs.ScriptLines.{first_line}
use Rattle.top_session.proofs.Behind.{behind_added, behind_trace, behind_file}
use Rattle.top_session.proofs.Sits.{done_so, first_length}

-- since s, the run has come to this: what the lines have come to is on the shelf and printed, and this is left of the input
pub record IsAt (sat : Sitting) (left : List ℕ) (s m : World) : Type 0 where
  pub shelf : m.shelf.files ≡ Some sat.files
  pub input : m.input.bytes ≡ Some left
  pub out : m.out.bytes ≡ option_map (λ w. w ++ sat.printed) s.out.bytes
  pub kept : IsKept s m

-- it goes on so with what comes behind
abbrev Onward : Sitting → List ℕ → Plan → World → WorkEnd → World → Type 0
Onward sat left next s o t = (m : World) × IsAt sat left s m × Went next m o t

-- it has stopped at what the lines have come to; or a line is done, and this is so of what comes behind
abbrev Follows : Sitting → Done → (Sitting → Type 0) → World → World → Type 0
Follows sat d R s t = IsLeft sat s t ⊎ ((next : Sitting) × (d ≡ Ok next) × R next)

-- ---- where it stops

stops_at : (sat : Sitting) (left : List ℕ) (s m t : World) → IsAt sat left s m → t ≡ m → IsLeft sat s t
stops_at sat left s m t h same =
    let P : World → Type 0 = λ t. IsLeft sat s t in
    subst P (sym same) (record { shelf = inl h.shelf; out = wrote_all sat.printed s.out.bytes m.out.bytes h.out })

-- the shelf tells the same files
stops_asked : (sat : Sitting) (left : List ℕ) (s m : World) (v : ShelfView) (t : World) → IsAt sat left s m → v.files ≡ m.shelf.files → t ≡ on_shelf m v → IsLeft sat s t
stops_asked sat left s m v t h files same =
    let P : World → Type 0 = λ t. IsLeft sat s t in
    subst P (sym same) (record { shelf = inl (files ∙ h.shelf); out = wrote_all sat.printed s.out.bytes m.out.bytes h.out })

-- a front part of a text was printed
stops_printing : (sat : Sitting) (session : SessionView) (line left : List ℕ) (s m : World) (v : StreamView) (t : World) → IsAt sat left s m → WroteFront line m.out.bytes v.bytes → t ≡ on_out m v
    → IsLeft (prints_on sat session line) s t
stops_printing sat session line left s m v t h wrote same =
    let P : World → Type 0 = λ t. IsLeft (prints_on sat session line) s t in
    subst P (sym same) (record { shelf = inl h.shelf; out = wrote_after sat.printed line s.out.bytes m.out.bytes v.bytes h.out wrote })

ends_left : (end : Result Finished Cause) (sat : Sitting) (left : List ℕ) (s m : World) (o : WorkEnd) (t : World) → IsAt sat left s m → Went (Ends end) m o t → IsLeft sat s t
unfolding Went
ends_left end sat left s m o t h (inl out) = stops_at sat left s m t h out.1
ends_left end sat left s m o t h (inr is) = stops_at sat left s m t h is.1

-- ---- steps

-- the shelf was asked
asked_at : (sat : Sitting) (left : List ℕ) (s m : World) (v : ShelfView) → IsAt sat left s m → v.files ≡ m.shelf.files → IsKept m (on_shelf m v) → IsAt sat left s (on_shelf m v)
asked_at sat left s m v h files kept = record { shelf = files ∙ h.shelf; input = h.input; out = h.out; kept = then_kept s m (on_shelf m v) h.kept kept }

-- a text is printed
prints_left : (line : List ℕ) (next : Plan) (session : SessionView) (sat : Sitting) (left : List ℕ) (s m : World) (o : WorkEnd) (t : World) → IsAt sat left s m → Went (prints line next) m o t
    → IsLeft (prints_on sat session line) s t ⊎ Onward (prints_on sat session line) left next s o t
unfolding Went
prints_left [] next session sat left s m o t h went =
    inr (m, record { shelf = h.shelf; input = h.input; out = h.out ∙ ap (λ x. option_map (λ w. w ++ x) s.out.bytes) (sym (append-nil sat.printed)); kept = h.kept }, went)
prints_left (b ∷ bs) next session sat left s m o t h (inl out) =
    let P : World → Type 0 = λ t. IsLeft (prints_on sat session (b ∷ bs)) s t in
    inl (subst P (sym out.1) (record { shelf = inl h.shelf; out = wrote_before sat.printed (b ∷ bs) s.out.bytes m.out.bytes (wrote_all sat.printed s.out.bytes m.out.bytes h.out) }))
prints_left (b ∷ bs) next session sat left s m o t h (inr (v, Ok u, gave, went)) =
    inr (
      on_out m v,
      record {
        shelf = h.shelf;
        input = h.input;
        out = two_texts s.out.bytes m.out.bytes v.bytes sat.printed (b ∷ bs) h.out gave.gives.0;
        kept = then_kept s m (on_out m v) h.kept (out_kept m v gave.later gave.calm);
      },
      went,
    )
prints_left (b ∷ bs) next session sat left s m o t h (inr (v, Err sink_errors.Failed, gave, went)) =
    inl (stops_printing sat session (b ∷ bs) left s m v t h (gave_front (b ∷ bs) (Err sink_errors.Failed) m.out v gave) went.1)
prints_left (b ∷ bs) next session sat left s m o t h (inr (v, Err sink_errors.Memory, gave, went)) =
    inl (stops_printing sat session (b ∷ bs) left s m v t h (gave_front (b ∷ bs) (Err sink_errors.Memory) m.out v gave) went.1)

-- a check passes, or ends the work
checks_left : {X : Type 0} (r : Result X Cause) (next : X → Plan) (done : X → Done) (sat : Sitting) (left : List ℕ) (R : Sitting → Type 0) (s m : World) (o : WorkEnd) (t : World) → IsAt sat left s m
    → ((x : X) → Went (next x) m o t → Follows sat (done x) R s t) → Went (checked r next) m o t → Follows sat (checks_on r done) R s t
checks_left (Ok x) next done sat left R s m o t h then went = then x went
checks_left (Err cause) next done sat left R s m o t h then went = inl (ends_left (Err cause) sat left s m o t h went)

-- a trace is fetched
fetches_left : (name : List ℕ) (next : List ℕ → Plan) (done : List ℕ → Done) (sat : Sitting) (left : List ℕ) (R : Sitting → Type 0) (s m : World) (o : WorkEnd) (t : World) → IsAt sat left s m
    → ((bytes : List ℕ) (m' : World) → IsAt sat left s m' → Went (next bytes) m' o t → Follows sat (done bytes) R s t)
    → Went (Fetches name 16777216 next) m o t → Follows sat (content_on (sat.files name) done) R s t
unfolding Went
fetches_left name next done sat left R s m o t h then (inl out) = inl (stops_at sat left s m t h out.1)
fetches_left name next done sat left R s m o t h then (inr (v, Ok bytes, was, went)) =
    let here : sat.files name ≡ Some bytes = told_to m.shelf.files sat.files (λ f. f name ≡ Some bytes) h.shelf was.gives.1 in
    let short : content_on (Some bytes) done ≡ done bytes = cond-true (nat_le (length bytes) 16777216) (done bytes) _ (le-leb (length bytes) 16777216 was.gives.0) in
    let P : Done → Type 0 = λ d. Follows sat d R s t in
    subst P (sym (ap (λ c. content_on c done) here ∙ short)) (then bytes (on_shelf m v) (asked_at sat left s m v h was.same (shelf_kept m v was.later was.calm)) went)
fetches_left name next done sat left R s m o t h then (inr (v, Err shelf_errors.Failed, was, went)) = inl (stops_asked sat left s m v t h was.same went.1)
fetches_left name next done sat left R s m o t h then (inr (v, Err shelf_errors.TooLong, was, went)) = inl (stops_asked sat left s m v t h was.same went.1)
fetches_left name next done sat left R s m o t h then (inr (v, Err shelf_errors.Memory, was, went)) = inl (stops_asked sat left s m v t h was.same went.1)

-- with a file that is stored, and not told yet
abbrev on_store : Sitting → List ℕ → List ℕ → Sitting
on_store sat name bytes = record { files = put name (Some bytes) sat.files; session = sat.session; printed = sat.printed; stored = sat.stored ++ live_edges sat.session ∷ [] }

-- it is not known what one name holds
stops_storing : (name bytes : List ℕ) (sat : Sitting) (left : List ℕ) (s m : World) (v : ShelfView) (t : World) → IsAt sat left s m → Stored name bytes (Err store_errors.Failed) m.shelf v → t ≡ on_shelf m v → IsLeft sat s t
stops_storing name bytes sat left s m v t h was same =
    let P : World → Type 0 = λ t. IsLeft sat s t in
    let Q : Option Files → Type 0 = λ f. SameBut name f v.files in
    subst P (sym same) (record {
      shelf = inr (fails_later objects.Shelf s m (on_shelf m v) h.kept (record { rose = was.gives.1; loud = was.gives.2 }), name, subst Q h.shelf was.gives.0);
      out = wrote_all sat.printed s.out.bytes m.out.bytes h.out;
    })

stores_left : (name bytes : List ℕ) (next : Plan) (sat : Sitting) (left : List ℕ) (s m : World) (o : WorkEnd) (t : World) → IsAt sat left s m → Went (Stores name bytes next) m o t
    → IsLeft sat s t ⊎ Onward (on_store sat name bytes) left next s o t
unfolding Went
stores_left name bytes next sat left s m o t h (inl out) = inl (stops_at sat left s m t h out.1)
stores_left name bytes next sat left s m o t h (inr (v, Ok u, was, went)) =
    inr (on_shelf m v, record { shelf = stored_files name bytes sat.files m v u was h.shelf; input = h.input; out = h.out; kept = then_kept s m (on_shelf m v) h.kept (shelf_kept m v was.later was.calm) }, went)
stores_left name bytes next sat left s m o t h (inr (v, Err store_errors.Failed, was, went)) = inl (stops_storing name bytes sat left s m v t h was went.1)
stores_left name bytes next sat left s m o t h (inr (v, Err store_errors.Memory, was, went)) = inl (stops_asked sat left s m v t h was.gives.0 went.1)

-- ---- what a line asks

-- what comes behind a line that is done
record IsBehind (next : SessionView → Plan) (left : List ℕ) (R : Sitting → Type 0) (s : World) (o : WorkEnd) (t : World) : Type 0 where
  stops : (after : Sitting) → IsLeft after s t → R after
  goes : (after : Sitting) (m : World) → IsAt after left s m → Went (next after.session) m o t → R after

told_left : (next : SessionView → Plan) (sat after : Sitting) (left : List ℕ) (R : Sitting → Type 0) (s : World) (o : WorkEnd) (t : World) → IsBehind next left R s o t
    → IsLeft after s t ⊎ Onward after left (next after.session) s o t → Follows sat (Ok after) R s t
told_left next sat after left R s o t behind (inl stop) = inr (after, refl, behind.stops after stop)
told_left next sat after left R s o t behind (inr (m, h, went)) = inr (after, refl, behind.goes after m h went)

emits_left : (next : SessionView → Plan) (name : List ℕ) (built : Built) (sat : Sitting) (left : List ℕ) (R : Sitting → Type 0) (s : World) (o : WorkEnd) (t : World) → IsBehind next left R s o t
    → IsLeft sat s t ⊎ Onward (on_store sat name built.bytes) left (prints (emitted_line built (to_make sat.session)) (next (emitted_from sat.session))) s o t → Follows sat (Ok (stores_on sat name built)) R s t
emits_left next name built sat left R s o t behind (inl stop) = inl stop
emits_left next name built sat left R s o t behind (inr (m, h, went)) =
    told_left next sat (stores_on sat name built) left R s o t behind
    (prints_left (emitted_line built (to_make sat.session)) (next (emitted_from sat.session)) (emitted_from sat.session) (on_store sat name built.bytes) left s m o t h went)

order_left : (digest : List ℕ) (q : ℕ) (asked : Option Ordered) (next : SessionView → Plan) (sat : Sitting) (left : List ℕ) (R : Sitting → Type 0) (s m : World) (o : WorkEnd) (t : World) → IsAt sat left s m → IsBehind next left R s o t
    → Went (order_part digest q sat.session asked next) m o t → Follows sat (order_done digest q sat asked) R s t
order_left digest q None next sat left R s m o t h behind went = inl (ends_left _ sat left s m o t h went)
order_left digest q (Some Nothings) next sat left R s m o t h behind went = inr (sat, refl, behind.goes sat m h went)
order_left digest q (Some (Adds name)) next sat left R s m o t h behind went =
    fetches_left name (behind_file digest q sat.session next) _ sat left R s m o t h (λ bytes m h went.
    checks_left (edges_of_line q (trace bytes digest)) (behind_trace sat.session next) _ sat left R s m o t h (λ es went.
    checks_left (added (traces_in sat.session) es) (behind_added sat.session next) _ sat left R s m o t h (λ ts went.
    told_left next sat (prints_on sat (with_traces sat.session ts) (added_line sat.session.next)) left R s o t behind
    (prints_left (added_line sat.session.next) (next (with_traces sat.session ts)) (with_traces sat.session ts) sat left s m o t h went)) went) went) went
order_left digest q (Some (Removes number)) next sat left R s m o t h behind went =
    checks_left (removed q number (traces_in sat.session)) (λ ts. prints (removed_line number) (next (with_traces sat.session ts))) _ sat left R s m o t h (λ ts went.
    told_left next sat (prints_on sat (with_traces sat.session ts) (removed_line number)) left R s o t behind
    (prints_left (removed_line number) (next (with_traces sat.session ts)) (with_traces sat.session ts) sat left s m o t h went)) went
order_left digest q (Some (Emits name)) next sat left R s m o t h behind went =
    checks_left (limited_built (built_of sat.session.exe (live_edges sat.session))) (λ b. Stores name b.bytes (prints (emitted_line b (to_make sat.session)) (next (emitted_from sat.session)))) _ sat left R s m o t h (λ built went.
    emits_left next name built sat left R s o t behind
    (stores_left name built.bytes (prints (emitted_line built (to_make sat.session)) (next (emitted_from sat.session))) sat left s m o t h went)) went

-- ---- lines

-- a line is asked for: the work stops there, or goes on by it
turn_left : (limit : ℕ) (next : Next → Plan) (sat : Sitting) (left : List ℕ) (G : Type 0) (s m : World) (o : WorkEnd) (t : World) → IsAt sat left s m → (IsLeft sat s t → G)
    → ((m' : World) → IsAt sat (drop (used_in limit left) left) s m' → Went (next (next_in limit left)) m' o t → G) → AfterTurn (line_turn limit left) left (Went (next (next_in limit left))) m o t → G
turn_left limit next sat left G s m o t h stops goes (GoesOn m' d went) = goes m' (record {
  shelf = ap (λ v. v.files) d.shelf ∙ h.shelf;
  input = used_alone (line_turn limit left) left m m' d h.input refl;
  out = d.out.bytes ∙ (sym (nothing m.out.bytes) ∙ h.out);
  kept = then_kept s m m' h.kept (turned_kept (line_turn limit left) m m' d);
}) went
turn_left limit next sat left G s m o t h stops goes (FailsInput d) = stops (record {
  shelf = inl (ap (λ v. v.files) d.shelf ∙ h.shelf);
  out = wrote_all sat.printed s.out.bytes t.out.bytes (ap (λ v. v.bytes) d.out ∙ h.out);
})
turn_left limit next sat left G s m o t h stops goes (FailsOutput d) = absurd (d.some refl)
turn_left limit next sat left G s m o t h stops goes (FailsReport d) = absurd (d.some refl)
turn_left limit next sat left G s m o t h stops goes (WantsMemory d) =
    let P : List ℕ → Type 0 = λ text. WroteFront text s.out.bytes t.out.bytes in
    stops (record {
      shelf = inl (ap (λ v. v.files) d.shelf ∙ h.shelf);
      out = subst P (append-nil sat.printed) (wrote_after sat.printed [] s.out.bytes m.out.bytes t.out.bytes h.out (d.printed, d.out));
    })

reads_left : (limit : ℕ) (next : Next → Plan) (sat : Sitting) (left : List ℕ) (G : Type 0) (s m : World) (o : WorkEnd) (t : World) → IsAt sat left s m → (IsLeft sat s t → G)
    → ((m' : World) → IsAt sat (drop (used_in limit left) left) s m' → Went (next (next_in limit left)) m' o t → G) → Went (line_part limit next) m o t → G
unfolding Went
reads_left limit next sat left G s m o t h stops goes (inl out) = stops (stops_at sat left s m t h out.1)
reads_left limit next sat left G s m o t h stops goes (inr (left', told, turned)) =
    let same : left ≡ left' = told_to m.input.bytes left (λ b. b ≡ left') h.input told in
    let P : List ℕ → Type 0 = λ l. AfterTurn (line_turn limit l) l (Went (next (next_in limit l))) m o t in
    turn_left limit next sat left G s m o t h stops goes (subst P (sym same) turned)

-- nothing more is done than before
stays : (digest : List ℕ) (q : ℕ) (sat : Sitting) (lines : List (List ℕ)) (s t : World) → IsLeft sat s t → AreFirst digest q sat lines s t
unfolding sitting
stays digest q sat lines s t h = ([], lines, refl, h)

-- the line is done, and those behind it are so
one_more : (digest : List ℕ) (q : ℕ) (sat next : Sitting) (line : List ℕ) (lines all : List (List ℕ)) (s t : World) → all ≡ line ∷ lines → line_done digest (q + 1) sat line ≡ Ok next → AreFirst digest (q + 1) next lines s t → AreFirst digest q sat all s t
unfolding sitting
one_more digest q sat next line lines all s t same done (front, back, parts, holds) =
    let P : Done → Type 0 = λ d. IsLeft (goes_on sat d (λ next. sitting digest (q + 1) next front)).sat s t in
    (line ∷ front, back, same ∙ ap (λ (more : List (List ℕ)). line ∷ more) parts, subst P (sym done) holds)

past_left : (q : ℕ) (next : Next) (sat : Sitting) (left : List ℕ) (s m : World) (o : WorkEnd) (t : World) → IsAt sat left s m → Went (past_last q lines_end next) m o t → IsLeft sat s t
past_left q Nothing sat left s m o t h went = ends_left _ sat left s m o t h went
past_left q TooLong sat left s m o t h went = ends_left _ sat left s m o t h went
past_left q (Text line) sat left s m o t h went = ends_left _ sat left s m o t h went

-- what is behind a line
abbrev Further : List ℕ → ℕ → ℕ → World → WorkEnd → World → Type 0
Further digest n q s o t = (sat : Sitting) (left : List ℕ) (m : World) → IsAt sat left s m → Went (lines_part digest n q sat.session lines_end) m o t → AreFirst digest q sat (lines_of left) s t

line_left : (digest : List ℕ) (n q : ℕ) (sat : Sitting) (b : ℕ) (bs : List ℕ) (s m : World) (o : WorkEnd) (t : World) → q + 1 ≤ 1048576 → Further digest n (q + 1) s o t → IsAt sat (drop (used_in 4200 (b ∷ bs)) (b ∷ bs)) s m
    → Went (line_step digest q sat.session (λ s. lines_part digest n (q + 1) s lines_end) lines_end (next_in 4200 (b ∷ bs))) m o t → AreFirst digest q sat (lines_of (b ∷ bs)) s t
line_left digest n q sat b bs s m o t few further at went = by_test (nat_le (line_length (b ∷ bs)) 4200) refl went
  where
    left : List ℕ
    left = b ∷ bs

    line : List ℕ
    line = take (line_length left) left

    rest : List ℕ
    rest = drop (line_length left + 1) left

    next : SessionView → Plan
    next s = lines_part digest n (q + 1) s lines_end

    R : Sitting → Type 0
    R after = AreFirst digest (q + 1) after (lines_of rest) s t

    by_order : line_length left ≤ 4200 → Follows sat (order_done digest (q + 1) sat (order_of line)) R s t → AreFirst digest q sat (lines_of left) s t
    by_order short (inl stop) = stays digest q sat (lines_of left) s t stop
    by_order short (inr (after, done, first)) =
        let size = first_length left in one_more digest q sat after line (lines_of rest) (lines_of left) s t (first_line b bs) (done_so digest (q + 1) sat line few (omega (arith, short, size)) ∙ done) first

    behind : IsBehind next rest R s o t
    behind = record { stops = λ after stop. stays digest (q + 1) after (lines_of rest) s t stop; goes = λ after m h went. further after rest m h went }

    by_test : (x : Bool) → nat_le (line_length left) 4200 ≡ x → Went (line_step digest q sat.session next lines_end (cond x (Text line) TooLong)) m o t → AreFirst digest q sat (lines_of left) s t
    by_test true is went =
        let short : line_length left ≤ 4200 = leb-true (line_length left) 4200 is in
        let used : used_in 4200 left ≡ line_length left + 1 = omega (arith, short) in
        let P : ℕ → Type 0 = λ k. IsAt sat (drop k left) s m in
        by_order short (order_left digest (q + 1) (order_of line) next sat rest R s m o t (subst P used at) behind went)
    by_test false is went = stays digest q sat (lines_of left) s t (ends_left _ sat (drop (used_in 4200 left) left) s m o t at went)

pub lines_left : (digest : List ℕ) (n q : ℕ) (sat : Sitting) (left : List ℕ) (s m : World) (o : WorkEnd) (t : World) → n + q ≡ 1048576 → IsAt sat left s m → Went (lines_part digest n q sat.session lines_end) m o t → AreFirst digest q sat (lines_of left) s t
unfolding lines_part
lines_left digest zero q sat left s m o t fuel h went =
    reads_left 0 (past_last q lines_end) sat left (AreFirst digest q sat (lines_of left) s t) s m o t h (stays digest q sat (lines_of left) s t)
    (λ m' h' went. stays digest q sat (lines_of left) s t (past_left q (next_in 0 left) sat (drop (used_in 0 left) left) s m' o t h' went)) went
lines_left digest (suc n) q sat [] s m o t fuel h went =
    reads_left 4200 (line_step digest q sat.session (λ s. lines_part digest n (q + 1) s lines_end) lines_end) sat [] (AreFirst digest q sat [] s t) s m o t h (stays digest q sat [] s t)
    (λ m' h' went. stays digest q sat [] s t (ends_left _ sat (drop (used_in 4200 []) []) s m' o t h' went)) went
lines_left digest (suc n) q sat (b ∷ bs) s m o t fuel h went =
    reads_left 4200 (line_step digest q sat.session (λ s. lines_part digest n (q + 1) s lines_end) lines_end) sat (b ∷ bs) (AreFirst digest q sat (lines_of (b ∷ bs)) s t) s m o t h (stays digest q sat (lines_of (b ∷ bs)) s t)
    (λ m' h' went. line_left digest n q sat b bs s m' o t (omega (arith, fuel)) (λ after left m h went. lines_left digest n (q + 1) after left s m o t (omega (arith, fuel)) h went) h' went) went
