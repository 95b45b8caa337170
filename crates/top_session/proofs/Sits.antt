-- What the plan of the lines comes to is what the lines come to, one after another.
use Rattle.std.proofs.Common.{◌≡◌, ◌<◌, ◌≤◌, ◌+◌, nat_le, nat_lt, ℕ, zero, suc, Bool, true, false, not, cond, List, [], ◌∷◌, ◌++◌, length, take, drop, Option, Some, None, Result, Ok, Err, refl, sym, ◌∙◌, ap, subst, arith, append_assoc}
use Rattle.std.proofs.lemmas.List.{append-nil, drop_all}
use Rattle.std.proofs.lemmas.List.Folds.{length-prefix_len}
use Rattle.std.proofs.lemmas.Bool.{leb-true, leb-false, lt-ltb, le-ltb, cond-true, cond-false}
use Rattle.br_outside.specs.Files.{put}
use Rattle.trace_file.specs.Trace.{trace}
use Rattle.code_layout.specs.Image.{built_of}
use Rattle.session_core.specs.Session.{SessionView, traces_in, with_traces, live_edges, to_make, emitted_from}
use Rattle.script_text.specs.Lines.{Ordered, Nothings, Adds, Removes, Emits, order_of}
use Rattle.script_text.specs.Split.{is_end, lines_of}
use Rattle.line_reader.specs.Lines.{line_length, Next, Nothing, TooLong, Text, next_in, used_in}
use Rattle.top_plan.specs.Plan.{Plan, Ends}
use Rattle.top_plan.specs.Parts.{checked, prints}
use Rattle.top_plan.specs.Texts.{Finished}
use Rattle.top_plan.specs.Expected.{Ending, ends_with, after_fetch, turned_before, expected}
use Rattle.top_plan.specs.declared.ends.Halt.{Halt}
use Rattle.top_plan.specs.declared.ends.Halt.TheVariants.{Because, Outside}
use Rattle.top_plan.specs.declared.ends.Cause.{Cause}
use Rattle.top_plan.specs.declared.ends.Cause.TheVariants.{RefusedLine, Limited}
use Rattle.top_plan.specs.declared.ends.Object.TheVariants as objects
use Rattle.top_plan.specs.declared.ends.Limit.TheVariants as limits
use Rattle.top_build.specs.BuildPlan.{limited_built}
use Rattle.top_session.specs.Lines.{line_turn, added_line, removed_line, emitted_line, lines_end}
use Rattle.top_session.specs.SessionPlan.{edges_of_line, added, removed, order_part, line_step, past_last, lines_part}
use Rattle.top_session.specs.Sitting.{Sitting, Done, Course, prints_on, stores_on, checks_on, content_on, order_done, line_done, goes_on, sitting}
use Rattle.top_session.proofs.ScriptLines.{first_line}
use Rattle.top_session.proofs.Behind.{behind_added, behind_trace, behind_file}

-- the end, the files and the printed text are those of the lines, and nothing more was taken, reported or left
pub record IsSeated (e : Ending) (sat : Sitting) (course : Course) : Type 0 where
  pub end : e.end ≡ course.end
  pub files : e.files ≡ course.sat.files
  pub printed : sat.printed ++ e.printed ≡ course.sat.printed
  pub reported : e.reported ≡ []
  pub spare : e.spare ≡ 0
  pub left : (done : Finished) → e.end ≡ Ok done → e.left ≡ []

-- the work behind a line, and what the lines behind it come to
abbrev Behind : (SessionView → Plan) → (Sitting → Course) → List ℕ → Type 0
Behind next rest left = (sat : Sitting) → IsSeated (expected (next sat.session) sat.files left) sat (rest sat)

-- ---- ends

stops : (halt : Halt) (sat : Sitting) (left : List ℕ) → IsSeated (ends_with (Err halt) sat.files left) sat (record { end = Err halt; sat = sat })
stops halt sat left = record { end = refl; files = refl; printed = append-nil sat.printed; reported = refl; spare = refl; left = λ done is. absurd (cc) }

refuses : (cause : Cause) (sat : Sitting) (left : List ℕ) (rest : Sitting → Course) → IsSeated (expected (Ends (Err cause)) sat.files left) sat (goes_on sat (Err (Because cause)) rest)
unfolding expected
refuses cause sat left rest = stops (Because cause) sat left

finishes : (q : ℕ) (sat : Sitting) (left : List ℕ) (digest : List ℕ) → left ≡ [] → IsSeated (expected (lines_end q) sat.files left) sat (sitting digest q sat [])
unfolding expected sitting
finishes q sat left digest none = record { end = refl; files = refl; printed = append-nil sat.printed; reported = refl; spare = refl; left = λ done is. none }

-- ---- steps

-- a text was printed
prints_seated : (line : List ℕ) (next : Plan) (session : SessionView) (sat : Sitting) (left : List ℕ) (course : Course) → IsSeated (expected next sat.files left) (prints_on sat session line) course → IsSeated (expected (prints line next) sat.files left) sat course
unfolding expected
prints_seated [] next session sat left course h = record {
  end = h.end;
  files = h.files;
  printed = ap (λ x. x ++ (expected next sat.files left).printed) (sym (append-nil sat.printed)) ∙ h.printed;
  reported = h.reported;
  spare = h.spare;
  left = h.left;
}
prints_seated (b ∷ bs) next session sat left course h = record {
  end = h.end;
  files = h.files;
  printed = sym (append_assoc sat.printed (b ∷ bs) (expected next sat.files left).printed) ∙ h.printed;
  reported = h.reported;
  spare = h.spare;
  left = h.left;
}

-- a check passes, or ends the work
checks_seated : {X : Type 0} (r : Result X Cause) (next : X → Plan) (done : X → Done) (sat : Sitting) (left : List ℕ) (rest : Sitting → Course)
    → ((x : X) → IsSeated (expected (next x) sat.files left) sat (goes_on sat (done x) rest)) → IsSeated (expected (checked r next) sat.files left) sat (goes_on sat (checks_on r done) rest)
checks_seated (Ok x) next done sat left rest h = h x
checks_seated (Err cause) next done sat left rest h = refuses cause sat left rest

-- a trace is fetched
fetches_seated : (limit : ℕ) (c : Option (List ℕ)) (next : List ℕ → Plan) (done : List ℕ → Done) (sat : Sitting) (left : List ℕ) (rest : Sitting → Course)
    → ((bytes : List ℕ) → IsSeated (expected (next bytes) sat.files left) sat (goes_on sat (done bytes) rest))
    → IsSeated (after_fetch 16777216 (λ bytes. expected (next bytes) sat.files left) sat.files left c) sat (goes_on sat (content_on c done) rest)
fetches_seated limit None next done sat left rest h = stops (Outside objects.Shelf) sat left
fetches_seated limit (Some bytes) next done sat left rest h = by_test (nat_le (length bytes) 16777216)
  where
    by_test : (t : Bool) → IsSeated (cond t (expected (next bytes) sat.files left) (ends_with (Err (Because (Limited (limits.File 16777216)))) sat.files left)) sat (goes_on sat (cond t (done bytes) (Err (Because (Limited (limits.File 16777216))))) rest)
    by_test true = h bytes
    by_test false = stops (Because (Limited (limits.File 16777216))) sat left

-- what a line asks
order_seated : (digest : List ℕ) (q : ℕ) (asked : Option Ordered) (next : SessionView → Plan) (sat : Sitting) (left : List ℕ) (rest : Sitting → Course)
    → Behind next rest left → IsSeated (expected (order_part digest q sat.session asked next) sat.files left) sat (goes_on sat (order_done digest q sat asked) rest)
unfolding expected
order_seated digest q None next sat left rest h = refuses (RefusedLine q 31 0) sat left rest
order_seated digest q (Some Nothings) next sat left rest h = h sat
order_seated digest q (Some (Adds name)) next sat left rest h =
    fetches_seated 16777216 (sat.files name) (behind_file digest q sat.session next) _ sat left rest (λ bytes.
    checks_seated (edges_of_line q (trace bytes digest)) (behind_trace sat.session next) _ sat left rest (λ es.
    checks_seated (added (traces_in sat.session) es) (behind_added sat.session next) _ sat left rest (λ ts.
    prints_seated (added_line sat.session.next) (next (with_traces sat.session ts)) (with_traces sat.session ts) sat left _ (h (prints_on sat (with_traces sat.session ts) (added_line sat.session.next))))))
order_seated digest q (Some (Removes number)) next sat left rest h =
    checks_seated (removed q number (traces_in sat.session)) _ _ sat left rest (λ ts.
    prints_seated (removed_line number) (next (with_traces sat.session ts)) (with_traces sat.session ts) sat left _ (h (prints_on sat (with_traces sat.session ts) (removed_line number))))
order_seated digest q (Some (Emits name)) next sat left rest h =
    checks_seated (limited_built (built_of sat.session.exe (live_edges sat.session))) _ _ sat left rest (λ built.
    let on : Sitting = record { files = put name (Some built.bytes) sat.files; session = sat.session; printed = sat.printed; stored = sat.stored ++ live_edges sat.session ∷ [] } in
    let line = emitted_line built (to_make sat.session) in
    let e : IsSeated (expected (prints line (next (emitted_from sat.session))) on.files left) on (rest (stores_on sat name built)) =
    prints_seated line (next (emitted_from sat.session)) (emitted_from sat.session) on left (rest (stores_on sat name built)) (h (stores_on sat name built)) in
    record { end = e.end; files = e.files; printed = e.printed; reported = e.reported; spare = e.spare; left = e.left })

-- ---- lines

-- the line is not too long, and not one too many
pub done_so : (digest : List ℕ) (q : ℕ) (sat : Sitting) (line : List ℕ) → q ≤ 1048576 → length line ≤ 4200 → line_done digest q sat line ≡ order_done digest q sat (order_of line)
done_so digest q sat line few short =
    cond-false (nat_lt 1048576 q) _ _ (le-ltb 1048576 q few) ∙ cond-false (nat_lt 4200 (length line)) _ _ (le-ltb 4200 (length line) short)

too_long : (digest : List ℕ) (q : ℕ) (sat : Sitting) (line : List ℕ) → q ≤ 1048576 → 4200 < length line → line_done digest q sat line ≡ Err (Because (RefusedLine q 31 0))
too_long digest q sat line few long =
    cond-false (nat_lt 1048576 q) _ _ (le-ltb 1048576 q few) ∙ cond-true (nat_lt 4200 (length line)) _ _ (lt-ltb 4200 (length line) long)

too_many : (digest : List ℕ) (q : ℕ) (sat : Sitting) (line : List ℕ) → 1048576 < q → line_done digest q sat line ≡ Err (Because (Limited (limits.Lines 1048576)))
too_many digest q sat line many = cond-true (nat_lt 1048576 q) _ _ (lt-ltb 1048576 q many)

-- nothing but the line was taken
turned : (limit : ℕ) (left : List ℕ) (e : Ending) (sat : Sitting) (course : Course) → IsSeated e sat course → IsSeated (turned_before (line_turn limit left) e) sat course
turned limit left e sat course h = record {
  end = h.end;
  files = h.files;
  printed = h.printed;
  reported = h.reported;
  spare = (let none = h.spare in omega (arith, none));
  left = h.left;
}

-- a first line, by how the lines behind it are done
abbrev rest_of : List ℕ → ℕ → ℕ → List ℕ → Sitting → Course
rest_of digest q b bs next = sitting digest (q + 1) next (lines_of (drop (line_length (b ∷ bs) + 1) (b ∷ bs)))

abbrev first_of : List ℕ → ℕ → Sitting → ℕ → List ℕ → Course
first_of digest q sat b bs = goes_on sat (line_done digest (q + 1) sat (take (line_length (b ∷ bs)) (b ∷ bs))) (rest_of digest q b bs)

by_first : (e : Ending) (digest : List ℕ) (q : ℕ) (sat : Sitting) (b : ℕ) (bs : List ℕ) → IsSeated e sat (first_of digest q sat b bs) → IsSeated e sat (sitting digest q sat (lines_of (b ∷ bs)))
unfolding sitting
by_first e digest q sat b bs h = let P : List (List ℕ) → Type 0 = λ lines. IsSeated e sat (sitting digest q sat lines) in subst P (sym (first_line b bs)) h

-- the line is done so
by_done : (e : Ending) (sat : Sitting) (d d' : Done) (rest : Sitting → Course) → d ≡ d' → IsSeated e sat (goes_on sat d' rest) → IsSeated e sat (goes_on sat d rest)
by_done e sat d d' rest is h = let P : Done → Type 0 = λ d. IsSeated e sat (goes_on sat d rest) in subst P (sym is) h

-- the first line is as long as it is
pub first_length : (left : List ℕ) → length (take (line_length left) left) ≡ line_length left
first_length left = length-prefix_len (λ x. not (is_end x)) left

-- a line behind the last that may be there
past_seated : (digest : List ℕ) (q : ℕ) (sat : Sitting) (b : ℕ) (bs left : List ℕ) → 1048576 < q + 1 → (next : Next) → (next ≡ Nothing → ⊥)
    → IsSeated (expected (past_last q lines_end next) sat.files left) sat (first_of digest q sat b bs)
unfolding expected
past_seated digest q sat b bs left many Nothing some = absurd (some refl)
past_seated digest q sat b bs left many TooLong some =
    by_done _ sat _ _ (rest_of digest q b bs) (too_many digest (q + 1) sat (take (line_length (b ∷ bs)) (b ∷ bs)) many) (refuses (Limited (limits.Lines 1048576)) sat left (rest_of digest q b bs))
past_seated digest q sat b bs left many (Text line) some =
    by_done _ sat _ _ (rest_of digest q b bs) (too_many digest (q + 1) sat (take (line_length (b ∷ bs)) (b ∷ bs)) many) (refuses (Limited (limits.Lines 1048576)) sat left (rest_of digest q b bs))

-- something stands next where something is left
not_nothing : (limit b : ℕ) (bs : List ℕ) → next_in limit (b ∷ bs) ≡ Nothing → ⊥
not_nothing limit b bs h = by_test (nat_le (line_length (b ∷ bs)) limit) h
  where
    by_test : (t : Bool) → cond t (Text (take (line_length (b ∷ bs)) (b ∷ bs))) TooLong ≡ Nothing → ⊥
    by_test true h = cc
    by_test false h = cc

-- what is behind a line, by the lines behind it
abbrev Further : List ℕ → ℕ → ℕ → Type 0
Further digest m q = (sat : Sitting) (left : List ℕ) → IsSeated (expected (lines_part digest m q sat.session lines_end) sat.files left) sat (sitting digest q sat (lines_of left))

-- one of the lines that may be there
line_seated : (digest : List ℕ) (m q : ℕ) (sat : Sitting) (b : ℕ) (bs : List ℕ) → q + 1 ≤ 1048576 → Further digest m (q + 1)
    → IsSeated (expected (line_step digest q sat.session (λ s. lines_part digest m (q + 1) s lines_end) lines_end (next_in 4200 (b ∷ bs))) sat.files (drop (used_in 4200 (b ∷ bs)) (b ∷ bs))) sat (first_of digest q sat b bs)
unfolding expected
line_seated digest m q sat b bs few further = by_test (nat_le (line_length (b ∷ bs)) 4200) refl
  where
    left : List ℕ
    left = b ∷ bs

    line : List ℕ
    line = take (line_length left) left

    rest : Sitting → Course
    rest next = sitting digest (q + 1) next (lines_of (drop (line_length left + 1) left))

    next : SessionView → Plan
    next s = lines_part digest m (q + 1) s lines_end

    by_test : (t : Bool) → nat_le (line_length left) 4200 ≡ t
        → IsSeated (expected (line_step digest q sat.session next lines_end (cond t (Text line) TooLong)) sat.files (drop (used_in 4200 left) left)) sat (goes_on sat (line_done digest (q + 1) sat line) rest)
    by_test true is =
        let short : line_length left ≤ 4200 = leb-true (line_length left) 4200 is in
        let size = first_length left in
        let used : line_length left + 1 ≡ used_in 4200 left = omega (arith, short) in
        let P : ℕ → Type 0 = λ k. IsSeated (expected (order_part digest (q + 1) sat.session (order_of line) next) sat.files (drop k left)) sat (goes_on sat (order_done digest (q + 1) sat (order_of line)) rest) in
        by_done _ sat _ _ rest (done_so digest (q + 1) sat line few (omega (arith, short, size)))
        (subst P used (order_seated digest (q + 1) (order_of line) next sat (drop (line_length left + 1) left) rest (λ sat'. further sat' (drop (line_length left + 1) left))))
    by_test false is =
        let more : 4200 < line_length left = leb-false (line_length left) 4200 is in
        let size = first_length left in
        by_done _ sat _ _ rest (too_long digest (q + 1) sat line few (omega (arith, more, size))) (refuses (RefusedLine (q + 1) 31 0) sat (drop (used_in 4200 left) left) rest)

-- nothing is left behind the end
none_left : (limit : ℕ) → drop (used_in limit []) (let none : List ℕ = [] in none) ≡ []
none_left limit = drop_all (used_in limit []) [] (omega arith)

pub seated : (digest : List ℕ) (n q : ℕ) (sat : Sitting) (left : List ℕ) → n + q ≡ 1048576 → IsSeated (expected (lines_part digest n q sat.session lines_end) sat.files left) sat (sitting digest q sat (lines_of left))
unfolding expected lines_part
seated digest zero q sat [] fuel = turned 0 [] _ sat _ (finishes q sat (drop (used_in 0 []) []) digest (none_left 0))
seated digest zero q sat (b ∷ bs) fuel =
    turned 0 (b ∷ bs) _ sat _ (by_first _ digest q sat b bs (past_seated digest q sat b bs (drop (used_in 0 (b ∷ bs)) (b ∷ bs)) (omega (arith, fuel)) (next_in 0 (b ∷ bs)) (not_nothing 0 b bs)))
seated digest (suc m) q sat [] fuel = turned 4200 [] _ sat _ (finishes q sat (drop (used_in 4200 []) []) digest (none_left 4200))
seated digest (suc m) q sat (b ∷ bs) fuel =
    turned 4200 (b ∷ bs) _ sat _ (by_first _ digest q sat b bs (line_seated digest m q sat b bs (omega (arith, fuel)) (λ sat' left. seated digest m (q + 1) sat' left (omega (arith, fuel)))))
