-- Each file that a script stores is sound.
use Rattle.std.proofs.Common.{◌≡◌, ◌≤◌, ◌+◌, nat_le, nat_lt, nat_eq, ℕ, Bool, true, false, cond, List, [], ◌∷◌, ◌++◌, length, All, Option, Some, None, Result, Ok, Err, refl, sym, ◌∙◌, ap, subst, arith}
use Rattle.std.proofs.lemmas.Bool.{leb-true, ltb-false}
use Rattle.std.proofs.lemmas.List.Sums.{sum_by-cons, sum_by_push}
use Rattle.std.proofs.lemmas.List.Elements.{All-nil, All-push}
use Rattle.elf_read.specs.Elf.{elf}
use Rattle.elf_read.specs.declared.exe.Exe.{Exe}
use Rattle.elf_read.specs.declared.exe.Reach.TheVariants.{Original}
use Rattle.sha2.specs.Sha256.{sha256}
use Rattle.trace_file.specs.Edges.{Edge, IsEdges, ascends, union_of, pairs}
use Rattle.trace_file.specs.Trace.{trace}
use Rattle.trace_file.specs.Trace as trace_file
use Rattle.trace_file.proofs.Union.{ascends_merge, merge_length}
use Rattle.trace_set.specs.Traces.{Traces, sets_of, is_live, with_trace, without_number}
use Rattle.code_layout.specs.declared.built.Built.{Built}
use Rattle.code_layout.specs.Image.{built_of}
use Rattle.build_core.specs.ImageLaw.{ImageLaw}
use Rattle.build_core.specs.ImageQuick.{ImageQuick}
use Rattle.session_core.specs.Session.{SessionView, traces_in, with_traces, live_edges}
use Rattle.script_text.specs.Lines.{Ordered, Nothings, Adds, Removes, Emits, order_of}
use Rattle.top_plan.specs.declared.ends.Halt.{Halt}
use Rattle.top_plan.specs.declared.ends.Halt.TheVariants.{Because}
use Rattle.top_plan.specs.declared.ends.Cause.{Cause}
use Rattle.top_plan.specs.declared.ends.Cause.TheVariants.{RefusedLine, Limited}
use Rattle.top_plan.specs.declared.ends.Limit.TheVariants as limits
use Rattle.top_build.specs.BuildPlan.{limited_built}
use Rattle.top_build.proofs.EdgesGiven.{trace_ascends}
use Rattle.top_session.specs.Lines.{added_line, removed_line}
use Rattle.top_session.specs.SessionPlan.{edges_of_line, added, removed}
use Rattle.script_text.specs.Split.{lines_of}
use Rattle.top_session.specs.Sitting.{Sitting, Done, Course, prints_on, stores_on, checks_on, content_on, order_done, line_done, goes_on, sitting}
use Rattle.top_session.specs.SessionMeaning.{IsSound}
use Rattle.top_session.proofs.SessionMeant.{AllSound}

-- ---- live traces

-- the edges of each ascend
abbrev Ascend : List (ℕ × List Edge) → Type 0
Ascend [] = Unit {0}
Ascend (t ∷ ts) = (ascends t.1 ≡ true) × Ascend ts

union_ascends : (ts : List (ℕ × List Edge)) → Ascend ts → ascends (union_of (sets_of ts)) ≡ true
union_ascends [] h = refl
union_ascends (t ∷ ts) h = ascends_merge t.1 (union_of (sets_of ts)) h.0 (union_ascends ts h.1)

union_few : (ts : List (ℕ × List Edge)) → length (union_of (sets_of ts)) ≤ pairs (sets_of ts)
union_few [] = omega arith
union_few (t ∷ ts) =
    let rest = union_few ts in let one = merge_length t.1 (union_of (sets_of ts)) in let sum : pairs (sets_of (t ∷ ts)) ≡ length t.1 + pairs (sets_of ts) = sum_by-cons length t.1 (sets_of ts) in omega (arith, rest, one, sum)

union_edges : (ts : List (ℕ × List Edge)) → Ascend ts → pairs (sets_of ts) ≤ 16777216 → IsEdges (union_of (sets_of ts))
union_edges ts h few = record { order = union_ascends ts h; count = let most = union_few ts in omega (arith, most, few) }

-- one more
ascend_push : (ts : List (ℕ × List Edge)) (n : ℕ) (es : List Edge) → Ascend ts → ascends es ≡ true → Ascend (ts ++ (n, es) ∷ [])
ascend_push [] n es h new = (new, tt)
ascend_push (t ∷ ts) n es h new = (h.0, ascend_push ts n es h.1 new)

sets_push : (ts : List (ℕ × List Edge)) (n : ℕ) (es : List Edge) → sets_of (ts ++ (n, es) ∷ []) ≡ sets_of ts ++ es ∷ []
sets_push [] n es = refl
sets_push (t ∷ ts) n es = ap (λ (sets : List (List Edge)). t.1 ∷ sets) (sets_push ts n es)

pairs_push : (ts : List (ℕ × List Edge)) (n : ℕ) (es : List Edge) → pairs (sets_of (ts ++ (n, es) ∷ [])) ≡ pairs (sets_of ts) + length es
pairs_push ts n es = ap pairs (sets_push ts n es) ∙ sum_by_push length (sets_of ts) es

-- one less
ascend_without : (number : ℕ) (ts : List (ℕ × List Edge)) → Ascend ts → Ascend (without_number number ts)
ascend_without number [] h = tt
ascend_without number (t ∷ ts) h = by_test (nat_eq t.0 number) (ascend_without number ts h.1)
  where
    by_test : (b : Bool) → Ascend (without_number number ts) → Ascend (cond b ts (t ∷ without_number number ts))
    by_test true rest = h.1
    by_test false rest = (h.0, rest)

pairs_without : (number : ℕ) (ts : List (ℕ × List Edge)) → pairs (sets_of (without_number number ts)) ≤ pairs (sets_of ts)
pairs_without number [] = omega arith
pairs_without number (t ∷ ts) = by_test (nat_eq t.0 number) (pairs_without number ts)
  where
    whole : pairs (sets_of (t ∷ ts)) ≡ length t.1 + pairs (sets_of ts)
    whole = sum_by-cons length t.1 (sets_of ts)

    by_test : (b : Bool) → pairs (sets_of (without_number number ts)) ≤ pairs (sets_of ts) → pairs (sets_of (cond b ts (t ∷ without_number number ts))) ≤ pairs (sets_of (t ∷ ts))
    by_test true less = omega (arith, whole)
    by_test false less =
        let rest : pairs (sets_of (t ∷ without_number number ts)) ≡ length t.1 + pairs (sets_of (without_number number ts)) = sum_by-cons length t.1 (sets_of (without_number number ts)) in
        omega (arith, whole, rest, less)

-- ---- what passes a check

read_so : (q : ℕ) (r : Result (List Edge) trace_file.Refused) (es : List Edge) → edges_of_line q r ≡ Ok es → r ≡ Ok es
read_so q (Ok es') es h = cc
read_so q (Err refused) es h = absurd (cc)

-- the traces that are added and those that are left
record IsAdded (ts : Traces) (es : List Edge) (new : Traces) : Type 0 where
  is : new ≡ with_trace ts es
  few : pairs (sets_of ts.traces) + length es ≤ 16777216

added_so : (ts : Traces) (es : List Edge) (new : Traces) → added ts es ≡ Ok new → IsAdded ts es new
added_so ts es new h = by_count (nat_le 4096 (length ts.traces)) h
  where
    by_pairs : (b : Bool) → nat_lt 16777216 (pairs (sets_of ts.traces) + length es) ≡ b → cond b (Err (Limited (limits.Edges 16777216))) (Ok (with_trace ts es)) ≡ Ok new → IsAdded ts es new
    by_pairs true is h = absurd (cc)
    by_pairs false is h = record { is = (let e : with_trace ts es ≡ new = cc in sym e); few = ltb-false 16777216 (pairs (sets_of ts.traces) + length es) is }

    by_count : (b : Bool) → cond b (Err (Limited (limits.Traces 4096))) (cond (nat_lt 16777216 (pairs (sets_of ts.traces) + length es)) (Err (Limited (limits.Edges 16777216))) (Ok (with_trace ts es))) ≡ Ok new → IsAdded ts es new
    by_count true h = absurd (cc)
    by_count false h = by_pairs (nat_lt 16777216 (pairs (sets_of ts.traces) + length es)) refl h

abbrev left_of : ℕ → Traces → Traces
left_of number ts = record { traces = without_number number ts.traces; next = ts.next }

removed_so : (q number : ℕ) (ts new : Traces) → removed q number ts ≡ Ok new → new ≡ left_of number ts
removed_so q number ts new h = by_live (is_live number ts.traces) h
  where
    by_live : (b : Bool) → cond b (Ok (left_of number ts)) (Err (RefusedLine q 32 0)) ≡ Ok new → new ≡ left_of number ts
    by_live true h = let e : left_of number ts ≡ new = cc in sym e
    by_live false h = absurd (cc)

-- a file is within its limits
record IsWithin (b : Built) : Type 0 where
  few : b.blocks ≤ 65536
  short : b.code ≤ 100663296

built_so : (b built : Built) → limited_built b ≡ Ok built → IsWithin b
built_so b built h = by_blocks (nat_le b.blocks 65536) refl h
  where
    by_code : b.blocks ≤ 65536 → (t : Bool) → nat_le b.code 100663296 ≡ t → cond t (Ok b) (Err (Limited (limits.Code 100663296))) ≡ Ok built → IsWithin b
    by_code few true is h = record { few = few; short = leb-true b.code 100663296 is }
    by_code few false is h = absurd (cc)

    by_blocks : (t : Bool) → nat_le b.blocks 65536 ≡ t → cond t (cond (nat_le b.code 100663296) (Ok b) (Err (Limited (limits.Code 100663296)))) (Err (Limited (limits.Blocks 65536))) ≡ Ok built → IsWithin b
    by_blocks true is h = by_code (leb-true b.blocks 65536 is) (nat_le b.code 100663296) refl h
    by_blocks false is h = absurd (cc)

-- ---- lines

-- the session is of the original, its live traces are what traces may be, and each file that was stored is sound
record IsKept (exe : Exe) (content : List ℕ) (sat : Sitting) : Type 0 where
  same : sat.session.exe ≡ exe
  order : Ascend sat.session.traces
  few : pairs (sets_of sat.session.traces) ≤ 16777216
  sound : All (IsSound exe content) sat.stored

-- so it is where a line is done
abbrev KeptOn : Exe → List ℕ → Done → Type 0
KeptOn exe content (Ok sat) = IsKept exe content sat
KeptOn exe content (Err halt) = Unit {0}

checks_kept : {X : Type 0} (exe : Exe) (content : List ℕ) (r : Result X Cause) (done : X → Done) → ((x : X) → r ≡ Ok x → KeptOn exe content (done x)) → KeptOn exe content (checks_on r done)
checks_kept exe content (Ok x) done h = h x refl
checks_kept exe content (Err cause) done h = tt

-- a check that does not pass, or what comes then
unless_kept : (exe : Exe) (content : List ℕ) (b : Bool) (halt : Halt) (d : Done) → KeptOn exe content d → KeptOn exe content (cond b (Err halt) d)
unless_kept exe content true halt d h = tt
unless_kept exe content false halt d h = h

content_kept : (exe : Exe) (content : List ℕ) (c : Option (List ℕ)) (done : List ℕ → Done) → ((bytes : List ℕ) → KeptOn exe content (done bytes)) → KeptOn exe content (content_on c done)
content_kept exe content None done h = tt
content_kept exe content (Some bytes) done h = by_test (nat_le (length bytes) 16777216)
  where
    by_test : (b : Bool) → KeptOn exe content (cond b (done bytes) (Err (Because (Limited (limits.File 16777216)))))
    by_test true = h bytes
    by_test false = tt

-- a trace is added
adds_kept : (exe : Exe) (content digest : List ℕ) (sat : Sitting) (bytes : List ℕ) (es : List Edge) (ts : Traces) → IsKept exe content sat → trace bytes digest ≡ Ok es → added (traces_in sat.session) es ≡ Ok ts
    → IsKept exe content (prints_on sat (with_traces sat.session ts) (added_line sat.session.next))
adds_kept exe content digest sat bytes es ts h read is =
    let so = added_so (traces_in sat.session) es ts is in
    let traces : ts.traces ≡ sat.session.traces ++ (sat.session.next, es) ∷ [] = ap (λ (x : Traces). x.traces) so.is in
    let count = pairs_push sat.session.traces sat.session.next es in
    let few = so.few in
    record {
      same = h.same;
      order = subst Ascend (sym traces) (ascend_push sat.session.traces sat.session.next es h.order (trace_ascends bytes digest es read));
      few = subst (λ (x : List (ℕ × List Edge)). pairs (sets_of x) ≤ 16777216) (sym traces) (omega (arith, count, few));
      sound = h.sound;
    }

-- one is taken away
removes_kept : (exe : Exe) (content : List ℕ) (q number : ℕ) (sat : Sitting) (ts : Traces) → IsKept exe content sat → removed q number (traces_in sat.session) ≡ Ok ts
    → IsKept exe content (prints_on sat (with_traces sat.session ts) (removed_line number))
removes_kept exe content q number sat ts h is =
    let traces : ts.traces ≡ without_number number sat.session.traces = ap (λ (x : Traces). x.traces) (removed_so q number (traces_in sat.session) ts is) in
    let less = pairs_without number sat.session.traces in
    let few = h.few in
    record {
      same = h.same;
      order = subst Ascend (sym traces) (ascend_without number sat.session.traces h.order);
      few = subst (λ (x : List (ℕ × List Edge)). pairs (sets_of x) ≤ 16777216) (sym traces) (omega (arith, less, few));
      sound = h.sound;
    }

-- what an image does, and how fast
abbrev pub Law : Type 0
Law = ImageLaw × ImageQuick

-- the image of the live traces is sound
sound_now : (exe : Exe) (content : List ℕ) (s : SessionView) (built : Built) → Law → elf Original content ≡ Ok exe → s.exe ≡ exe → IsEdges (live_edges s) → limited_built (built_of s.exe (live_edges s)) ≡ Ok built → IsSound exe content (live_edges s)
sound_now exe content s built law accepted same edges is =
    let P : Exe → Type 0 = λ exe. limited_built (built_of exe (live_edges s)) ≡ Ok built in
    let within = built_so (built_of exe (live_edges s)) built (subst P same is) in
    let laws = law.0 content exe (live_edges s) accepted edges within.few within.short in
    record { preserved = laws.1; covered = laws.2; pace = law.1 content exe (live_edges s) accepted edges within.few within.short }

-- a file is stored
stores_kept : (exe : Exe) (content name : List ℕ) (sat : Sitting) (built : Built) → Law → elf Original content ≡ Ok exe → IsKept exe content sat → limited_built (built_of sat.session.exe (live_edges sat.session)) ≡ Ok built
    → IsKept exe content (stores_on sat name built)
stores_kept exe content name sat built law accepted h is = record {
  same = h.same;
  order = h.order;
  few = h.few;
  sound = All-push (IsSound exe content) sat.stored (live_edges sat.session) h.sound (sound_now exe content sat.session built law accepted h.same (union_edges sat.session.traces h.order h.few) is);
}

order_kept : (exe : Exe) (content digest : List ℕ) (q : ℕ) (sat : Sitting) (asked : Option Ordered) → Law → elf Original content ≡ Ok exe → IsKept exe content sat → KeptOn exe content (order_done digest q sat asked)
order_kept exe content digest q sat None law accepted h = tt
order_kept exe content digest q sat (Some Nothings) law accepted h = h
order_kept exe content digest q sat (Some (Adds name)) law accepted h =
    content_kept exe content (sat.files name) _ (λ bytes.
    checks_kept exe content (edges_of_line q (trace bytes digest)) _ (λ es read.
    checks_kept exe content (added (traces_in sat.session) es) _ (λ ts is.
    adds_kept exe content digest sat bytes es ts h (read_so q (trace bytes digest) es read) is)))
order_kept exe content digest q sat (Some (Removes number)) law accepted h =
    checks_kept exe content (removed q number (traces_in sat.session)) _ (λ ts is. removes_kept exe content q number sat ts h is)
order_kept exe content digest q sat (Some (Emits name)) law accepted h =
    checks_kept exe content (limited_built (built_of sat.session.exe (live_edges sat.session))) _ (λ built is. stores_kept exe content name sat built law accepted h is)

line_kept : (exe : Exe) (content digest : List ℕ) (q : ℕ) (sat : Sitting) (line : List ℕ) → Law → elf Original content ≡ Ok exe → IsKept exe content sat → KeptOn exe content (line_done digest q sat line)
line_kept exe content digest q sat line law accepted h =
    unless_kept exe content (nat_lt 1048576 q) _ _ (unless_kept exe content (nat_lt 4200 (length line)) _ _ (order_kept exe content digest q sat (order_of line) law accepted h))

goes_kept : (exe : Exe) (content : List ℕ) (sat : Sitting) (d : Done) (rest : Sitting → Course) → IsKept exe content sat → KeptOn exe content d → ((next : Sitting) → IsKept exe content next → IsKept exe content (rest next).sat)
    → IsKept exe content (goes_on sat d rest).sat
goes_kept exe content sat (Ok next) rest h kept then = then next kept
goes_kept exe content sat (Err halt) rest h kept then = h

sitting_kept : (exe : Exe) (content digest : List ℕ) (lines : List (List ℕ)) (q : ℕ) (sat : Sitting) → Law → elf Original content ≡ Ok exe → IsKept exe content sat → IsKept exe content (sitting digest q sat lines).sat
unfolding sitting
sitting_kept exe content digest [] q sat law accepted h = h
sitting_kept exe content digest (line ∷ lines) q sat law accepted h =
    goes_kept exe content sat (line_done digest (q + 1) sat line) _ h (line_kept exe content digest (q + 1) sat line law accepted h) (λ next kept. sitting_kept exe content digest lines (q + 1) next law accepted kept)

pub all_sound : Law → AllSound
all_sound law content exe files script accepted =
    (sitting_kept exe content (sha256 content) (lines_of script) 0 _ law accepted (record { same = refl; order = tt; few = omega arith; sound = All-nil (IsSound exe content) })).sound
