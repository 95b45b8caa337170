-- Lines that are done, as runs of their parts of the plan.
use Rattle.std.proofs.Common.{◌≡◌, ℕ, List, Option, None, Result, Ok, Err, sym, ◌∙◌, ap, subst}
use Rattle.trace_file.specs.Edges.{Edge}
use Rattle.code_layout.specs.declared.built.Built.{Built}
use Rattle.code_layout.specs.Image.{built_of}
use Rattle.session_core.specs.Session.{SessionView, traces_in, with_traces, live_edges, to_make, emitted_from}
use Rattle.script_text.specs.Lines.{Ordered}
use Rattle.top_plan.specs.World.{World}
use Rattle.top_plan.specs.Plan.{Plan, Stores, Went}
use Rattle.top_plan.specs.Parts.{prints, Goes, ChecksErr}
use Rattle.top_plan.specs.Texts.{WorkEnd}
use Rattle.top_plan.specs.declared.ends.Halt.{Halt}
use Rattle.top_plan.specs.declared.ends.Halt.TheVariants.{Because}
use Rattle.top_plan.specs.declared.ends.Cause.{Cause}
use Rattle.top_plan.specs.declared.ends.Cause.TheVariants.{RefusedLine}
use Rattle.top_plan.proofs.Passes.{passes, refuses_or_runs_out, memory_ends, ok_same, ended}
use Rattle.top_build.specs.BuildPlan.{limited_built}
use Rattle.top_session.specs.Lines.{added_line, removed_line, emitted_line}
use Rattle.top_session.specs.SessionPlan.{added, removed, trace_part, added_part, removed_part, emitted_part, order_part}
use Rattle.top_session.specs.Parts.{AddsTrace, RemovesTrace, EmitsFile}
use Rattle.top_session.proofs.Behind.{behind_trace}

-- a run of the plan behind a part, which leads to a run of the whole
abbrev pub Leads : {X : Type 0} → ((X → Plan) → Plan) → X → World → World → Type 0
Leads {X} part x s t = (next : X → Plan) (o : WorkEnd) (u : World) → Went (next x) t o u → Went (part next) s o u

-- a text was made
abbrev pub IsMade : List ℕ → List ℕ → Type 0
IsMade line made = (let r : Result (List ℕ) Cause = Ok line in r) ≡ Ok made

-- a part whose last step prints a text
pub goes_last : {X : Type 0} (part : (X → Plan) → Plan) (line : List ℕ) (x : X) (s m t : World) (result : Result (Unit {0}) Halt)
    → ((next : X → Plan) (o : WorkEnd) (u : World) → Went (prints line (next x)) m o u → Went (part next) s o u)
    → Goes (λ (d : Unit {0}). d) (λ next. prints line (next tt)) m result t → Goes (λ (d : Unit {0}). x) part s result t
goes_last part line x s m t (Ok done) first last = λ next o u went. first next o u (last (λ d. next x) o u went)
goes_last part line x s m t (Err halt) first last = λ next. first next (Err halt) t (last (λ d. next x))

-- ---- `add`

pub add_prints : (digest : List ℕ) (q : ℕ) (old new : SessionView) (name : List ℕ) (es : List Edge) (number : ℕ) (line : List ℕ) (s m : World) → Leads (trace_part digest q name) es s m
    → AddsTrace old es (Ok number) new → IsMade (added_line number) line → (next : SessionView → Plan) (o : WorkEnd) (u : World) → Went (prints line (next new)) m o u → Went (added_part digest q old name next) s o u
add_prints digest q old new name es number line s m first h made next o u went =
    let P : SessionView → Type 0 = λ v. Went (prints line (next v)) m o u in
    let Q : List ℕ → Type 0 = λ l. Went (prints l (next (with_traces old (traces_in new)))) m o u in
    let text : line ≡ added_line old.next = sym (ok_same (added_line number) line made) ∙ ap added_line h.2 in
    first (behind_trace old next) o u (passes (added (traces_in old) es) (traces_in new) (λ ts. prints (added_line old.next) (next (with_traces old ts))) m o u h.0 (subst Q text (subst P h.1 went)))

-- it is not added
pub add_refuses : (digest : List ℕ) (q : ℕ) (old new : SessionView) (name : List ℕ) (es : List Edge) (halt : Halt) (s m : World) → Leads (trace_part digest q name) es s m → AddsTrace old es (Err halt) new
    → (next : SessionView → Plan) → Went (added_part digest q old name next) s (Err halt) m
add_refuses digest q old new name es halt s m first h next =
    first (behind_trace old next) (Err halt) m (refuses_or_runs_out (added (traces_in old) es) halt (λ ts. prints (added_line old.next) (next (with_traces old ts))) m h)

-- its line is not made
pub add_lacks : (digest : List ℕ) (q : ℕ) (old : SessionView) (name : List ℕ) (es : List Edge) (halt : Halt) (line : List ℕ) (s m : World) → Leads (trace_part digest q name) es s m → ChecksErr halt (let r : Result (List ℕ) Cause = Ok line in r)
    → (next : SessionView → Plan) → Went (added_part digest q old name next) s (Err halt) m
add_lacks digest q old name es halt line s m first h next = first (behind_trace old next) (Err halt) m (memory_ends (behind_trace old next es) m halt line h)

-- ---- `remove`

pub remove_prints : (q : ℕ) (old new : SessionView) (number : ℕ) (line : List ℕ) (s : World) → RemovesTrace q old number (Ok tt) new → IsMade (removed_line number) line
    → (next : SessionView → Plan) (o : WorkEnd) (u : World) → Went (prints line (next new)) s o u → Went (removed_part q old number next) s o u
remove_prints q old new number line s h made next o u went =
    let P : SessionView → Type 0 = λ v. Went (prints line (next v)) s o u in
    let Q : List ℕ → Type 0 = λ l. Went (prints l (next (with_traces old (traces_in new)))) s o u in
    passes (removed q number (traces_in old)) (traces_in new) (λ ts. prints (removed_line number) (next (with_traces old ts))) s o u h.0 (subst Q (sym (ok_same (removed_line number) line made)) (subst P h.1 went))

pub remove_refuses : (q : ℕ) (old new : SessionView) (number : ℕ) (halt : Halt) (s : World) → RemovesTrace q old number (Err halt) new → (next : SessionView → Plan) → Went (removed_part q old number next) s (Err halt) s
remove_refuses q old new number halt s h next = refuses_or_runs_out (removed q number (traces_in old)) halt (λ ts. prints (removed_line number) (next (with_traces old ts))) s h

-- ---- `emit`

-- what stands behind the file
abbrev behind_built : SessionView → List ℕ → (SessionView → Plan) → Built → Plan
behind_built s name next b = Stores name b.bytes (prints (emitted_line b (to_make s)) (next (emitted_from s)))

pub emit_prints : (old new : SessionView) (name lent : List ℕ) (built : Built) (made : ℕ) (line : List ℕ) (s m : World) → EmitsFile old (Ok built) new → made ≡ new.compiled → IsMade (emitted_line built made) line → lent ≡ built.bytes
    → Leads (λ (next : Unit {0} → Plan). Stores name lent (next tt)) tt s m → (next : SessionView → Plan) (o : WorkEnd) (u : World) → Went (prints line (next new)) m o u → Went (emitted_part old name next) s o u
emit_prints old new name lent built made line s m h count told same store next o u went =
    let P : SessionView → Type 0 = λ v. Went (prints line (next v)) m o u in
    let Q : List ℕ → Type 0 = λ l. Went (prints l (next (emitted_from old))) m o u in
    let R : List ℕ → Type 0 = λ bytes. Went (Stores name bytes (prints (emitted_line built (to_make old)) (next (emitted_from old)))) s o u in
    let many : made ≡ to_make old = count ∙ ap (λ (v : SessionView). v.compiled) h.1 in
    let text : line ≡ emitted_line built (to_make old) = sym (ok_same (emitted_line built made) line told) ∙ ap (emitted_line built) many in
    passes (limited_built (built_of old.exe (live_edges old))) built (behind_built old name next) s o u h.0
    (subst R same (store (λ d. prints (emitted_line built (to_make old)) (next (emitted_from old))) o u (subst Q text (subst P h.1 went))))

-- it is not stored
pub emit_fails : (old new : SessionView) (name lent : List ℕ) (built : Built) (halt : Halt) (s m : World) → EmitsFile old (Ok built) new → lent ≡ built.bytes
    → ((next : Unit {0} → Plan) → Went (Stores name lent (next tt)) s (Err halt) m) → (next : SessionView → Plan) → Went (emitted_part old name next) s (Err halt) m
emit_fails old new name lent built halt s m h same fails next =
    let R : List ℕ → Type 0 = λ bytes. Went (Stores name bytes (prints (emitted_line built (to_make old)) (next (emitted_from old)))) s (Err halt) m in
    passes (limited_built (built_of old.exe (live_edges old))) built (behind_built old name next) s (Err halt) m h.0 (subst R same (fails (λ d. prints (emitted_line built (to_make old)) (next (emitted_from old)))))

pub emit_refuses : (old new : SessionView) (name : List ℕ) (halt : Halt) (s : World) → EmitsFile old (Err halt) new → (next : SessionView → Plan) → Went (emitted_part old name next) s (Err halt) s
emit_refuses old new name halt s h next = refuses_or_runs_out (limited_built (built_of old.exe (live_edges old))) halt (behind_built old name next) s h

-- ---- a line

-- the line asks this
pub asks : (digest : List ℕ) (q : ℕ) (old : SessionView) (asked is : Option Ordered) (new : SessionView) (s t : World) (result : Result (Unit {0}) Halt) → asked ≡ is
    → Goes (λ (d : Unit {0}). new) (order_part digest q old is) s result t → Goes (λ (d : Unit {0}). new) (order_part digest q old asked) s result t
asks digest q old asked is new s t result same h = let P : Option Ordered → Type 0 = λ a. Goes (λ (d : Unit {0}). new) (order_part digest q old a) s result t in subst P (sym same) h

-- it asks nothing that is known
pub unknown : (digest : List ℕ) (q : ℕ) (old : SessionView) (asked : Option Ordered) (s : World) → asked ≡ None → (next : SessionView → Plan) → Went (order_part digest q old asked next) s (Err (Because (RefusedLine q 31 0))) s
unknown digest q old asked s same next = let P : Option Ordered → Type 0 = λ a. Went (order_part digest q old a next) s (Err (Because (RefusedLine q 31 0))) s in subst P (sym same) (ended (Err (RefusedLine q 31 0)) s)
