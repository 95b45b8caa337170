-- The lines of a script, one after another, as a run of the plan.
use Rattle.std.proofs.Common.{◌≡◌, ◌+◌, ◌≤◌, ℕ, zero, suc, List, [], ◌++◌, length, drop, Option, Some, None, Result, Ok, Err, refl, sym, ap, subst}
use Rattle.std.proofs.Math.Seq.{drop-append_seam}
use Rattle.std.specs.Option.{option_map}
use Rattle.br_outside.specs.Outside.{ShelfView, StreamView}
use Rattle.session_core.specs.Session.{SessionView}
use Rattle.script_text.specs.Lines.{order_of}
use Rattle.line_reader.specs.Lines.{Next, Nothing, TooLong, Text}
use Rattle.line_reader.specs.Reads.{unread}
use Rattle.top_plan.specs.World.{World}
use Rattle.top_plan.specs.Plan.{Plan, Script, IsAhead, Went}
use Rattle.top_plan.specs.Parts.{Goes}
use Rattle.top_plan.specs.Texts.{WorkEnd}
use Rattle.top_plan.specs.declared.ends.Halt.{Halt}
use Rattle.top_plan.specs.declared.ends.Halt.TheVariants.{Because}
use Rattle.top_plan.specs.declared.ends.Cause.TheVariants.{RefusedLine, Limited}
use Rattle.top_plan.specs.declared.ends.Limit.TheVariants as limits
use Rattle.top_plan.proofs.Passes.{ended, scripted}
use Rattle.top_session.specs.Lines.{line_part}
use Rattle.top_session.specs.SessionPlan.{order_part, line_step, past_last, lines_part}
use Rattle.top_session.specs.Parts.{on_three}
use Rattle.top_session.proofs.OrdersRun.{Leads}

-- what stands behind one of the lines that may be there
abbrev behind_line : List ℕ → ℕ → ℕ → SessionView → (ℕ → Plan) → Next → Plan
behind_line digest m q s last = line_step digest q s (λ s. lines_part digest m (q + 1) s last) last

-- a part that leads to the whole
pub goes_within : {X Y : Type 0} (view : X → Y) (part within : (Y → Plan) → Plan) (s m t : World) (result : Result X Halt)
    → ((next : Y → Plan) (o : WorkEnd) (u : World) → Went (within next) m o u → Went (part next) s o u) → Goes view within m result t → Goes view part s result t
goes_within view part within s m t (Ok x) on goes = λ next o u went. on next o u (goes next o u went)
goes_within view part within s m t (Err halt) on goes = λ next. on next (Err halt) t (goes next)

-- one of the lines that may be there
line_on : (digest : List ℕ) (n m q : ℕ) (s : SessionView) (last : ℕ → Plan) (w : World) (o : WorkEnd) (u : World) → n ≡ suc m → Went (line_part 4200 (behind_line digest m q s last)) w o u → Went (lines_part digest n q s last) w o u
unfolding lines_part
line_on digest n m q s last w o u is went = let P : ℕ → Type 0 = λ n. Went (lines_part digest n q s last) w o u in subst P (sym is) went

-- behind the last one
pub lines_past : (digest : List ℕ) (n q : ℕ) (s : SessionView) (last : ℕ → Plan) (w : World) (o : WorkEnd) (u : World) → n ≡ zero → q ≡ 1048576 → Went (line_part 0 (past_last 1048576 last)) w o u → Went (lines_part digest n q s last) w o u
unfolding lines_part
lines_past digest n q s last w o u is all went =
    let P : ℕ → Type 0 = λ n. Went (lines_part digest n q s last) w o u in
    let Q : ℕ → Type 0 = λ q. Went (line_part 0 (past_last q last)) w o u in
    subst P (sym is) (subst Q (sym all) went)

-- no line is read
pub not_read : (digest : List ℕ) (n m q : ℕ) (s : SessionView) (last : ℕ → Plan) (w u : World) (halt : Halt) → n ≡ suc m → ((next : Next → Plan) → Went (line_part 4200 next) w (Err halt) u) → Went (lines_part digest n q s last) w (Err halt) u
not_read digest n m q s last w u halt is fails = line_on digest n m q s last w (Err halt) u is (fails (behind_line digest m q s last))

-- none is left
pub none_left : (digest : List ℕ) (n m q : ℕ) (s : SessionView) (last : ℕ → Plan) (next : Next) (w v : World) (o : WorkEnd) (u : World) → n ≡ suc m → next ≡ Nothing → Leads (line_part 4200) next w v → Went (last q) v o u → Went (lines_part digest n q s last) w o u
none_left digest n m q s last next w v o u is end read went =
    let P : Next → Type 0 = λ next. Went (behind_line digest m q s last next) v o u in line_on digest n m q s last w o u is (read (behind_line digest m q s last) o u (subst P (sym end) went))

pub none_left_past : (last : ℕ → Plan) (next : Next) (w v : World) (o : WorkEnd) (u : World) → next ≡ Nothing → Leads (line_part 0) next w v → Went (last 1048576) v o u → Went (line_part 0 (past_last 1048576 last)) w o u
none_left_past last next w v o u end read went =
    let P : Next → Type 0 = λ next. Went (past_last 1048576 last next) v o u in read (past_last 1048576 last) o u (subst P (sym end) went)

-- it is too long
pub too_long : (digest : List ℕ) (n m q : ℕ) (s : SessionView) (last : ℕ → Plan) (next : Next) (w v : World) → n ≡ suc m → next ≡ TooLong → Leads (line_part 4200) next w v → Went (lines_part digest n q s last) w (Err (Because (RefusedLine (q + 1) 31 0))) v
too_long digest n m q s last next w v is long read =
    let halt : WorkEnd = Err (Because (RefusedLine (q + 1) 31 0)) in
    let P : Next → Type 0 = λ next. Went (behind_line digest m q s last next) v halt v in
    line_on digest n m q s last w halt v is (read (behind_line digest m q s last) halt v (subst P (sym long) (ended (Err (RefusedLine (q + 1) 31 0)) v)))

-- it is one too many
pub too_many : (last : ℕ → Plan) (next : Next) (w v : World) → (next ≡ Nothing → ⊥) → Leads (line_part 0) next w v → Went (line_part 0 (past_last 1048576 last)) w (Err (Because (Limited (limits.Lines 1048576)))) v
too_many last next w v some read =
    let halt : WorkEnd = Err (Because (Limited (limits.Lines 1048576))) in read (past_last 1048576 last) halt v (by_next next some)
  where
    by_next : (next : Next) → (next ≡ Nothing → ⊥) → Went (past_last 1048576 last next) v (Err (Because (Limited (limits.Lines 1048576)))) v
    by_next Nothing some = absurd (some refl)
    by_next TooLong some = ended (Err (Limited (limits.Lines 1048576))) v
    by_next (Text line) some = ended (Err (Limited (limits.Lines 1048576))) v

-- what it asks is done
pub line_done : (digest : List ℕ) (n m q : ℕ) (old new : SessionView) (last : ℕ → Plan) (next : Next) (line : List ℕ) (w v t : World) (o : WorkEnd) (u : World) → n ≡ suc m → next ≡ Text line → Leads (line_part 4200) next w v
    → Leads (order_part digest (q + 1) old (order_of line)) new v t → Went (lines_part digest m (q + 1) new last) t o u → Went (lines_part digest n q old last) w o u
line_done digest n m q old new last next line w v t o u is text read order went =
    let P : Next → Type 0 = λ next. Went (behind_line digest m q old last next) v o u in
    line_on digest n m q old last w o u is (read (behind_line digest m q old last) o u (subst P (sym text) (order (λ s. lines_part digest m (q + 1) s last) o u went)))

-- it is not
pub line_halts : (digest : List ℕ) (n m q : ℕ) (old : SessionView) (last : ℕ → Plan) (next : Next) (line : List ℕ) (w v t : World) (halt : Halt) → n ≡ suc m → next ≡ Text line → Leads (line_part 4200) next w v
    → ((then : SessionView → Plan) → Went (order_part digest (q + 1) old (order_of line) then) v (Err halt) t) → Went (lines_part digest n q old last) w (Err halt) t
line_halts digest n m q old last next line w v t halt is text read order =
    let P : Next → Type 0 = λ next. Went (behind_line digest m q old last next) v (Err halt) t in
    line_on digest n m q old last w (Err halt) t is (read (behind_line digest m q old last) (Err halt) t (subst P (sym text) (order (λ s. lines_part digest m (q + 1) s last))))

-- the session is this one
pub begun_as : (digest : List ℕ) (n q : ℕ) (s s' : SessionView) (last : ℕ → Plan) (w : World) (o : WorkEnd) (u : World) → s ≡ s' → Went (lines_part digest n q s last) w o u → Went (lines_part digest n q s' last) w o u
begun_as digest n q s s' last w o u same went = let P : SessionView → Type 0 = λ s. Went (lines_part digest n q s last) w o u in subst P same went

-- ---- what is taken ahead

all_there : (b : Option (List ℕ)) → option_map (λ left. [] ++ left) b ≡ b
all_there None = refl
all_there (Some left) = refl

-- nothing is held
pub nothing_held : (held : List ℕ) (v : StreamView) → held ≡ [] → unread held v ≡ v
nothing_held held v is =
    let P : List ℕ → Type 0 = λ held. unread held v ≡ v in
    let same : unread [] v ≡ v = ap (λ b. let x : StreamView = record { bytes = b; faults = v.faults; calm = v.calm } in x) (all_there v.bytes) in
    subst P (sym is) same

lost : (held : List ℕ) (b : Option (List ℕ)) → b ≡ option_map (drop (length held)) (option_map (λ left. held ++ left) b)
lost held None = refl
lost held (Some left) = ap Some (sym (drop-append_seam held left))

-- what is held is lost
pub ahead : (held : List ℕ) (w : World) (shelf : ShelfView) (v out : StreamView) → length held ≤ 4096 → IsAhead (on_three w shelf (unread held v) out) (on_three w shelf v out)
ahead held w shelf v out few = record { shelf = refl; ahead = length held; few = few; input = lost held v.bytes; steady = record { calm = refl; same = refl }; out = refl; report = refl }

-- a script from a reader that holds nothing, and is let go
pub script_run : (within : Plan) (w : World) (shelf shelf' : ShelfView) (held held' : List ℕ) (v v' out out' : StreamView) (o : WorkEnd) → held ≡ [] → length held' ≤ 4096
    → Went within (on_three w shelf (unread held v) out) o (on_three w shelf' (unread held' v') out') → Went (Script within) (on_three w shelf v out) o (on_three w shelf' v' out')
script_run within w shelf shelf' held held' v v' out out' o none few went =
    let P : StreamView → Type 0 = λ v. Went within (on_three w shelf v out) o (on_three w shelf' (unread held' v') out') in
    scripted within (on_three w shelf v out) (on_three w shelf' (unread held' v') out') o (on_three w shelf' v' out') (subst P (nothing_held held v none) went) (ahead held' w shelf' v' out' few)
