-- What the calls on a session answer, as checks of a plan.
use Rattle.std.proofs.Common.{◌≡◌, ◌+◌, ◌<◌, ◌≤◌, nat_le, nat_lt, ℕ, Bool, true, false, cond, List, length, Option, Some, None, Result, Ok, Err, refl, sym, ◌∙◌, ap, subst, arith}
use Rattle.std.proofs.lemmas.Bool.{cond-true, cond-false}
use Rattle.std.proofs.lemmas.Bool.Decides.{nat_tests}
use Rattle.trace_file.specs.Edges.{Edge, pairs}
use Rattle.trace_set.specs.declared.error.SetError.{SetError}
use Rattle.trace_set.specs.declared.error.SetError.TheVariants as refusals
use Rattle.trace_set.specs.Traces.{Traces, sets_of, is_live, with_trace, without_number, refusal, Adds}
use Rattle.top_plan.specs.declared.ends.Cause.{Cause}
use Rattle.top_plan.specs.declared.ends.Cause.TheVariants.{RefusedLine, Limited}
use Rattle.top_plan.specs.declared.ends.Limit.TheVariants as limits
use Rattle.top_session.specs.SessionPlan.{added, removed}

-- ---- traces that are added

-- the check of an addition, by why a set refuses it
abbrev IsAnswered : Traces → List Edge → Option SetError → Result Traces Cause → Type 0
IsAnswered ts es None r = r ≡ Ok (with_trace ts es)
IsAnswered ts es (Some refusals.Traces) r = r ≡ Err (Limited (limits.Traces 4096))
IsAnswered ts es (Some refusals.Edges) r = r ≡ Err (Limited (limits.Edges 16777216))
IsAnswered ts es (Some refusals.Spent) r = Unit {0}
IsAnswered ts es (Some refusals.Memory) r = ⊥

added_is : (ts : Traces) (es : List Edge) → IsAnswered ts es (refusal ts es) (added ts es)
added_is ts es = by_count (nat_le 4096 (length ts.traces))
  where
    many : Bool
    many = nat_lt 16777216 (pairs (sets_of ts.traces) + length es)

    spent : Option SetError
    spent = cond (nat_lt 1048576 ts.next) (Some refusals.Spent) None

    rest : Result Traces Cause
    rest = cond many (Err (Limited (limits.Edges 16777216))) (Ok (with_trace ts es))

    by_spent : (b : Bool) → IsAnswered ts es (cond b (Some refusals.Spent) None) (Ok (with_trace ts es))
    by_spent true = tt
    by_spent false = refl

    by_pairs : (b : Bool) → IsAnswered ts es (cond b (Some refusals.Edges) spent) (cond b (Err (Limited (limits.Edges 16777216))) (Ok (with_trace ts es)))
    by_pairs true = refl
    by_pairs false = by_spent (nat_lt 1048576 ts.next)

    by_count : (b : Bool) → IsAnswered ts es (cond b (Some refusals.Traces) (cond many (Some refusals.Edges) spent)) (cond b (Err (Limited (limits.Traces 4096))) rest)
    by_count true = refl
    by_count false = by_pairs many

pub adds : (ts new : Traces) (es : List Edge) → refusal ts es ≡ None → new ≡ with_trace ts es → added ts es ≡ Ok new
adds ts new es is same =
    let P : Option SetError → Type 0 = λ o. IsAnswered ts es o (added ts es) in let e : added ts es ≡ Ok (with_trace ts es) = subst P is (added_is ts es) in e ∙ ap Ok (sym same)

pub too_many : (ts new : Traces) (es : List Edge) (e : SetError) → e ≡ refusals.Traces → Adds ts es (Err e) new → added ts es ≡ Err (Limited (limits.Traces 4096))
too_many ts new es e same answer =
    let P : Option SetError → Type 0 = λ o. IsAnswered ts es o (added ts es) in
    let Q : SetError → Type 0 = λ e. Adds ts es (Err e) new in
    let so : Adds ts es (Err refusals.Traces) new = subst Q same answer in
    subst P so.0 (added_is ts es)

pub too_long : (ts new : Traces) (es : List Edge) (e : SetError) → e ≡ refusals.Edges → Adds ts es (Err e) new → added ts es ≡ Err (Limited (limits.Edges 16777216))
too_long ts new es e same answer =
    let P : Option SetError → Type 0 = λ o. IsAnswered ts es o (added ts es) in
    let Q : SetError → Type 0 = λ e. Adds ts es (Err e) new in
    let so : Adds ts es (Err refusals.Edges) new = subst Q same answer in
    subst P so.0 (added_is ts es)

-- what a refusal for want of a number says of the next number
abbrev IsPast : ℕ → Option SetError → Type 0
IsPast next None = Unit {0}
IsPast next (Some refusals.Traces) = Unit {0}
IsPast next (Some refusals.Edges) = Unit {0}
IsPast next (Some refusals.Spent) = nat_lt 1048576 next ≡ true
IsPast next (Some refusals.Memory) = Unit {0}

past_is : (ts : Traces) (es : List Edge) → IsPast ts.next (refusal ts es)
past_is ts es = by_count (nat_le 4096 (length ts.traces))
  where
    by_next : (b : Bool) → nat_lt 1048576 ts.next ≡ b → IsPast ts.next (cond b (Some refusals.Spent) None)
    by_next true is = is
    by_next false is = tt

    by_pairs : (b : Bool) → IsPast ts.next (cond b (Some refusals.Edges) (cond (nat_lt 1048576 ts.next) (Some refusals.Spent) None))
    by_pairs true = tt
    by_pairs false = by_next (nat_lt 1048576 ts.next) refl

    by_count : (b : Bool) → IsPast ts.next (cond b (Some refusals.Traces) (cond (nat_lt 16777216 (pairs (sets_of ts.traces) + length es)) (Some refusals.Edges) (cond (nat_lt 1048576 ts.next) (Some refusals.Spent) None)))
    by_count true = tt
    by_count false = by_pairs (nat_lt 16777216 (pairs (sets_of ts.traces) + length es))

less : (a b : ℕ) → nat_lt a b ≡ true → a < b
less a b h = grind (arith, nat_tests)

-- while at most as many numbers were given as a script has lines, one is left
pub not_spent : (ts new : Traces) (es : List Edge) (e : SetError) → ts.next ≤ 1048576 → e ≡ refusals.Spent → Adds ts es (Err e) new → ⊥
not_spent ts new es e few same answer =
    let Q : SetError → Type 0 = λ e. Adds ts es (Err e) new in
    let so : Adds ts es (Err refusals.Spent) new = subst Q same answer in
    let past : nat_lt 1048576 ts.next ≡ true = subst (IsPast ts.next) so.0 (past_is ts es) in
    let more = less 1048576 ts.next past in
    omega arith

-- ---- a trace that is taken away

pub removes : (q number : ℕ) (ts new : Traces) → is_live number ts.traces ≡ true → new ≡ record { traces = without_number number ts.traces; next = ts.next } → removed q number ts ≡ Ok new
removes q number ts new is same = cond-true (is_live number ts.traces) _ _ is ∙ ap Ok (sym same)

pub not_live : (q number : ℕ) (ts : Traces) → is_live number ts.traces ≡ false → removed q number ts ≡ Err (RefusedLine q 32 0)
not_live q number ts is = cond-false (is_live number ts.traces) _ _ is
