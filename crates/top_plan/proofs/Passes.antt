-- Runs that pass through the nodes of a plan, whatever the plan.
use Rattle.std.proofs.Common.{◌≡◌, ℕ, List, drop, Option, Some, None, Result, Ok, Err, IsErrAnd, refl, sym, subst, inl, inr, arith}
use Rattle.std.specs.Option.{option_map}
use Rattle.br_outside.specs.Outside.{ShelfView, StreamView, Fetched, Stored, Gave}
use Rattle.br_outside.specs.declared.errors.ShelfError.{ShelfError}
use Rattle.br_outside.specs.declared.errors.StoreError.{StoreError}
use Rattle.br_outside.specs.declared.errors.SinkError.{SinkError}
use Rattle.top_plan.specs.World.{World, on_shelf, on_out}
use Rattle.top_plan.specs.Plan.{Plan, Ends, Fetches, Stores, Prints, Turns, Script, IsAhead, Went, AfterFetch, AfterStore, AfterGive, planned_end}
use Rattle.top_plan.specs.Texts.{Finished, WorkEnd}
use Rattle.top_plan.specs.declared.ends.Halt.{Halt}
use Rattle.top_plan.specs.declared.ends.Halt.TheVariants.{Because, Outside, Memory}
use Rattle.top_plan.specs.declared.ends.Cause.{Cause}
use Rattle.top_plan.specs.declared.ends.Object.TheVariants as objects
use Rattle.top_plan.specs.Parts.{checked, Checks, ChecksErr, Goes}
use Rattle.std.proofs.lemmas.Result.{err_from_is_err_and}

-- a call was made, and what follows goes on from there
pub fetched : (name : List ℕ) (limit : ℕ) (next : List ℕ → Plan) (s : World) (v : ShelfView) (answer : Result (List ℕ) ShelfError) (o : WorkEnd) (t : World) → Fetched name limit answer s.shelf v → AfterFetch limit (λ bytes. Went (next bytes)) answer (on_shelf s v) o t → Went (Fetches name limit next) s o t
unfolding Went
fetched name limit next s v answer o t was after = inr (v, answer, was, after)

pub stored : (name bytes : List ℕ) (next : Plan) (s : World) (v : ShelfView) (answer : Result (Unit {0}) StoreError) (o : WorkEnd) (t : World) → Stored name bytes answer s.shelf v → AfterStore (Went next) answer (on_shelf s v) o t → Went (Stores name bytes next) s o t
unfolding Went
stored name bytes next s v answer o t was after = inr (v, answer, was, after)

pub printed : (text : List ℕ) (next : Plan) (s : World) (v : StreamView) (answer : Result (Unit {0}) SinkError) (o : WorkEnd) (t : World) → Gave text answer s.out v → AfterGive objects.Output (Went next) answer (on_out s v) o t → Went (Prints text next) s o t
unfolding Went
printed text next s v answer o t was after = inr (v, answer, was, after)

-- nothing was taken ahead
pub not_ahead : (s : World) → IsAhead s s
not_ahead s = record { shelf = refl; ahead = 0; few = omega arith; input = all_left s.input.bytes; steady = record { calm = refl; same = refl }; out = refl; report = refl }
  where
    all_left : (b : Option (List ℕ)) → b ≡ option_map (drop 0) b
    all_left None = refl
    all_left (Some bytes) = refl

-- a script was run, and the input was taken ahead
pub scripted : (within : Plan) (s m : World) (o : WorkEnd) (t : World) → Went within s o m → IsAhead m t → Went (Script within) s o t
unfolding Went
scripted within s m o t went ahead = (m, went, ahead)

-- memory may be wanting before any call
pub runs_out : (plan : Plan) (s : World) → Went plan s (Err Memory) s
unfolding Went
runs_out (Ends end) s = inl (refl, refl)
runs_out (Fetches name limit next) s = inl (refl, refl)
runs_out (Stores name bytes next) s = inl (refl, refl)
runs_out (Prints text next) s = inl (refl, refl)
runs_out (Turns turn next) s = inl (refl, refl)
runs_out (Script within) s = (s, runs_out within s, not_ahead s)

-- the end is reached
pub ended : (end : Result Finished Cause) (s : World) → Went (Ends end) s (planned_end end) s
unfolding Went
ended end s = inr (refl, refl)

-- a check passes, or ends the plan
pub passes : {X : Type 0} (r : Result X Cause) (x : X) (next : X → Plan) (s : World) (o : WorkEnd) (t : World) → r ≡ Ok x → Went (next x) s o t → Went (checked r next) s o t
passes {X} r x next s o t is went = let P : Result X Cause → Type 0 = λ r. Went (checked r next) s o t in subst P (sym is) went

pub refuses : {X : Type 0} (r : Result X Cause) (cause : Cause) (next : X → Plan) (s : World) → r ≡ Err cause → Went (checked r next) s (Err (Because cause)) s
refuses {X} r cause next s is = let P : Result X Cause → Type 0 = λ r. Went (checked r next) s (Err (Because cause)) s in subst P (sym is) (ended (Err cause) s)

pub refuses_or_runs_out : {X : Type 0} (r : Result X Cause) (halt : Halt) (next : X → Plan) (s : World) → ChecksErr halt r → Went (checked r next) s (Err halt) s
refuses_or_runs_out r (Because cause) next s is = refuses r cause next s is
refuses_or_runs_out r (Outside object) next s is = absurd is
refuses_or_runs_out r Memory next s is = runs_out (checked r next) s

-- A part that is fetched and then checked.
pub goes_checked : {X Y A : Type 0} (view : X → Y) (part : (A → Plan) → Plan) (check : A → Result Y Cause) (a : A) (s t : World) (result : Result X Halt)
    → ((next : A → Plan) (o : WorkEnd) (u : World) → Went (next a) t o u → Went (part next) s o u)
    → Checks view result (check a)
    → Goes view (λ next. part (λ a. checked (check a) next)) s result t
goes_checked view part check a s t (Ok x) first is = λ next o u went. first (λ a. checked (check a) next) o u (passes (check a) (view x) next t o u is went)
goes_checked view part check a s t (Err halt) first is = λ next. first (λ a. checked (check a) next) (Err halt) t (refuses_or_runs_out (check a) halt next t is)

-- an error that is passed on
pub passes_on : {X Y : Type 0} (view : X → Y) (part : (Y → Plan) → Plan) (s t : World) (halt : Halt) (r : Result X Halt)
    → ((next : Y → Plan) → Went (part next) s (Err halt) t) → IsErrAnd r (λ e. e ≡ halt) → Goes view part s r t
passes_on view part s t halt r went is = let p = err_from_is_err_and r is in rw (p.1, p.2) went

-- memory is wanting where nothing is refused
pub memory_ends : {Y : Type 0} (plan : Plan) (s : World) (halt : Halt) (y : Y) → ChecksErr halt (Ok y) → Went plan s (Err halt) s
memory_ends plan s (Because cause) y h = cc
memory_ends plan s (Outside object) y h = absurd h
memory_ends plan s Memory y h = runs_out plan s

-- what is inside two equal answers
pub ok_same : {Y : Type 0} (a b : Y) → (let x : Result Y Cause = Ok a in x) ≡ Ok b → a ≡ b
ok_same a b h = cc
