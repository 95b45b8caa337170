-- How functions that do the work of a command end.
use Rattle.std.proofs.Common.{◌≡◌, ℕ, List, Some, Result, Ok, Err, IsErrAnd, sym, subst}
use Rattle.std.proofs.lemmas.Result.{err_from_is_err_and}
use Rattle.top_plan.specs.World.{World}
use Rattle.top_plan.specs.Plan.{Plan, Ends, Went}
use Rattle.top_plan.specs.Texts.{Finished, end_of}
use Rattle.top_plan.specs.declared.ends.Outcome.{Outcome}
use Rattle.top_plan.specs.declared.ends.Finish.{Finish}
use Rattle.top_plan.specs.declared.ends.Halt.{Halt}
use Rattle.top_plan.specs.declared.ends.Cause.{Cause}
use Rattle.top_plan.proofs.Passes.{ended, ok_same}

-- an error that ends the work
pub ends_on : (plan : Plan) (s t : World) (halt : Halt) (r : Result Outcome Halt) → Went plan s (Err halt) t → IsErrAnd r (λ e. e ≡ halt) → Went plan s (end_of r) t
ends_on plan s t halt r went is = let p = err_from_is_err_and r is in rw (p.1, p.2) went

-- work that is done, with a line that was made
abbrev done_as : Finish → List ℕ → Finished
done_as finish line = record { finish = finish; line = Some line }

-- the end is reached, with a line that was made
pub ended_as : (finish finish' : Finish) (line made : List ℕ) (s : World) → finish' ≡ finish → (let r : Result (List ℕ) Cause = Ok line in r) ≡ Ok made
    → Went (Ends (Ok (record { finish = finish; line = Some line }))) s (Ok (record { finish = finish'; line = Some made })) s
ended_as finish finish' line made s same is =
    let P : Finish → Type 0 = λ f. Went (Ends (Ok (done_as finish line))) s (Ok (done_as f made)) s in
    let Q : List ℕ → Type 0 = λ l. Went (Ends (Ok (done_as finish line))) s (Ok (done_as finish l)) s in
    subst P (sym same) (subst Q (ok_same line made is) (ended (Ok (done_as finish line)) s))
