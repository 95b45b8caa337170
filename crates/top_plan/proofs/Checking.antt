-- Checks that are made of other checks.
use Rattle.std.proofs.Common.{◌≡◌, Result, Err, IsErrAnd, ◌∙◌, ap}
use Rattle.std.proofs.lemmas.Result.{err_from_is_err_and}
use Rattle.top_plan.specs.Parts.{Checks, ChecksErr}
use Rattle.top_plan.specs.declared.ends.Halt.{Halt}
use Rattle.top_plan.specs.declared.ends.Halt.TheVariants.{Because, Outside, Memory}
use Rattle.top_plan.specs.declared.ends.Cause.{Cause}

-- an error of the first check is one of the second
pub blames_on : {X Y : Type 0} (further : Result X Cause → Result Y Cause) (halt : Halt) (check : Result X Cause) → ((cause : Cause) → further (Err cause) ≡ Err cause) → ChecksErr halt check → ChecksErr halt (further check)
blames_on further (Because cause) check keeps is = ap further is ∙ keeps cause
blames_on further (Outside object) check keeps is = is
blames_on further Memory check keeps is = tt

-- an error that is passed on
pub checks_on : {X Y : Type 0} (view : X → Y) (halt : Halt) (r : Result X Halt) (check : Result Y Cause) → ChecksErr halt check → IsErrAnd r (λ e. e ≡ halt) → Checks view r check
checks_on view halt r check is error = let p = err_from_is_err_and r error in rw (p.1, p.2) is
