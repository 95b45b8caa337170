-- What a function owes that does a part of a plan.
use Rattle.std.specs.Prelude.{◌≡◌, ℕ, List, [], ◌∷◌, Result, Ok, Err}
use Rattle.top_plan.specs.World.{World}
use Rattle.top_plan.specs.Texts.{WorkEnd}
use Rattle.top_plan.specs.Plan.{Plan, Ends, Prints, Went}
use Rattle.top_plan.specs.declared.ends.Halt.{Halt}
use Rattle.top_plan.specs.declared.ends.Halt.TheVariants.{Because, Outside, Memory}
use Rattle.top_plan.specs.declared.ends.Cause.{Cause}

-- the work goes on with a value, or ends with the cause
abbrev pub checked : {X : Type 0} → Result X Cause → (X → Plan) → Plan
checked (Ok x) next = next x
checked (Err cause) next = Ends (Err cause)

-- A function does a part of a plan: where it answers Ok the run goes on with the value, else it ends with the halt.
abbrev pub Goes : {X Y : Type 0} → (X → Y) → ((Y → Plan) → Plan) → World → Result X Halt → World → Type 0
Goes view part s (Ok x) t = (next : _ → Plan) (o : WorkEnd) (u : World) → Went (next (view x)) t o u → Went (part next) s o u
Goes view part s (Err halt) t = (next : _ → Plan) → Went (part next) s (Err halt) t

-- A function answers as the check does, unless memory is wanting.
abbrev pub ChecksErr : {Y : Type 0} → Halt → Result Y Cause → Type 0
ChecksErr (Because cause) check = check ≡ Err cause
ChecksErr (Outside object) check = ⊥
ChecksErr Memory check = Unit {0}

-- The same of an answer that may be Ok.
abbrev pub Checks : {X Y : Type 0} → (X → Y) → Result X Halt → Result Y Cause → Type 0
Checks view (Ok x) check = check ≡ Ok (view x)
Checks view (Err halt) check = ChecksErr halt check

-- a text is printed, unless there is nothing to print
abbrev pub prints : List ℕ → Plan → Plan
prints [] next = next
prints (b ∷ bs) next = Prints (b ∷ bs) next
