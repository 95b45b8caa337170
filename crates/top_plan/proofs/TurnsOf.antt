-- The turns of a plan.
use Rattle.std.proofs.Common.{ℕ, List}
use Rattle.top_plan.specs.Plan.{Plan, Ends, Fetches, Stores, Prints, Turned, Turns, Script}
use Rattle.top_plan.specs.Expected.{NoInput, AllTurns, IsSparing}
use Rattle.top_plan.specs.Partial.{IsTaking, IsOrderly}

-- what each turn is, it is less strictly
pub turns_so : (P Q : Turned → List ℕ → Plan → Type 0) → ((d : Turned) (left : List ℕ) (rest : Plan) → P d left rest → Q d left rest) → (p : Plan) → AllTurns P p → AllTurns Q p
unfolding AllTurns
turns_so P Q so (Ends end) h = tt
turns_so P Q so (Fetches name limit next) h = λ bytes. turns_so P Q so (next bytes) (h bytes)
turns_so P Q so (Stores name bytes next) h = turns_so P Q so next h
turns_so P Q so (Prints text next) h = turns_so P Q so next h
turns_so P Q so (Turns turn next) h = λ left. (turns_so P Q so (next left) (h left).0, so (turn left) left (next left) (h left).1)
turns_so P Q so (Script within) h = turns_so P Q so within h

-- a plan that asks nothing of the input has no turns
pub no_turns : (P : Turned → List ℕ → Plan → Type 0) (p : Plan) → NoInput p → AllTurns P p
unfolding AllTurns NoInput
no_turns P (Ends end) quiet = tt
no_turns P (Fetches name limit next) quiet = λ bytes. no_turns P (next bytes) (quiet bytes)
no_turns P (Stores name bytes next) quiet = no_turns P next quiet
no_turns P (Prints text next) quiet = no_turns P next quiet
no_turns P (Turns turn next) quiet = absurd quiet
no_turns P (Script within) quiet = absurd quiet

pub sparing_of : (p : Plan) → IsOrderly p → IsSparing p
sparing_of p h = turns_so _ _ (λ d left rest both. both.1) p h

pub taking_of : (p : Plan) → IsOrderly p → IsTaking p
taking_of p h = turns_so _ _ (λ d left rest both. both.0) p h
