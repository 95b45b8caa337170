-- The turns of `run` and `trace`: what holds of each turn of a guest holds of each of theirs.
use Rattle.std.proofs.Common.{◌≡◌, ◌⊎◌, ◌+◌, nat_le, cond, Bool, true, false, ℕ, zero, suc, List, [], ◌∷◌, length, Result, Ok, Err, refl, sym, subst, inl, inr}
use Rattle.br_word.specs.State.{RunState, Running, Exited, Faulted}
use Rattle.ia_inst.specs.Step.{step}
use Rattle.elf_read.specs.Elf.{elf}
use Rattle.elf_read.specs.declared.exe.Reach.TheVariants.{Original, Guest}
use Rattle.guest_sys.specs.Machine.{fed}
use Rattle.guest_sys.specs.Calls.{spare}
use Rattle.guest_run.specs.Guest.{GuestView, beginning, while_running, asks_next}
use Rattle.top_plan.specs.Plan.{Plan, Turned, Turns}
use Rattle.top_plan.specs.Expected.{NoInput, AllTurns}
use Rattle.top_plan.specs.Partial.{Uses, IsOrderly}
use Rattle.top_run.specs.RunPlan.{guest_plan, next_guest, next_turn, stands, run_plan}
use Rattle.trace_file.specs.Edges.{Edge}
use Rattle.top_files.specs.OriginalPart.{of_word, with_digest}
use Rattle.tracer.specs.declared.answers.Traced.{Traced}
use Rattle.tracer.specs.TracedRun.{traced, with_step, entry_edge}
use Rattle.trace_file.specs.declared.limits.TheConstants.{FILE_EDGE_LIMIT}
use Rattle.guest_run.specs.InputUse.{StepsUseInput}
use Rattle.top_run.specs.TracePlan.{tour_plan, unless_full, traced_part, trace_plan}
use Rattle.top_run.proofs.GuestRuns.{has_stopped}
use Rattle.top_run.proofs.InputUsed.{guest_uses}
use Rattle.top_files.proofs.PartTurns.{checked_turns}

-- so is each turn of a guest that runs, with any work behind it that reads nothing once the guest has stopped
abbrev pub OfGuests : (Turned → List ℕ → Plan → Type 0) → Type 0
OfGuests P = (g : GuestView) (left : List ℕ) (rest : Plan) → g.state.stop ≡ Running → (((next_guest g left).state.stop ≡ Running → ⊥) → NoInput rest) → P (next_turn g left) left rest

-- ---- a guest

-- a guest that has stopped reads no more
stopped_quiet : (n : ℕ) (h : GuestView) → (h.state.stop ≡ Running → ⊥) → NoInput (guest_plan n h)
unfolding NoInput
stopped_quiet n h not = let P : Plan → Type 0 = λ p. NoInput p in subst P (sym (has_stopped n h not)) tt

pub while_turns : (P : Turned → List ℕ → Plan → Type 0) (x : RunState) (turns stays : Plan) → (x ≡ Running → AllTurns P turns) → AllTurns P stays → AllTurns P (while_running x turns stays)
while_turns P Running turns stays p q = p refl
while_turns P (Exited n) turns stays p q = q
while_turns P (Faulted f) turns stays p q = q

guest_turns : (P : Turned → List ℕ → Plan → Type 0) (n : ℕ) (g : GuestView) → OfGuests P → AllTurns P (guest_plan n g)
unfolding AllTurns guest_plan
guest_turns P zero g each = tt
guest_turns P (suc n) g each = while_turns P g.state.stop (Turns (next_turn g) (λ left. guest_plan n (next_guest g left))) (stands g)
    (λ running left. (guest_turns P n (next_guest g left) each, each g left (guest_plan n (next_guest g left)) running (λ not. stopped_quiet n (next_guest g left) not))) tt

-- ---- a guest that is traced

-- the edges fit, or are too many
unless_too_many : (P : Plan → Type 0) (fits : Bool) (p q : Plan) → P p → P q → P (cond fits p q)
unless_too_many P true p q a b = a
unless_too_many P false p q a b = b

stays_quiet : (x : RunState) (turns stays : Plan) → (x ≡ Running → ⊥) → NoInput stays → NoInput (while_running x turns stays)
stays_quiet Running turns stays not quiet = absurd (not refl)
stays_quiet (Exited n) turns stays not quiet = quiet
stays_quiet (Faulted f) turns stays not quiet = quiet

tour_quiet : (last : Traced → Plan) (n : ℕ) (g : GuestView) (es : List Edge) → ((t : Traced) → NoInput (last t)) → (g.state.stop ≡ Running → ⊥) → NoInput (tour_plan last n g es)
unfolding tour_plan
tour_quiet last zero g es quiet not = quiet (traced g es)
tour_quiet last (suc n) g es quiet not = stays_quiet g.state.stop _ (last (traced g es)) not (quiet (traced g es))

-- its last turn is followed by work that reads nothing
tour_turns : (P : Turned → List ℕ → Plan → Type 0) (last : Traced → Plan) (n : ℕ) (g : GuestView) (es : List Edge) → OfGuests P → ((t : Traced) → NoInput (last t)) → ((t : Traced) → AllTurns P (last t)) → AllTurns P (tour_plan last n g es)
unfolding AllTurns NoInput tour_plan
tour_turns P last zero g es each quiet ends = ends (traced g es)
tour_turns P last (suc n) g es each quiet ends =
    let now : List ℕ → List Edge = λ left. with_step (next_guest g left).edge es in
    while_turns P g.state.stop (Turns (next_turn g) (λ left. unless_full (tour_plan last n (next_guest g left)) (now left))) (last (traced g es))
    (λ running left. (
      unless_too_many (λ p. AllTurns P p) (nat_le (length (now left)) FILE_EDGE_LIMIT) _ _ (tour_turns P last n (next_guest g left) (now left) each quiet ends) tt,
      each g left _ running (λ not. unless_too_many (λ p. NoInput p) (nat_le (length (now left)) FILE_EDGE_LIMIT) _ _ (tour_quiet last n (next_guest g left) (now left) quiet not) tt),
    ))
    (ends (traced g es))

-- ---- the commands

-- what may be taken beyond is 0, or the guest has stopped
spares : (rest : Plan) (k : ℕ) (x : RunState) → ((x ≡ Running → ⊥) → NoInput rest) → (spare x k ≡ 0) ⊎ NoInput rest
spares rest k Running quiet = inl refl
spares rest k (Exited status) quiet = inl refl
spares rest k (Faulted f) quiet = inr (quiet (λ running. cc))

-- A turn of a guest uses all that it asks for and that is there, and takes no more but in the last turn that reads.
abbrev IsGood : Turned → List ℕ → Plan → Type 0
IsGood turned left rest = Uses turned left × ((turned.spare ≡ 0) ⊎ NoInput rest)

are_good : StepsUseInput → OfGuests IsGood
are_good law g left rest running quiet = (guest_uses law g left running, spares rest (asks_next (step (fed left g.state) 0)) (step (fed left g.state) 0).stop quiet)

pub run_orderly : StepsUseInput → (steps : ℕ) (name : List ℕ) (args : List (List ℕ)) (word : ℕ) → IsOrderly (run_plan steps name args word)
unfolding AllTurns
run_orderly law steps name args word = λ bytes. checked_turns IsGood (of_word word (elf Guest bytes)) _ (λ exe. guest_turns IsGood steps (beginning exe args) (are_good law))

pub trace_orderly : StepsUseInput → (steps : ℕ) (target original : List ℕ) (args : List (List ℕ)) (word : ℕ) → IsOrderly (trace_plan steps target original args word)
unfolding AllTurns NoInput
trace_orderly law steps target original args word =
    λ bytes. checked_turns IsGood (with_digest bytes (of_word word (elf Original bytes))) _
    (λ subject. tour_turns IsGood (traced_part target subject.digest) steps (beginning subject.exe args) (entry_edge subject.exe ∷ []) (are_good law) (λ t. tt) (λ t. tt))
