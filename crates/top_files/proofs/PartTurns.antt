-- What a plan asks of the input that reads files first, by what the plans behind them ask.
use Rattle.std.proofs.Common.{◌≡◌, ◌∙◌, ap, ◌+◌, ℕ, List, [], ◌∷◌, length, Result, Ok, Err}
use Rattle.elf_read.specs.Elf.{elf}
use Rattle.elf_read.specs.declared.exe.Reach.TheVariants.{Original}
use Rattle.trace_file.specs.Edges.{Edge}
use Rattle.trace_file.specs.Trace.{trace}
use Rattle.top_plan.specs.World.{World}
use Rattle.top_plan.specs.Plan.{Plan, Turned}
use Rattle.top_plan.specs.Happened.{Happened}
use Rattle.top_plan.specs.Parts.{checked}
use Rattle.top_plan.specs.Expected.{NoInput, AllTurns}
use Rattle.top_plan.specs.declared.ends.Cause.{Cause}
use Rattle.top_plan.proofs.Unread.{input_stays}
use Rattle.top_files.specs.OriginalPart.{of_word, with_digest, subject_part}
use Rattle.top_files.specs.TracesPart.{edges_of_word, counted, traces_part}
use Rattle.top_files.specs.declared.original.Subject.{Subject}

-- a check, and the work behind it
pub checked_turns : {X : Type 0} (P : Turned → List ℕ → Plan → Type 0) (r : Result X Cause) (next : X → Plan) → ((x : X) → AllTurns P (next x)) → AllTurns P (checked r next)
unfolding AllTurns
checked_turns P (Ok x) next h = h x
checked_turns P (Err cause) next h = tt

pub checked_quiet : {X : Type 0} (r : Result X Cause) (next : X → Plan) → ((x : X) → NoInput (next x)) → NoInput (checked r next)
unfolding NoInput
checked_quiet (Ok x) next h = h x
checked_quiet (Err cause) next h = tt

traces_quiet : (digest : List ℕ) (names : List (List ℕ)) (word before : ℕ) (next : List (List Edge) → Plan) → ((traces : List (List Edge)) → NoInput (next traces)) → NoInput (traces_part digest names word before next)
unfolding NoInput traces_part
traces_quiet digest [] word before next h = h []
traces_quiet digest (name ∷ names) word before next h =
    λ bytes. checked_quiet (counted before (edges_of_word word (trace bytes digest))) _ (λ es. traces_quiet digest names (word + 1) (before + length es) (λ rest. next (es ∷ rest)) (λ rest. h (es ∷ rest)))

-- an original and its traces are read
pub reading_quiet : (original : List ℕ) (names : List (List ℕ)) (word : ℕ) (next : Subject → List (List Edge) → Plan) → ((subject : Subject) (traces : List (List Edge)) → NoInput (next subject traces))
    → NoInput (subject_part original word (λ subject. traces_part subject.digest names (word + 1) 0 (next subject)))
unfolding NoInput
reading_quiet original names word next h =
    λ bytes. checked_quiet (with_digest bytes (of_word word (elf Original bytes))) _ (λ subject. traces_quiet subject.digest names (word + 1) 0 (next subject) (h subject))

-- neither the work nor the report line takes any
pub untaken : (p : Plan) (s : World) (result : ℕ) (t : World) → NoInput p → Happened p s result t → t.input ≡ s.input
untaken p s result t quiet (o, m, went, (v, told, same)) = ap (λ w. w.input) same ∙ input_stays p s o m quiet went
