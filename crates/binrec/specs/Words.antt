-- The command of the words of the command line, and what fits it.
use Rattle.std.specs.Prelude.{◌≡◌, ◌≤◌, ◌+◌, ◌^◌, ℕ, min, nat_le, List, [], ◌∷◌, length, codes, Option, Some, None, Result, Ok, Err, cond}
use Rattle.word_reader.specs.declared.limits.TheConstants.{TRACE_LIMIT, DEMO_LIMIT}
use Rattle.std.specs.Str.{bytes_eq}
use Rattle.run_model.specs.Opening.{FitArguments}
use Rattle.word_reader.specs.Words.{Asked, Builds, Traces, Runs, Merges, Shows, Demos}
use Rattle.word_reader.specs.Reads.{asked_of}
use Rattle.word_reader.specs.declared.command.Command.{Command}

-- what was read is what the words ask
abbrev pub Reads : Result Command ℕ → Result Asked ℕ → Type 0
Reads (Ok read) asked = asked ≡ Ok (asked_of read)
Reads (Err at) asked = asked ≡ Err at

-- what a guest is given fits into it, and its steps are counted
pub record Fits (steps : ℕ) (args : List (List ℕ)) : Type 0 where
  pub fit : FitArguments args
  pub few : steps ≤ 10 ^ 18

-- what a command is given is no more than it can do
abbrev pub IsFitting : Asked → Type 0
IsFitting (Builds name original traces) = length traces ≤ TRACE_LIMIT
IsFitting (Traces steps target original args) = Fits steps args
IsFitting (Runs steps name args) = Fits steps args
IsFitting (Merges target original names) = length names ≤ TRACE_LIMIT
IsFitting (Shows original names) = length names ≤ TRACE_LIMIT
IsFitting (Demos count) = (1 ≤ count) × (count ≤ DEMO_LIMIT)
IsFitting _ = Unit {0}

-- the position of the first wrong word, where one at this position is wrong whatever stands before it
abbrev pub first_wrong : Result Asked ℕ → ℕ → ℕ
first_wrong (Ok asked) position = position
first_wrong (Err at) position = min at position
