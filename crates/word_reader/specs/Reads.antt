-- What the reader's parts answer.
use Rattle.std.specs.Prelude.{◌≡◌, ◌≤◌, ◌+◌, ℕ, List, ◌∷◌, true, Option, Some, None, Result, Ok, Err, String, map, string_bytes}
use Rattle.std.specs.Borrow.{Bor}
use Rattle.word_reader.specs.Words.{Asked, Builds, Traces, Runs, Merges, Shows, Sessions, Demos, Assembles, is_name, next_name, steps_behind, next_steps}
use Rattle.word_reader.specs.declared.command.Command.{Command}
use Rattle.word_reader.specs.declared.command.Command.TheVariants as commands
use Rattle.word_reader.specs.declared.command.Usage.{Usage}

-- the command that was read, with the bytes of its words
abbrev pub asked_of : Command → Asked
asked_of (commands.Build n e traces) = Builds n.now e.now (map string_bytes traces.now)
asked_of (commands.Trace steps t e args) = Traces steps t.now e.now (map string_bytes args.now)
asked_of (commands.Run steps e args) = Runs steps e.now (map string_bytes args.now)
asked_of (commands.Merge t e traces) = Merges t.now e.now (map string_bytes traces.now)
asked_of (commands.Show e traces) = Shows e.now (map string_bytes traces.now)
asked_of (commands.Session e) = Sessions e.now
asked_of (commands.Demo count) = Demos count
asked_of (commands.Asm n text) = Assembles n.now text.now

-- what was read is what the words ask
abbrev pub Reads : Result Command Usage → Result Asked ℕ → Type 0
Reads (Ok read) asked = asked ≡ Ok (asked_of read)
Reads (Err usage) asked = asked ≡ Err usage.at

-- the next word is a name, and what stands behind it; or the command is refused at its position
abbrev pub ReadsName : {A : Type 0} → ℕ → Result (Bor (List ℕ) × Bor (List (String A))) Usage → List (List ℕ) → Type 0
ReadsName at (Ok read) words = words ≡ (read.0).now ∷ map string_bytes (read.1).now × (is_name (read.0).now ≡ true)
ReadsName at (Err usage) words = (next : List ℕ → List (List ℕ) → Result Asked ℕ) → next_name at words next ≡ Err usage.at

-- the first wrong word, of those from a position on
abbrev pub Finds : ℕ → Option ℕ → Result (Unit {0}) Usage → Type 0
Finds at wrong (Ok _) = wrong ≡ None
Finds at wrong (Err usage) = (k : ℕ) × (wrong ≡ Some k) × (usage.at ≡ at + k)

-- a number of steps, the position of the next word, and the words from there
abbrev pub ReadsSteps : {A : Type 0} → Result (ℕ × ℕ × Bor (List (String A))) Usage → List (List ℕ) → Type 0
ReadsSteps (Ok read) words =
    ((next : ℕ → ℕ → List (List ℕ) → Result Asked ℕ)
    → next_steps words next ≡ next read.0 read.1 (map string_bytes (read.2).now))
    × (read.1 ≤ 3)
ReadsSteps (Err usage) words = (next : ℕ → ℕ → List (List ℕ) → Result Asked ℕ) → next_steps words next ≡ Err usage.at

-- the same of the words behind --steps
abbrev pub ReadsBehind : {A : Type 0} → Result (ℕ × ℕ × Bor (List (String A))) Usage → List (List ℕ) → Type 0
ReadsBehind (Ok read) words =
    ((next : ℕ → ℕ → List (List ℕ) → Result Asked ℕ)
    → steps_behind words next ≡ next read.0 read.1 (map string_bytes (read.2).now))
    × (read.1 ≤ 3)
ReadsBehind (Err usage) words = (next : ℕ → ℕ → List (List ℕ) → Result Asked ℕ) → steps_behind words next ≡ Err usage.at
