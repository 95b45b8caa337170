-- The command that words are, or the position of the first word that is wrong, or the number of words where one is missing.
use Rattle.std.specs.Prelude.{◌≡◌, ℕ, ◌+◌, ◌&&◌, ◌||◌, not, nat_le, nat_lt, cond, Bool, List, [], ◌∷◌, length, get_or, sum, map, codes, Option, Some, None, Result, Ok, Err}
use Rattle.std.specs.Str.{bytes_eq}
use Rattle.word_reader.specs.declared.limits.TheConstants.{NAME_LIMIT, TRACE_LIMIT, ARGUMENT_LIMIT, ARGUMENT_BYTES_LIMIT, GUEST_BYTES, DIGIT_LIMIT, DEFAULT_STEPS, DEMO_LIMIT, FIRST_NAME, FIRST_NAME_BEHIND_STEPS}
use Rattle.word_reader.specs.Numbers.{number_in}

-- a command with its words
pub data Asked : Type 0 where
  Builds : (n e : List ℕ) → List (List ℕ) → Asked
  Traces : (steps : ℕ) (t e : List ℕ) → List (List ℕ) → Asked
  Runs : (steps : ℕ) (e : List ℕ) → List (List ℕ) → Asked
  Merges : (t e : List ℕ) → List (List ℕ) → Asked
  Shows : (e : List ℕ) → List (List ℕ) → Asked
  Sessions : (e : List ℕ) → Asked
  Demos : ℕ → Asked
  Assembles : (n text : List ℕ) → Asked

-- a name has at least one byte, and not too many
abbrev pub is_name : List ℕ → Bool
is_name word = nat_le 1 (length word) && nat_le (length word) NAME_LIMIT

-- the next word is a name
abbrev pub next_name : ℕ → List (List ℕ) → (List ℕ → List (List ℕ) → Result Asked ℕ) → Result Asked ℕ
next_name at [] next = Err at
next_name at (word ∷ words) next = cond (is_name word) (next word words) (Err at)

-- no further word
abbrev pub no_more : ℕ → List (List ℕ) → Asked → Result Asked ℕ
no_more at [] asked = Ok asked
no_more at (word ∷ words) asked = Err at

-- the first of these words, of which k stand before it, that is no name or is past the limit
abbrev pub first_no_trace : ℕ → List (List ℕ) → Option ℕ
first_no_trace k [] = None
first_no_trace k (word ∷ words) = cond (nat_le TRACE_LIMIT k || not (is_name word)) (Some k) (first_no_trace (k + 1) words)

-- the bytes of words as texts of the guest, each with a zero byte
abbrev pub text_bytes : List (List ℕ) → ℕ
text_bytes words = sum (map (λ word. length word + 1) words)

-- the bytes of the guest's arguments before its words: `guest` and a zero byte
abbrev pub own_bytes : ℕ
own_bytes = GUEST_BYTES

-- the first of these words, of which k stand before it, that is past the limit of words, or whose text ends
-- past the limit of bytes
abbrev pub first_no_argument : ℕ → ℕ → List (List ℕ) → Option ℕ
first_no_argument k bytes [] = None
first_no_argument k bytes (word ∷ words) =
    cond (nat_le ARGUMENT_LIMIT k || nat_lt ARGUMENT_BYTES_LIMIT (bytes + (length word + 1)))
    (Some k)
    (first_no_argument (k + 1) (bytes + (length word + 1)) words)

-- the command, unless a word of those from a position on is wrong
abbrev pub unless_wrong : ℕ → Option ℕ → Asked → Result Asked ℕ
unless_wrong at None asked = Ok asked
unless_wrong at (Some k) asked = Err (at + k)

-- all further words are traces
abbrev pub traces_at : ℕ → List (List ℕ) → Asked → Result Asked ℕ
traces_at at words asked = unless_wrong at (first_no_trace 0 words) asked

-- all further words are the guest's
abbrev pub arguments_at : ℕ → List (List ℕ) → Asked → Result Asked ℕ
arguments_at at words asked = unless_wrong at (first_no_argument 0 own_bytes words) asked

-- what comes next with a number, unless there is none
abbrev pub or_wrong : ℕ → Option ℕ → (ℕ → Result Asked ℕ) → Result Asked ℕ
or_wrong at None next = Err at
or_wrong at (Some n) next = next n

-- a number of steps follows
abbrev pub is_steps : List ℕ → Bool
is_steps word = bytes_eq word (codes "--steps")

-- the number behind --steps
abbrev pub steps_behind : List (List ℕ) → (ℕ → ℕ → List (List ℕ) → Result Asked ℕ) → Result Asked ℕ
steps_behind [] next = Err 2
steps_behind (word ∷ words) next = or_wrong 2 (number_in DIGIT_LIMIT word) (λ steps. next steps FIRST_NAME_BEHIND_STEPS words)

-- the number of steps, where it is given, and where the next word stands
abbrev pub next_steps : List (List ℕ) → (ℕ → ℕ → List (List ℕ) → Result Asked ℕ) → Result Asked ℕ
next_steps [] next = next DEFAULT_STEPS FIRST_NAME []
next_steps (word ∷ words) next = cond (is_steps word) (steps_behind words next) (next DEFAULT_STEPS FIRST_NAME (word ∷ words))

-- where the first name of `trace` and `run` stands among all words
abbrev pub first_name : List (List ℕ) → ℕ
first_name (word ∷ second ∷ words) = cond (is_steps second) FIRST_NAME_BEHIND_STEPS FIRST_NAME
first_name _ = FIRST_NAME

-- the words behind `build`: the new executable, the original, traces
abbrev pub build_words : List (List ℕ) → Result Asked ℕ
build_words words = next_name 1 words (λ n words. next_name 2 words (λ e words. traces_at 3 words (Builds n e words)))

-- `trace`: perhaps a number of steps, the trace, the original, the guest's words
abbrev pub trace_words : List (List ℕ) → Result Asked ℕ
trace_words words =
    next_steps words (λ steps at words. next_name at words (λ t words.
    next_name (at + 1) words (λ e words. arguments_at (at + 2) words (Traces steps t e words))))

-- `run`: perhaps a number of steps, the executable, the guest's words
abbrev pub run_words : List (List ℕ) → Result Asked ℕ
run_words words =
    next_steps words (λ steps at words. next_name at words (λ e words. arguments_at (at + 1) words (Runs steps e words)))

-- `merge`: the union, the original, traces
abbrev pub merge_words : List (List ℕ) → Result Asked ℕ
merge_words words = next_name 1 words (λ t words. next_name 2 words (λ e words. traces_at 3 words (Merges t e words)))

-- `show`: the original, traces
abbrev pub show_words : List (List ℕ) → Result Asked ℕ
show_words words = next_name 1 words (λ e words. traces_at 2 words (Shows e words))

-- `session`: the original alone
abbrev pub session_words : List (List ℕ) → Result Asked ℕ
session_words words = next_name 1 words (λ e words. no_more 2 words (Sessions e))

-- the number of `demo`, and no further word
abbrev pub demo_count : ℕ → List (List ℕ) → Result Asked ℕ
demo_count count words = cond (nat_le 1 count && nat_le count DEMO_LIMIT) (no_more 2 words (Demos count)) (Err 1)

-- `demo`: a number alone
abbrev pub demo_words : List (List ℕ) → Result Asked ℕ
demo_words [] = Err 1
demo_words (word ∷ words) = or_wrong 1 (number_in DIGIT_LIMIT word) (λ count. demo_count count words)

-- `asm`: the new executable and the source alone
abbrev pub asm_words : List (List ℕ) → Result Asked ℕ
asm_words words = next_name 1 words (λ n words. next_name 2 words (λ text words. no_more 3 words (Assembles n text)))

-- by the command's own word
abbrev pub command_of : List ℕ → List (List ℕ) → Result Asked ℕ
command_of word words =
    cond (bytes_eq word (codes "build")) (build_words words) (
    cond (bytes_eq word (codes "trace")) (trace_words words) (
    cond (bytes_eq word (codes "run")) (run_words words) (
    cond (bytes_eq word (codes "merge")) (merge_words words) (
    cond (bytes_eq word (codes "show")) (show_words words) (
    cond (bytes_eq word (codes "session")) (session_words words) (
    cond (bytes_eq word (codes "demo")) (demo_words words) (
    cond (bytes_eq word (codes "asm")) (asm_words words) (Err 0))))))))

-- the command of the words, or the position of the first wrong word, or how many words there are where one is missing
unfoldable pub command : List (List ℕ) → Result Asked ℕ
command [] = Err 0
command (word ∷ words) = command_of word words

-- ---- where names stand

-- `run` names the executable where first_name says; `trace` names the trace there, and the original behind it
abbrev pub Named : List (List ℕ) → Asked → Type 0
Named words (Runs steps e args) = get_or words (first_name words) [] ≡ e
Named words (Traces steps t e args) = (get_or words (first_name words) [] ≡ t) × (get_or words (first_name words + 1) [] ≡ e)
Named words _ = Unit {0}

-- the words of each command that is read
abbrev pub NamesStand : Type 0
NamesStand = (words : List (List ℕ)) (asked : Asked) → command words ≡ Ok asked → Named words asked
