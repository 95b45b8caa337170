-- What a reader of lines does to its source.
use Rattle.std.specs.Prelude.{◌≡◌, ◌⊎◌, ◌<◌, ◌≤◌, ◌+◌, ◌-◌, ℕ, Bool, true, false, List, [], ◌++◌, length, take, drop, Some, IfSome, Result, Ok, Err}
use Rattle.std.specs.Option.{option_map}
use Rattle.br_outside.specs.Outside.{StreamView}
use Rattle.br_outside.specs.Streams.{Steady, Fails, Tells, HasLeft, Leaves}
use Rattle.line_reader.specs.Lines.{line_length, Next, Nothing, TooLong, Text, next_in, used_in}
use Rattle.line_reader.specs.declared.line.Line.{Line}
use Rattle.line_reader.specs.declared.line.Line.TheVariants as lines
use Rattle.line_reader.specs.declared.line.LineError.{LineError}
use Rattle.line_reader.specs.declared.line.LineError.TheVariants as errors
use Rattle.line_reader.specs.declared.reader.Found.{Found}
use Rattle.line_reader.specs.declared.reader.Found.TheVariants as founds

-- what was read
abbrev pub next_of : Line → Next
next_of lines.End = Nothing
next_of lines.Long = TooLong
next_of (lines.Whole bytes) = Text bytes.items

-- the source as it is seen with bytes before it that were taken and are not used
abbrev pub unread : List ℕ → StreamView → StreamView
unread held v = record v { bytes = option_map (λ left. held ++ left) v.bytes }

-- no line was read: the source failed, or memory was wanting
abbrev pub Halts : LineError → StreamView → StreamView → Type 0
Halts errors.Failed old new = Fails old new
Halts errors.Memory old new = Steady old new

-- What asking for a line comes to, with this left: the line, and what stands behind it is left; or an error, and less than
-- the line's bytes may be lost.
abbrev pub LineGives : ℕ → List ℕ → Result Next LineError → StreamView → StreamView → Type 0
LineGives limit left (Ok next) old new = (next ≡ next_in limit left) × Leaves (drop (used_in limit left) left) old new
LineGives limit left (Err error) old new =
    (lost : ℕ) × (lost < used_in limit left) × HasLeft (drop lost left) old new × Halts error old new

-- a line is asked for, with what there is left, where the source tells
pub record AsksLine (limit : ℕ) (result : Result Next LineError) (old new : StreamView) : Type 0 where
  pub left : List ℕ
  pub told : Tells left old
  pub gives : LineGives limit left result old new

-- what is held has a line, or is too long for one
abbrev pub HoldsLine : ℕ → List ℕ → Type 0
HoldsLine limit held = (line_length held < length held) ⊎ (limit < length held)

-- ---- the parts of a reader

-- A line that has begun goes on in what is held: its end, too much for a line, or all that is held.
abbrev pub Gathers : ℕ → Result Found LineError → List ℕ → List ℕ → List ℕ → List ℕ → Type 0
Gathers limit (Ok founds.Long) before line held rest =
    (limit < length before + line_length held) × (rest ≡ drop (limit + 1 - length before) held)
Gathers limit (Ok founds.Whole) before line held rest =
    (line_length held < length held) × (length before + line_length held ≤ limit)
    × (line ≡ before ++ take (line_length held) held) × (rest ≡ drop (line_length held + 1) held)
Gathers limit (Ok founds.Part) before line held rest =
    (line_length held ≡ length held) × (length before + length held ≤ limit) × (line ≡ before ++ held) × (rest ≡ [])
Gathers limit (Err errors.Failed) before line held rest = ⊥
Gathers limit (Err errors.Memory) before line held rest = rest ≡ held

-- the source has given what is held, where it tells
abbrev pub HasGiven : List ℕ → StreamView → StreamView → Type 0
HasGiven held old new = IfSome old.bytes (λ left. (rest : List ℕ) × (new.bytes ≡ Some rest) × (left ≡ held ++ rest))

-- a piece is taken, where nothing is held; or there is none
abbrev pub Refills : Result Bool LineError → List ℕ → StreamView → StreamView → Type 0
Refills (Ok true) held old new = (0 < length held) × HasGiven held old new × Steady old new
Refills (Ok false) held old new = (held ≡ []) × HasLeft [] old new × IfSome old.bytes (λ left. left ≡ []) × Steady old new
Refills (Err errors.Failed) held old new = (held ≡ []) × HasGiven [] old new × Fails old new
Refills (Err errors.Memory) held old new = ⊥
