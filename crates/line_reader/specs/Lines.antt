-- The lines of a script, as they stand in its bytes.
use Rattle.std.specs.Prelude.{ℕ, ◌+◌, ◌==◌, min, nat_le, Bool, List, [], ◌∷◌, take, cond}
use Rattle.std.specs.List.{position_or_len}
use Rattle.script_text.specs.Split.{is_end}

-- how many bytes stand before the first LF, or in all where there is none
abbrev pub line_length : List ℕ → ℕ
line_length bytes = position_or_len is_end bytes

-- what stands next
pub data Next : Type 0 where
  Nothing : Next
  TooLong : Next
  Text : List ℕ → Next

-- of these bytes, with a line of so many at most
abbrev pub next_in : ℕ → List ℕ → Next
next_in limit [] = Nothing
next_in limit (byte ∷ bytes) =
    cond (nat_le (line_length (byte ∷ bytes)) limit) (Text (take (line_length (byte ∷ bytes)) (byte ∷ bytes))) TooLong

-- how many of the bytes it uses: a line with its LF, or one byte more than a line may have
abbrev pub used_in : ℕ → List ℕ → ℕ
used_in limit left = min (line_length left) limit + 1
