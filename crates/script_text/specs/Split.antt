-- The lines of a script.
use Rattle.std.specs.Prelude.{ℕ, ◌==◌, Bool, List, [], ◌∷◌, cond}

-- whether the byte is LF
abbrev pub is_end : ℕ → Bool
is_end byte = byte == 10

-- one byte more before the first of these lines
abbrev pub put_first : ℕ → List (List ℕ) → List (List ℕ)
put_first byte [] = (byte ∷ []) ∷ []
put_first byte (line ∷ lines) = (byte ∷ line) ∷ lines

-- each line ends with LF, or with the end of the script
abbrev pub lines_of : List ℕ → List (List ℕ)
lines_of [] = []
lines_of (byte ∷ bytes) = cond (is_end byte) ([] ∷ lines_of bytes) (put_first byte (lines_of bytes))
