-- Numbers in words: decimal digits.
use Rattle.std.specs.Prelude.{ℕ, ◌-◌, ◌&&◌, Bool, true, nat_le, if◌then◌else◌, List, [], ◌∷◌, length, map, Option, Some, None}
use Rattle.std.specs.Int.Digits.{number_from_digits}

-- '0' to '9'
abbrev pub is_digit : ℕ → Bool
is_digit b = nat_le 48 b && nat_le b 57

-- each is a digit
abbrev pub are_digits : List ℕ → Bool
are_digits [] = true
are_digits (b ∷ bs) = is_digit b && are_digits bs

-- the number that digits write
abbrev pub number_of_digits : List ℕ → ℕ
number_of_digits bs = number_from_digits 10 (map (λ b. b - 48) bs)

-- the number that a word writes in at most so many digits
abbrev pub number_in : ℕ → List ℕ → Option ℕ
number_in most word =
    if nat_le 1 (length word) && nat_le (length word) most && are_digits word then Some (number_of_digits word) else None
