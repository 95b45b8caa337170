-- What a line of a script asks.
use Rattle.std.specs.Prelude.{ℕ, ◌&&◌, nat_eq, Bool, if◌then◌else◌, List, length, take, drop, codes, Option, Some, None}
use Rattle.std.specs.Str.{bytes_eq, is_utf8}
use Rattle.word_reader.specs.Numbers.{number_in}
use Rattle.word_reader.specs.Words.{is_name}
use Rattle.script_text.specs.declared.line.TheConstants.{NUMBER_DIGIT_LIMIT}

-- an order with the bytes of its name
pub data Ordered : Type 0 where
  Nothings : Ordered
  Adds : List ℕ → Ordered
  Removes : ℕ → Ordered
  Emits : List ℕ → Ordered

-- a name is UTF-8 and has at least one byte, and not too many
abbrev pub is_text_name : List ℕ → Bool
is_text_name bytes = is_name bytes && is_utf8 bytes

-- an order on a name
abbrev pub on_name : (List ℕ → Ordered) → List ℕ → Option Ordered
on_name order bytes = if is_text_name bytes then Some (order bytes) else None

-- the number of a trace, in few digits
abbrev pub number_of : List ℕ → Option ℕ
number_of digits = number_in NUMBER_DIGIT_LIMIT digits

-- an order on a trace
abbrev pub on_number : Option ℕ → Option Ordered
on_number (Some number) = Some (Removes number)
on_number None = None

-- the line begins with the word, and with what stands behind it this is asked, or else the other
abbrev pub behind : List ℕ → List ℕ → (List ℕ → Option Ordered) → Option Ordered → Option Ordered
behind word line asked other = if bytes_eq (take (length word) line) word then asked (drop (length word) line) else other

-- what the line asks, if it has one of the forms
abbrev pub order_of : List ℕ → Option Ordered
order_of line =
    if nat_eq (length line) 0 then Some Nothings else
    behind (codes "add ") line (on_name Adds)
    (behind (codes "emit ") line (on_name Emits)
    (behind (codes "remove ") line (λ digits. on_number (number_of digits)) None))
