-- What the reader's parts answer.
use Rattle.std.specs.Prelude.{◌≡◌, ℕ, Bool, true, false, List, Option, Some, None, Result, Ok, Err}
use Rattle.std.specs.Borrow.{Bor}
use Rattle.script_text.specs.Lines.{Ordered, Nothings, Adds, Removes, Emits, is_text_name, number_of, order_of}
use Rattle.script_text.specs.declared.line.Order.{Order}
use Rattle.script_text.specs.declared.line.Order.TheVariants as orders
use Rattle.script_text.specs.declared.line.BadLine.{BadLine}

-- the order that was read, with the bytes of its name
abbrev pub ordered : Order → Ordered
ordered orders.Nothing = Nothings
ordered (orders.Add name) = Adds name.now
ordered (orders.Remove number) = Removes number
ordered (orders.Emit name) = Emits name.now

-- what was read is what the line asks; a line that is refused asks nothing
abbrev pub Reads : Result Order BadLine → List ℕ → Type 0
Reads (Ok order) line = order_of line ≡ Some (ordered order)
Reads (Err bad) line = order_of line ≡ None

-- these bytes are a name, or are none
abbrev pub ReadsName : Result (Bor (List ℕ)) BadLine → List ℕ → Type 0
ReadsName (Ok name) bytes = (name.now ≡ bytes) × (is_text_name bytes ≡ true)
ReadsName (Err bad) bytes = is_text_name bytes ≡ false

-- these bytes are a number, or are none
abbrev pub ReadsRemove : Result ℕ BadLine → List ℕ → Type 0
ReadsRemove (Ok number) digits = number_of digits ≡ Some number
ReadsRemove (Err bad) digits = number_of digits ≡ None
