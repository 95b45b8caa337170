-- The labels of a piece by their offsets.
use Rattle.std.specs.Prelude.{ℕ, ◌+◌, ◌-◌, ◌≤◌, IsTrue, List, [], ◌∷◌, ◌++◌, take, drop, Option, Some, None, slice_get}
use Rattle.br_word.specs.Memory.{bytes_of}
use Rattle.ia_inst.specs.Canonical.{valid_of, canonical}
use Rattle.ia_encode.specs.declared.item.Dest.TheVariants as dests
use Rattle.ia_encode.specs.declared.item.Item.{Item}
use Rattle.ia_encode.specs.declared.item.Item.TheVariants as item
use Rattle.ia_encode.specs.Items.{jump_inst, size_of_jump, distance, IsCondition}

-- an instruction that has an encoding, a jump of a condition, a byte or a label
abbrev pub IsItem : Item → Type 0
IsItem (item.Inst i) = IsTrue (valid_of i)
IsItem (item.Byte b) = Unit {0}
IsItem (item.Jump cond d) = IsCondition cond
IsItem (item.Label l) = Unit {0}

-- what was noted of a label, else another offset
abbrev pub noted_or : ℕ → Option (Option ℕ) → ℕ
noted_or other None = other
noted_or other (Some None) = other
noted_or other (Some (Some offset)) = offset

-- the offset of a label that was noted, and 0 of another
abbrev pub offset_in : List (Option ℕ) → ℕ → ℕ
offset_in labels l = noted_or 0 (slice_get labels l)

-- the bytes of an item, each distance 0
abbrev pub blank_bytes : Item → List ℕ
blank_bytes (item.Jump cond d) = canonical (jump_inst cond 0)
blank_bytes (item.Inst i) = canonical i
blank_bytes (item.Byte b) = b ∷ []
blank_bytes (item.Label l) = []

-- where an item's distance to a label stands, and the label
abbrev pub local_of : ℕ → Item → List (ℕ × ℕ)
local_of at (item.Jump cond (dests.Label l)) = (at + size_of_jump cond - 4, l) ∷ []
local_of at (item.Jump cond (dests.Block y)) = []
local_of at (item.Jump cond (dests.Original y)) = []
local_of at (item.Inst i) = []
local_of at (item.Byte b) = []
local_of at (item.Label l) = []

-- it lies in so many bytes
abbrev pub IsInside : ℕ → ℕ × ℕ → Type 0
IsInside n p = p.0 + 4 ≤ n

-- a word put over four bytes, the lowest byte first
abbrev pub with_word : ℕ → ℕ → List ℕ → List ℕ
with_word at w bytes = take at bytes ++ (bytes_of 4 w ++ drop (at + 4) bytes)

-- distances to labels, each from the end of its four bytes, put where they stand
abbrev pub closed : (ℕ → ℕ) → List (ℕ × ℕ) → List ℕ → List ℕ
closed offset [] bytes = bytes
closed offset (p ∷ ps) bytes = closed offset ps (with_word p.0 (distance (p.0 + 4) (offset p.1)) bytes)

-- at most one
abbrev pub list_of : {A : Type 0} → Option A → List A
list_of None = []
list_of (Some x) = x ∷ []
