-- Items of code: their bytes with every distance filled in, and where they stand (SDM volume 2, JMP and Jcc).
use Rattle.std.specs.Prelude.{◌≡◌, ℕ, ◌+◌, ◌-◌, ◌^◌, ◌<◌, ◌≤◌, Bool, false, IsTrue, List, [], ◌∷◌, ◌++◌, length, drop, get_or, Option, Some, None, nat_eq, if◌then◌else◌, map}
use Rattle.br_word.specs.Memory.{Region}
use Rattle.ia_encode.specs.declared.item.Dest.{Dest}
use Rattle.ia_encode.specs.declared.item.Dest.TheVariants as dests
use Rattle.ia_encode.specs.declared.item.Item.{Item}
use Rattle.ia_encode.specs.declared.item.Item.TheVariants as item
use Rattle.ia_inst.specs.declared.inst.Inst.{Inst}
use Rattle.ia_inst.specs.declared.inst.Inst.TheVariants.{Jcc, Jmp}
use Rattle.ia_inst.specs.Canonical.{valid_of, canonical}
use Rattle.ia_inst.specs.Instructions.{decode_of}
use Rattle.ia_inst.specs.Meaning.{wrap}

-- a jump as an instruction, with its distance
abbrev pub jump_inst : Option ℕ → ℕ → Inst
jump_inst None rel = Jmp rel
jump_inst (Some c) rel = Jcc c rel

-- a jump has a distance of four bytes, behind E9, or 0F and 80 with the condition
abbrev pub size_of_jump : Option ℕ → ℕ
size_of_jump None = 5
size_of_jump (Some c) = 6

-- a jump's distance, from its end
abbrev pub distance : ℕ → ℕ → ℕ
distance end to = wrap (to + 2 ^ 32 - end)

-- how many bytes an item has
abbrev pub size_of_item : Item → ℕ
size_of_item (item.Inst i) = length (canonical i)
size_of_item (item.Byte b) = 1
size_of_item (item.Jump cond d) = size_of_jump cond
size_of_item (item.Label l) = 0

-- how many bytes items have
abbrev pub size_of_items : List Item → ℕ
size_of_items [] = 0
size_of_items (i ∷ is) = size_of_item i + size_of_items is

-- the bytes of an item at an address; dest gives the address of each destination
abbrev pub bytes_of_item : (Dest → ℕ) → ℕ → Item → List ℕ
bytes_of_item dest at (item.Inst i) = canonical i
bytes_of_item dest at (item.Byte b) = b ∷ []
bytes_of_item dest at (item.Jump cond d) = canonical (jump_inst cond (distance (at + size_of_jump cond) (dest d)))
bytes_of_item dest at (item.Label l) = []

-- the bytes of items, one behind another from an address on
abbrev pub bytes_of_items : (Dest → ℕ) → ℕ → List Item → List ℕ
bytes_of_items dest at [] = []
bytes_of_items dest at (i ∷ is) = bytes_of_item dest at i ++ bytes_of_items dest (at + size_of_item i) is

-- the item is the label of this name
abbrev pub is_label : ℕ → Item → Bool
is_label l (item.Label m) = nat_eq m l
is_label l (item.Inst i) = false
is_label l (item.Byte b) = false
is_label l (item.Jump cond d) = false

-- the address of a label among items from at on
abbrev pub label_at : ℕ → List Item → ℕ → ℕ
label_at at [] l = 0
label_at at (i ∷ is) l = if is_label l i then at else label_at (at + size_of_item i) is l

-- destinations, with the labels of these items
abbrev pub with_labels : (Dest → ℕ) → ℕ → List Item → Dest → ℕ
with_labels dest at items (dests.Block start) = dest (dests.Block start)
with_labels dest at items (dests.Original place) = dest (dests.Original place)
with_labels dest at items (dests.Label l) = label_at at items l

-- where destinations lie: a block at an address of its own, an address of the original at itself
abbrev pub goes_to : (ℕ → ℕ) → Dest → ℕ
goes_to address (dests.Block start) = address start
goes_to address (dests.Original place) = place
goes_to address (dests.Label l) = 0

-- and the labels of items that stand at an address
abbrev pub dest_at : (ℕ → ℕ) → ℕ → List Item → Dest → ℕ
dest_at address at items = with_labels (goes_to address) at items

-- the label is not among them
abbrev pub Lacks : ℕ → List Item → Type 0
Lacks l [] = Unit {0}
Lacks l (i ∷ is) = (is_label l i ≡ false) × Lacks l is

-- each label once
abbrev pub AreDistinct : List Item → Type 0
AreDistinct [] = Unit {0}
AreDistinct (item.Label l ∷ is) = Lacks l is × AreDistinct is
AreDistinct (item.Inst i ∷ is) = AreDistinct is
AreDistinct (item.Byte b ∷ is) = AreDistinct is
AreDistinct (item.Jump cond d ∷ is) = AreDistinct is

-- none, or a condition of the SDM
abbrev pub IsCondition : Option ℕ → Type 0
IsCondition None = Unit {0}
IsCondition (Some c) = c < 16

-- each instruction has an encoding, and each condition is one
abbrev pub AreValid : List Item → Type 0
AreValid [] = Unit {0}
AreValid (item.Inst i ∷ is) = IsTrue (valid_of i) × AreValid is
AreValid (item.Byte b ∷ is) = AreValid is
AreValid (item.Jump cond d ∷ is) = IsCondition cond × AreValid is
AreValid (item.Label l ∷ is) = AreValid is

-- the instruction is read at an address of the code, in n bytes
pub record Reads (code : Region) (at : ℕ) (i : Inst) (n : ℕ) : Type 0 where
  pub from : code.start ≤ at
  pub starts : at < code.start + length code.bytes
  pub ends : at + n ≤ code.start + length code.bytes
  pub spelled : decode_of (drop (at - code.start) code.bytes) ≡ Some (i, n)

-- the byte stands at an address of the code
pub record HasByte (code : Region) (at b : ℕ) : Type 0 where
  pub from : code.start ≤ at
  pub inside : at < code.start + length code.bytes
  pub is : get_or code.bytes (at - code.start) 0 ≡ b

-- instructions stand one behind another, from an address to the one behind them
abbrev pub StandsAt : Region → ℕ → List Inst → ℕ → Type 0
StandsAt code at [] to = at ≡ to
StandsAt code at (i ∷ is) to = Reads code at i (length (canonical i)) × StandsAt code (at + length (canonical i)) is to

-- items do
abbrev pub Stands : (Dest → ℕ) → Region → ℕ → List Item → ℕ → Type 0
Stands dest code at [] to = at ≡ to
Stands dest code at (item.Inst i ∷ is) to = Reads code at i (length (canonical i)) × Stands dest code (at + length (canonical i)) is to
Stands dest code at (item.Byte b ∷ is) to = HasByte code at b × Stands dest code (at + 1) is to
Stands dest code at (item.Jump cond d ∷ is) to =
    Reads code at (jump_inst cond (distance (at + size_of_jump cond) (dest d))) (size_of_jump cond)
    × Stands dest code (at + size_of_jump cond) is to
Stands dest code at (item.Label l ∷ is) to = (at ≡ dest (dests.Label l)) × Stands dest code at is to

-- ---- laws

-- Items whose bytes lie in the code stand there, where each instruction has an encoding and each label stands once.
abbrev pub ItemsStand : Type 0
ItemsStand = (code : Region) (dest : Dest → ℕ) (at : ℕ) (items : List Item) (front behind : List ℕ) →
    code.bytes ≡ front ++ (bytes_of_items (with_labels dest at items) at items ++ behind) → at ≡ code.start + length front →
    AreValid items → AreDistinct items →
    Stands (with_labels dest at items) code at items (at + size_of_items items)

-- Bytes that stand as items are read as the instruction that they encode.
abbrev pub BytesRead : Type 0
BytesRead = (code : Region) (dest : Dest → ℕ) (bytes : List ℕ) (items : List Item) (at to : ℕ) (i : Inst) →
    ((k : ℕ) → get_or bytes k 0 < 256) → 0 < length bytes → decode_of bytes ≡ Some (i, length bytes) →
    Stands dest code at (map item.Byte bytes ++ items) to →
    Reads code at i (length bytes)
