-- Blocks: the instructions that run on from a start, and what ends them.
use Rattle.std.specs.Prelude.{◌≡◌, ℕ, zero, suc, ◌+◌, ◌<◌, ◌≤◌, ◌↔◌, Bool, true, false, ◌&&◌}
use Rattle.std.specs.Prelude.{List, [], ◌∷◌, length, sum_by, Option, Some, None}
use Rattle.std.specs.Bool.{then_some}
use Rattle.elf_read.specs.declared.exe.Exe.{Exe}
use Rattle.elf_read.specs.Elf.{is_exec}
use Rattle.ia_inst.specs.declared.inst.Kind.{Kind}
use Rattle.ia_inst.specs.declared.inst.Kind.TheVariants as kinds
use Rattle.ia_inst.specs.Kinds.{kind_of}
use Rattle.ia_inst.specs.Step.{Found, NoCode, NoInst, There}
use Rattle.block_cut.specs.declared.ends.End.{End}
use Rattle.block_cut.specs.declared.ends.End.TheVariants.{Transfer, Island, BeforeIsland, Unreadable, Full}
use Rattle.block_cut.specs.declared.ends.Cut.{Cut}
use Rattle.block_cut.specs.declared.ends.TheConstants.{MAX_INSTRUCTIONS}
use Rattle.block_cut.specs.Places.{Placed, found_at}

-- a block: its instructions in order, and what ends it
pub record BasicBlock : Type 0 where
  pub insts : List Placed
  pub end : End

-- how many bytes instructions have
abbrev pub size_of : List Placed → ℕ
size_of is = sum_by (λ p. p.size) is

-- the address of the last of them, or another where there is none
abbrev pub last_of : ℕ → List Placed → ℕ
last_of at [] = at
last_of at (p ∷ ps) = last_of p.at ps

-- ---- what a block is

-- they stand one behind the other from an address on
abbrev pub StandFrom : Exe → ℕ → List Placed → Type 0
StandFrom exe at [] = Unit {0}
StandFrom exe at (p ∷ ps) = (p.at ≡ at) × (found_at exe at ≡ There p.inst p.size) × StandFrom exe (at + p.size) ps

-- an instruction of this kind
abbrev pub IsOfKind : Kind → Placed → Type 0
IsOfKind k p = kind_of p.inst ≡ k

-- none of them is a transfer or a native instruction
abbrev pub ArePlain : List Placed → Type 0
ArePlain [] = Unit {0}
ArePlain (p ∷ ps) = IsOfKind kinds.Plain p × ArePlain ps

-- the last is of this kind, and all before it are plain
abbrev pub EndWith : Kind → List Placed → Type 0
EndWith k [] = ⊥
EndWith k (p ∷ []) = IsOfKind k p
EndWith k (p ∷ q ∷ qs) = IsOfKind kinds.Plain p × EndWith k (q ∷ qs)

-- the kind of what is found, where an instruction is
abbrev pub kind_found : Found → Option Kind
kind_found NoCode = None
kind_found NoInst = None
kind_found (There i n) = Some (kind_of i)

-- how the instructions of a block end, with this address behind them
abbrev pub EndsSo : Exe → ℕ → List Placed → End → Type 0
EndsSo exe next is Transfer = EndWith kinds.Transfer is × (length is ≤ MAX_INSTRUCTIONS)
EndsSo exe next is Island = EndWith kinds.Island is × (length is ≡ 1)
EndsSo exe next is BeforeIsland = ArePlain is × (0 < length is) × (length is < MAX_INSTRUCTIONS)
    × (kind_found (found_at exe next) ≡ Some kinds.Island)
EndsSo exe next is Unreadable = ArePlain is × (length is < MAX_INSTRUCTIONS) × (kind_found (found_at exe next) ≡ None)
EndsSo exe next is Full = ArePlain is × (length is ≡ MAX_INSTRUCTIONS)

-- what a block of a start is
pub record IsBlock (exe : Exe) (start : ℕ) (b : BasicBlock) : Type 0 where
  pub stand : StandFrom exe start b.insts
  pub ends : EndsSo exe (start + size_of b.insts) b.insts b.end

-- ---- the block of a start

-- an instruction, and the rest of the block behind it
abbrev pub before : Placed → BasicBlock → BasicBlock
before p b = record { insts = p ∷ b.insts; end = b.end }

-- no further instruction
abbrev pub ends_at : End → BasicBlock
ends_at end = record { insts = []; end = end }

-- where an instruction of this kind stands, the first of the block or not
abbrev pub block_by : Bool → Kind → Placed → BasicBlock → BasicBlock
block_by first kinds.Plain p rest = before p rest
block_by first kinds.Transfer p rest = before p (ends_at Transfer)
block_by true kinds.Island p rest = before p (ends_at Island)
block_by false kinds.Island p rest = ends_at BeforeIsland

-- what is found at an address decides how the block goes on there
abbrev pub block_at : Bool → Found → ℕ → (ℕ → BasicBlock) → BasicBlock
block_at first NoCode at rest = ends_at Unreadable
block_at first NoInst at rest = ends_at Unreadable
block_at first (There i n) at rest = block_by first (kind_of i) (record { at = at; inst = i; size = n }) (rest (at + n))

-- from an address on, with room for so many instructions
abbrev pub block_from : Exe → Bool → ℕ → ℕ → BasicBlock
block_from exe first zero at = ends_at Full
block_from exe first (suc n) at = block_at first (found_at exe at) at (block_from exe false n)

-- the block of a start
unfoldable pub block_of : Exe → ℕ → BasicBlock
block_of exe start = block_from exe true MAX_INSTRUCTIONS start

-- each start has its block, and no other
abbrev pub EachHasOneBlock : Type 0
EachHasOneBlock = (exe : Exe) (start : ℕ) (b : BasicBlock) → IsBlock exe start b ↔ (b ≡ block_of exe start)

-- ---- what is told of it

-- how far the block of a start goes
abbrev pub cut_of : ℕ → BasicBlock → Cut
cut_of start b = record { count = length b.insts; len = size_of b.insts; end = b.end; last = last_of start b.insts }

-- a block that ends so is followed by the start behind it
abbrev pub is_followed : End → Bool
is_followed Transfer = false
is_followed Island = true
is_followed BeforeIsland = true
is_followed Unreadable = false
is_followed Full = true

-- the address behind the block of a start
abbrev pub next_of : Exe → ℕ → ℕ
next_of exe start = start + size_of (block_of exe start).insts

-- the following start: the address after a native instruction, the one before which the block ended, or the
-- address after 64 instructions
unfoldable pub follow_of : Exe → ℕ → Option ℕ
follow_of exe start = then_some (is_followed (block_of exe start).end && is_exec (next_of exe start) exe.segments) (next_of exe start)

-- a following start lies above its start, in code
abbrev pub EachFollowsAbove : Type 0
EachFollowsAbove = (exe : Exe) (start next : ℕ) → follow_of exe start ≡ Some next
    → (start < next) × (is_exec next exe.segments ≡ true)
