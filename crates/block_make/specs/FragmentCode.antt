-- The bytes of a fragment before it is linked: distances to its own labels are filled in, those to blocks and to the original are zeros,
-- and a fix tells where each of these stands and where it goes.
use Rattle.std.specs.Prelude.{ℕ, ◌+◌, ◌-◌, true, false, List, [], ◌∷◌, ◌++◌}
use Rattle.elf_read.specs.declared.exe.Exe.{Exe}
use Rattle.ia_inst.specs.Canonical.{canonical}
use Rattle.ia_encode.specs.declared.item.Dest.{Dest}
use Rattle.ia_encode.specs.declared.item.Dest.TheVariants as dests
use Rattle.ia_encode.specs.declared.item.Item.{Item}
use Rattle.ia_encode.specs.declared.item.Item.TheVariants as item
use Rattle.ia_encode.specs.Items.{jump_inst, size_of_jump, size_of_item, bytes_of_item, dest_at}
use Rattle.ssa_form.specs.declared.form.BlockKey.{BlockKey}
use Rattle.block_make.specs.declared.fragment.Fix.{Fix}
use Rattle.block_make.specs.FragmentItems.{items_of}

-- the bytes of an item at an offset
abbrev pub open_bytes : (Dest → ℕ) → ℕ → Item → List ℕ
open_bytes dest at (item.Jump cond (dests.Block y)) = canonical (jump_inst cond 0)
open_bytes dest at (item.Jump cond (dests.Original y)) = canonical (jump_inst cond 0)
open_bytes dest at (item.Jump cond (dests.Label l)) = bytes_of_item dest at (item.Jump cond (dests.Label l))
open_bytes dest at (item.Inst i) = canonical i
open_bytes dest at (item.Byte b) = b ∷ []
open_bytes dest at (item.Label l) = []

-- of items, one behind another
abbrev pub open_items : (Dest → ℕ) → ℕ → List Item → List ℕ
open_items dest at [] = []
open_items dest at (i ∷ is) = open_bytes dest at i ++ open_items dest (at + size_of_item i) is

-- a jump to a block or to the original has a fix: the last four bytes of its instruction
abbrev pub fix_of : ℕ → Item → List Fix
fix_of at (item.Jump cond (dests.Block y)) = record { at = at + size_of_jump cond - 4; target = y; known = true } ∷ []
fix_of at (item.Jump cond (dests.Original y)) = record { at = at + size_of_jump cond - 4; target = y; known = false } ∷ []
fix_of at (item.Jump cond (dests.Label l)) = []
fix_of at (item.Inst i) = []
fix_of at (item.Byte b) = []
fix_of at (item.Label l) = []

abbrev pub fixes_of : ℕ → List Item → List Fix
fixes_of at [] = []
fixes_of at (i ∷ is) = fix_of at i ++ fixes_of (at + size_of_item i) is

-- code that is to be linked
pub record OpenCode : Type 0 where
  pub bytes : List ℕ
  pub fixes : List Fix

-- of items that begin at offset 0
abbrev pub code_of_items : List Item → OpenCode
code_of_items is = record { bytes = open_items (dest_at (λ y. 0) 0 is) 0 is; fixes = fixes_of 0 is }

-- the fragment of a key
unfoldable pub coded : Exe → BlockKey → OpenCode
coded exe key = code_of_items (items_of exe key)
