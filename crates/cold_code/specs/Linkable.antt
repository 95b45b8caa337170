-- What linking asks of copies and of the dispatcher.
use Rattle.std.specs.Prelude.{ℕ, ◌+◌, ◌*◌, ◌^◌, ◌<◌, ◌≤◌, All, Bool, List, length, map}
use Rattle.br_word.specs.Memory.{HoldBytes}
use Rattle.elf_read.specs.declared.exe.Exe.{Exe}
use Rattle.elf_read.specs.Regions.{region_of}
use Rattle.ia_encode.specs.declared.item.Dest.{Dest}
use Rattle.ia_encode.specs.declared.item.Item.{Item}
use Rattle.ia_encode.specs.Items.{AreValid, AreDistinct, size_of_items}
use Rattle.cold_code.specs.Copies.{Around, copy_of}
use Rattle.cold_code.specs.Dispatcher.{dispatcher_of}

-- each instruction has an encoding, each label stands once, and there are at most so many bytes
pub record AreLinkable (items : List Item) (most : ℕ) : Type 0 where
  pub valid : AreValid items
  pub distinct : AreDistinct items
  pub size : size_of_items items ≤ most

-- a copy, where the segments are of bytes
abbrev pub CopiesAreLinkable : Type 0
CopiesAreLinkable = (exe : Exe) (a : Around) (x : ℕ) → HoldBytes (map region_of exe.segments) → AreLinkable (copy_of exe a x) 2048

-- the dispatcher, where the addresses are of 32 bits
abbrev pub DispatchersAreLinkable : Type 0
DispatchersAreLinkable = (to : ℕ → Dest) (is_start : ℕ → Bool) (l : List ℕ) → All (λ x. x < 2 ^ 32) l
    → AreLinkable (dispatcher_of to is_start l) (200 * length l + 200)
