-- How long fragments are, and of how many instructions their parts.
use Rattle.std.specs.Prelude.{◌≡◌, ℕ, ◌+◌, ◌*◌, ◌≤◌, Bool, true, false, List, length}
use Rattle.elf_read.specs.declared.exe.Exe.{Exe}
use Rattle.block_cut.specs.Blocks.{block_of}
use Rattle.ssa_form.specs.declared.form.TheConstants.{REGISTERS}
use Rattle.ssa_form.specs.declared.form.BlockKey.{BlockKey}
use Rattle.reg_place.specs.Places.{is_in}
use Rattle.block_make.specs.Choices.{Choice, ready}
use Rattle.block_make.specs.FragmentItems.{lines_items, moves_items}
use Rattle.block_make.specs.FragmentCode.{coded}

-- the most bytes of the fragment of a block of so many instructions, with so many known exits: 15 are the most of an instruction
abbrev pub most_bytes : ℕ → ℕ → ℕ
most_bytes instructions exits = 15 * (192 * instructions + 200 + 60 * exits)

-- no fragment has more
abbrev pub CodesShort : Type 0
CodesShort = (exe : Exe) (key : BlockKey)
    → length (coded exe key).bytes ≤ most_bytes (length (block_of exe key.start).insts) (length key.exits)

-- A block that becomes code has at most 32 lines for each of its instructions, and an out for each virtual register. The lines of two
-- sets, none in both, have at most six instructions each, and the moves on a way at most four for each out.
pub record PartsShort : Type 0 where
  pub few : (exe : Exe) (start : ℕ) → length (ready exe start).lines ≤ 32 * length (block_of exe start).insts
  pub outs : (exe : Exe) (start : ℕ) → length (ready exe start).outs ≡ REGISTERS
  pub lines : (c : Choice) (s t : List Bool) → ((j : ℕ) → is_in s j ≡ true → is_in t j ≡ false)
      → length (lines_items c s) + length (lines_items c t) ≤ 6 * length c.block.lines
  pub moves : (c : Choice) (live : ℕ → Bool) → length (moves_items c live) ≤ 4 * length c.block.outs
