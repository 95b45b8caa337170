-- The items of a fragment: the code of the block's lines, and then by its exit the ways to known blocks and the side exits to the
-- original.
use Rattle.std.specs.Prelude.{ℕ, suc, ◌+◌, Bool, true, List, [], ◌∷◌, ◌++◌, map, take, Option, Some, None}
use Rattle.br_word.specs.declared.types.Width.TheVariants.{B32}
use Rattle.elf_read.specs.declared.exe.Exe.{Exe}
use Rattle.elf_read.specs.Code.{code_at}
use Rattle.ia_inst.specs.declared.inst.Inst.{Inst}
use Rattle.ia_inst.specs.declared.inst.Inst.TheVariants.{Alu, JmpRm}
use Rattle.ia_inst.specs.declared.inst.Src.TheVariants as src
use Rattle.ia_encode.specs.declared.item.Dest.{Dest}
use Rattle.ia_encode.specs.declared.item.Dest.TheVariants as dests
use Rattle.ia_encode.specs.declared.item.Item.{Item}
use Rattle.ia_encode.specs.declared.item.Item.TheVariants as item
use Rattle.ssa_form.specs.declared.form.Val.{Val}
use Rattle.ssa_form.specs.declared.form.Exit.{Exit}
use Rattle.ssa_form.specs.declared.form.Exit.TheVariants.{Jump, Cond, Way, Island}
use Rattle.ssa_form.specs.declared.form.BlockKey.{BlockKey}
use Rattle.ssa_form.specs.Same.{rows}
use Rattle.par_moves.specs.declared.locations.Place.{Place}
use Rattle.par_moves.specs.declared.locations.Place.TheVariants.{Reg, Slot}
use Rattle.par_moves.specs.declared.locations.MoveSource.{MoveSource}
use Rattle.par_moves.specs.declared.locations.MoveSource.TheVariants.{Place as Held}
use Rattle.par_moves.specs.Locations.{rm_of}
use Rattle.par_moves.specs.Homes.{home_of, register_homes}
use Rattle.reg_place.specs.Places.{is_in}
use Rattle.emit_ops.specs.Templates.{eax, load_reg, keep, test_all, held_by}
use Rattle.emit_ops.specs.Sequences.{kept, lines_code, moves_code, live_moves, in_order}
use Rattle.fall_stubs.specs.Exchange.{opening_items, island_items}
use Rattle.block_make.specs.declared.fragment.TheConstants.{JUMP_SLOT}
use Rattle.block_make.specs.Choices.{Choice, choice_of, place_in}
use Rattle.block_make.specs.Keys.{live_at, has}

-- ---- parts

-- the lines of a set
abbrev pub lines_items : Choice → List Bool → List Item
lines_items c set = map item.Inst (lines_code home_of (place_in c) (kept (is_in set) (rows c.block)))

-- the homes of live registers take their outs
abbrev pub moves_items : Choice → (ℕ → Bool) → List Item
moves_items c live = map item.Inst (moves_code (in_order (live_moves home_of (place_in c) live 0 c.block.outs)))

-- where a value of the block is held
abbrev pub source_in : Choice → Val → MoveSource
source_in c v = held_by home_of (place_in c) v

-- to a known block
abbrev pub tail_items : Choice → ℕ → ℕ → List Item
tail_items c set y = moves_items c (has set) ++ (item.Jump None (dests.Block y) ∷ [])

-- the state of the original in its registers: the lines that only this way needs, the moves of all registers, and the exchange of
-- state, which has a label of its own
abbrev pub regain_items : Choice → ℕ → List Item
regain_items c label = lines_items c c.split.sunk ++ (moves_items c (λ v. true) ++ opening_items register_homes label)

-- a side exit to an address of the original
abbrev pub stub_items : Choice → ℕ → ℕ → List Item
stub_items c label y = regain_items c label ++ (item.Jump None (dests.Original y) ∷ [])

-- to an address: to its block where it is a known exit, else to the original
abbrev pub part_items : Choice → ℕ → ℕ → Option ℕ → List Item
part_items c label y (Some set) = tail_items c set y
part_items c label y None = stub_items c label y

-- ---- exits

-- a condition: its test, and a jump to the part of taken, at label 2, where it is not 0 (SDM volume 2, JNZ)
abbrev pub cond_items : Choice → Val → List Item → List Item → List Item
cond_items c test next taken =
    item.Inst (load_reg 0 (source_in c test)) ∷ item.Inst test_all ∷ item.Jump (Some 5) (dests.Label 2)
    ∷ (next ++ (item.Label 2 ∷ taken))

-- the target of an indirect exit to eax
abbrev pub aim_items : Choice → Val → List Item
aim_items c v = item.Inst (load_reg 0 (source_in c v)) ∷ []

-- it is compared with each known exit, and where it is that one leads to the label of that one's tail (SDM volume 2, CMP, JZ)
abbrev pub compare_items : ℕ → List (ℕ × ℕ) → List Item
compare_items label [] = []
compare_items label (e ∷ es) =
    item.Inst (Alu 7 B32 eax (src.Imm e.0)) ∷ item.Jump (Some 4) (dests.Label label) ∷ compare_items (suc label) es

-- the way to each known exit, at its label
abbrev pub tails_items : Choice → ℕ → List (ℕ × ℕ) → List Item
tails_items c label [] = []
tails_items c label (e ∷ es) = item.Label label ∷ (tail_items c e.1 e.0 ++ tails_items c (suc label) es)

-- the side exit of an indirect exit: the target goes by a slot of its own (SDM volume 2, JMP r/m32)
abbrev pub way_stub_items : Choice → Val → List Item
way_stub_items c v =
    item.Inst (load_reg 0 (source_in c v)) ∷ item.Inst (keep (Slot JUMP_SLOT))
    ∷ (regain_items c 0 ++ (item.Inst (JmpRm (rm_of (Slot JUMP_SLOT))) ∷ []))

-- the address behind a native instruction: its block where that is a known exit
abbrev pub dest_of : ℕ → Option ℕ → Dest
dest_of y None = dests.Original y
dest_of y (Some set) = dests.Block y

-- the bytes of the instruction at an address
abbrev pub own_bytes : Exe → ℕ → ℕ → List ℕ
own_bytes exe at len = take len (code_at at exe.segments)

-- by the exit of the block; labels are numbered by where they stand: 0 and 1 are of the exchange of state, 2 is the part of taken,
-- and from 1 on those of the tails of an indirect exit
abbrev pub exit_items : Exe → BlockKey → Choice → Exit → List Item
exit_items exe key c (Jump to) = part_items c 0 to (live_at key.exits to)
exit_items exe key c (Cond test taken next) =
    cond_items c test (part_items c 0 next (live_at key.exits next)) (part_items c 1 taken (live_at key.exits taken))
exit_items exe key c (Way v) = aim_items c v ++ (compare_items 1 key.exits ++ (way_stub_items c v ++ tails_items c 1 key.exits))
exit_items exe key c (Island len) =
    island_items register_homes (own_bytes exe key.start len) 0 (dest_of (key.start + len) (live_at key.exits (key.start + len)))

-- ---- fragments

unfoldable pub items_of : Exe → BlockKey → List Item
items_of exe key =
    let c = choice_of exe key in lines_items c c.split.body ++ exit_items exe key c c.block.exit
