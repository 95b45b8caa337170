-- Copies of cold blocks: the own bytes of their instructions, and behind them what does the same as their end, from the original's
-- registers and flags (SDM volume 2: PUSH, POP, LEA, MOV, JMP, Jcc).
use Rattle.std.specs.Prelude.{ℕ, ◌+◌, ◌==◌, Bool, List, [], ◌∷◌, ◌++◌, map, take, Some, None, if◌then◌else◌}
use Rattle.br_word.specs.declared.types.Width.TheVariants.{B32}
use Rattle.elf_read.specs.declared.exe.Exe.{Exe}
use Rattle.elf_read.specs.Code.{code_at}
use Rattle.ia_inst.specs.declared.inst.Rm.{Rm}
use Rattle.ia_inst.specs.declared.inst.Rm.TheVariants as rm
use Rattle.ia_inst.specs.declared.inst.Src.TheVariants as src
use Rattle.ia_inst.specs.declared.inst.Inst.{Inst}
use Rattle.ia_inst.specs.declared.inst.Inst.TheVariants.{Mov, Push, Pop, Lea, Jcc, Jmp, JmpRm, Call, CallRm, Ret, Cld, Std}
use Rattle.ia_inst.specs.declared.inst.Kind.{Kind}
use Rattle.ia_inst.specs.declared.inst.Kind.TheVariants as kinds
use Rattle.ia_inst.specs.Kinds.{kind_of}
use Rattle.ia_inst.specs.Meaning.{wrap}
use Rattle.ia_encode.specs.declared.item.Dest.{Dest}
use Rattle.ia_encode.specs.declared.item.Dest.TheVariants as dests
use Rattle.ia_encode.specs.declared.item.Item.{Item}
use Rattle.ia_encode.specs.declared.item.Item.TheVariants as item
use Rattle.par_moves.specs.declared.locations.Place.TheVariants.{Slot}
use Rattle.par_moves.specs.Locations.{rm_of}
use Rattle.par_moves.specs.Homes.{register_homes}
use Rattle.fall_stubs.specs.Exchange.{closing_items, slot_from_reg, reg_from_slot}
use Rattle.block_cut.specs.Places.{Placed}
use Rattle.block_cut.specs.Transfers.{is_among}
use Rattle.cold_cut.specs.declared.ends.ColdEnd.{ColdEnd}
use Rattle.cold_cut.specs.declared.ends.ColdEnd.TheVariants.{Transfers, Unreadable, Full}
use Rattle.cold_cut.specs.ColdBlocks.{ColdBlock, cold_of}

-- what stands around a piece: the starts of blocks, those of copies, and how a jump names the copy of a start, or by 0 the dispatcher
pub record Around : Type 0 where
  pub is_start : ℕ → Bool
  pub is_cold : ℕ → Bool
  pub to : ℕ → Dest

-- with pieces of labels
abbrev pub by_labels : List ℕ → List ℕ → Around
by_labels starts cold = record { is_start = is_among starts; is_cold = is_among cold; to = dests.Label }

-- with the names of blocks
abbrev pub by_blocks : List ℕ → List ℕ → Around
by_blocks starts cold = record { is_start = is_among starts; is_cold = is_among cold; to = dests.Block }

-- ---- how a copy goes on

-- to an address: its block, from a captured state, or its copy, or the original
abbrev pub part : Around → ℕ → List Item
part a y =
    if a.is_start y then closing_items register_homes (dests.Block y)
    else (item.Jump None (if a.is_cold y then a.to y else dests.Original y) ∷ [])

-- to the dispatcher, from a captured state
abbrev pub to_turn : Around → List Item
to_turn a = closing_items register_homes (a.to 0)

abbrev pub push_next : ℕ → Item
push_next next = item.Inst (Push (src.Imm next))

-- the target of an indirect jump or call to slot 15: one in memory by eax, which slot 16 keeps
abbrev pub aim : Rm → List Item
aim (rm.Reg r) = item.Inst (slot_from_reg 15 r) ∷ []
aim (rm.Mem m) =
    item.Inst (slot_from_reg 16 0) ∷ item.Inst (Mov B32 (rm.Reg 0) (src.Rm (rm.Mem m))) ∷ item.Inst (slot_from_reg 15 0)
    ∷ item.Inst (reg_from_slot 0 16) ∷ []

abbrev pub pop_more : ℕ → List Item
pop_more pop = if pop == 0 then [] else (item.Inst (Lea B32 4 (record { base = Some 4; index = None; disp = pop })) ∷ [])

abbrev pub pop_to_slot : Item
pop_to_slot = item.Inst (Pop (rm_of (Slot 15)))

-- of a conditional jump, to where it leads and to the address behind it
abbrev pub either_items : Around → ℕ → ℕ → ℕ → List Item
either_items a cond taken next = item.Jump (Some cond) (dests.Label 1) ∷ (part a next ++ (item.Label 1 ∷ part a taken))

-- by the transfer, with the address behind it
abbrev pub end_by : Around → Inst → ℕ → List Item
end_by a (Jcc c rel) next = either_items a c (wrap (next + rel)) next
end_by a (Jmp rel) next = part a (wrap (next + rel))
end_by a (Call rel) next = push_next next ∷ part a (wrap (next + rel))
end_by a (JmpRm m) next = aim m ++ to_turn a
end_by a (CallRm m) next = aim m ++ (push_next next ∷ to_turn a)
end_by a (Ret pop) next = pop_to_slot ∷ (pop_more pop ++ to_turn a)
end_by a _ next = []

-- ---- a copy

-- behind CLD and STD slot 13, which stands for DF, is set too
abbrev pub df_items : Inst → List Item
df_items Cld = item.Inst (Mov B32 (rm_of (Slot 13)) (src.Imm 0)) ∷ []
df_items Std = item.Inst (Mov B32 (rm_of (Slot 13)) (src.Imm 1)) ∷ []
df_items _ = []

-- the own bytes of an instruction, and that
abbrev pub own_items : Exe → Placed → List Item
own_items exe p = map item.Byte (take p.size (code_at p.at exe.segments)) ++ df_items p.inst

-- of an instruction of this kind: a transfer is not copied
abbrev pub inst_items : Exe → Around → Kind → Placed → List Item
inst_items exe a kinds.Plain p = own_items exe p
inst_items exe a kinds.Island p = own_items exe p
inst_items exe a kinds.Transfer p = end_by a p.inst (wrap (p.at + p.size))

-- behind the instructions, by what ends the block there: unreadable bytes are the original's matter, whatever stands there
abbrev pub behind_items : Around → ColdEnd → ℕ → List Item
behind_items a Transfers at = []
behind_items a Unreadable at = item.Jump None (dests.Original at) ∷ []
behind_items a Full at = part a at

-- of instructions from an address on, and their end
abbrev pub rest_items : Exe → Around → ℕ → List Placed → ColdEnd → List Item
rest_items exe a at [] end = behind_items a end at
rest_items exe a at (p ∷ ps) end = inst_items exe a (kind_of p.inst) p ++ rest_items exe a (p.at + p.size) ps end

-- of a block from an address on
abbrev pub block_items : Exe → Around → ℕ → ColdBlock → List Item
block_items exe a at b = rest_items exe a at b.insts b.end

-- the copy of the cold block of an address, without its label
unfoldable pub copy_of : Exe → Around → ℕ → List Item
copy_of exe a x = block_items exe a x (cold_of exe x)

-- the copy, by its label
abbrev pub copy_items : Exe → List ℕ → List ℕ → ℕ → List Item
copy_items exe starts cold x = item.Label x ∷ copy_of exe (by_labels starts cold) x
