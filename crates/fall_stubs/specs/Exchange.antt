-- The exchange of state: its sequences of instructions (SDM volume 2: MOV, SETcc, CLD, STD, TEST, SHL, OR, ADD, SAHF).
use Rattle.std.specs.Prelude.{◌≡◌, ℕ, List, [], ◌∷◌, ◌++◌, map, take, Some, None}
use Rattle.br_word.specs.declared.types.ShiftOp.TheVariants.{Shl}
use Rattle.br_word.specs.declared.types.Width.TheVariants.{B8, B32}
use Rattle.ia_inst.specs.declared.inst.Rm.TheVariants as rm
use Rattle.ia_inst.specs.declared.inst.Src.TheVariants as src
use Rattle.ia_inst.specs.declared.inst.Count.TheVariants as count
use Rattle.ia_inst.specs.declared.inst.Inst.{Inst}
use Rattle.ia_inst.specs.declared.inst.Inst.TheVariants.{Alu, Test, Mov, Shift, Setcc, Cld, Std, Sahf}
use Rattle.ia_encode.specs.declared.item.Dest.{Dest}
use Rattle.ia_encode.specs.declared.item.Dest.TheVariants as dests
use Rattle.ia_encode.specs.declared.item.Item.{Item}
use Rattle.ia_encode.specs.declared.item.Item.TheVariants as item
use Rattle.par_moves.specs.declared.homes.RegisterHome.{RegisterHome}
use Rattle.par_moves.specs.declared.locations.Place.TheVariants.{Slot}
use Rattle.par_moves.specs.Locations.{rm_of}

-- ---- the instructions

abbrev pub slot_from_reg : ℕ → ℕ → Inst
slot_from_reg k r = Mov B32 (rm_of (Slot k)) (src.Rm (rm.Reg r))

abbrev pub reg_from_slot : ℕ → ℕ → Inst
reg_from_slot r k = Mov B32 (rm.Reg r) (src.Rm (rm_of (Slot k)))

-- a condition to the low byte of a slot
abbrev pub flag_to_slot : ℕ → ℕ → Inst
flag_to_slot k cond = Setcc cond (rm_of (Slot k))

abbrev pub shift_left : ℕ → ℕ → Inst
shift_left r n = Shift Shl B32 (rm.Reg r) (count.Imm n)

-- ecx to eax by OR
abbrev pub or_reg : Inst
or_reg = Alu 1 B32 (rm.Reg 0) (src.Rm (rm.Reg 1))

abbrev pub test_eax : Inst
test_eax = Test B32 (rm.Reg 0) (src.Rm (rm.Reg 0))

-- OF becomes al, which is 0 or 1
abbrev pub add_to_al : Inst
add_to_al = Alu 0 B8 (rm.Reg 0) (src.Imm 0x7F)

-- ---- the sequences, by the virtual registers that live in registers

-- to their slots, and from their slots
abbrev pub spill_code : List RegisterHome → List Inst
spill_code homes = map (λ h. slot_from_reg h.slot h.register) homes

abbrev pub home_code : List RegisterHome → List Inst
home_code homes = map (λ h. reg_from_slot h.register h.slot) homes

-- registers to their slots, and CF, PF, ZF, SF and OF
abbrev pub low_stores : List Inst
low_stores = slot_from_reg 0 0 ∷ slot_from_reg 1 1 ∷ slot_from_reg 2 2 ∷ slot_from_reg 3 3 ∷ []

abbrev pub high_stores : List Inst
high_stores = slot_from_reg 4 4 ∷ slot_from_reg 5 5 ∷ slot_from_reg 6 6 ∷ slot_from_reg 7 7 ∷ []

abbrev pub flag_stores : List Inst
flag_stores = flag_to_slot 8 2 ∷ flag_to_slot 9 10 ∷ flag_to_slot 10 4 ∷ flag_to_slot 11 8 ∷ flag_to_slot 12 0 ∷ []

-- CAPTURE: those, and then the homes
abbrev pub capture_code : List RegisterHome → List Inst
capture_code homes = low_stores ++ (high_stores ++ (flag_stores ++ home_code homes))

abbrev pub capture_items : List RegisterHome → List Item
capture_items homes = map item.Inst (capture_code homes)

abbrev pub spill_items : List RegisterHome → List Item
spill_items homes = map item.Inst (spill_code homes)

-- DF from slot 13: CLD, and STD where the slot is not 0
abbrev pub restore_start : List Inst
restore_start = Cld ∷ reg_from_slot 0 13 ∷ test_eax ∷ []

abbrev pub direction_items : ℕ → List Item
direction_items label =
    map item.Inst restore_start ++ (item.Jump (Some 4) (dests.Label label) ∷ item.Inst Std ∷ item.Label label ∷ [])

-- a slot's bit joins those in eax
abbrev pub joined : ℕ → ℕ → List Inst
joined slot n = reg_from_slot 1 slot ∷ shift_left 1 n ∷ or_reg ∷ []

-- CF, PF, ZF and SF where SAHF takes them, in al
abbrev pub joined_flags : List Inst
joined_flags = reg_from_slot 0 8 ∷ (joined 9 2 ++ (joined 10 6 ++ joined 11 7))

-- they go to ah and OF to al; the sum sets OF, and SAHF the others
abbrev pub restore_flags : List Inst
restore_flags = shift_left 0 8 ∷ reg_from_slot 1 12 ∷ or_reg ∷ add_to_al ∷ Sahf ∷ []

abbrev pub low_loads : List Inst
low_loads = reg_from_slot 1 1 ∷ reg_from_slot 2 2 ∷ reg_from_slot 3 3 ∷ reg_from_slot 4 4 ∷ []

abbrev pub high_loads : List Inst
high_loads = reg_from_slot 5 5 ∷ reg_from_slot 6 6 ∷ reg_from_slot 7 7 ∷ reg_from_slot 0 0 ∷ []

-- RESTORE
abbrev pub restore_rest : List Inst
restore_rest = joined_flags ++ (restore_flags ++ (low_loads ++ high_loads))

abbrev pub restore_items : ℕ → List Item
restore_items label = direction_items label ++ map item.Inst restore_rest

-- a native instruction between the two: what stands before its own bytes, and behind them
abbrev pub opening_items : List RegisterHome → ℕ → List Item
opening_items homes label = spill_items homes ++ restore_items label

abbrev pub closing_items : List RegisterHome → Dest → List Item
closing_items homes next = capture_items homes ++ (item.Jump None next ∷ [])

abbrev pub island_items : List RegisterHome → List ℕ → ℕ → Dest → List Item
island_items homes bytes label next = opening_items homes label ++ (map item.Byte bytes ++ closing_items homes next)

-- a front part of these items was appended
abbrev pub Grew : (old new added : List Item) → Type 0
Grew old new added = (n : ℕ) × (new ≡ old ++ take n added)
