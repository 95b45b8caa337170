-- The code of a line and of a move: instructions over the locations of operands and result, which use up eax, ecx and the flags
-- (SDM volume 2).
use Rattle.std.specs.Prelude.{ℕ, true, false, List, [], ◌∷◌, None, Some}
use Rattle.br_word.specs.declared.types.ShiftOp.{ShiftOp}
use Rattle.br_word.specs.declared.types.ShiftOp.TheVariants as shifts
use Rattle.br_word.specs.declared.types.Width.{Width}
use Rattle.br_word.specs.declared.types.Width.TheVariants.{B8, B16, B32}
use Rattle.ia_inst.specs.declared.inst.Rm.{Rm}
use Rattle.ia_inst.specs.declared.inst.Rm.TheVariants as rm
use Rattle.ia_inst.specs.declared.inst.Src.TheVariants as src
use Rattle.ia_inst.specs.declared.inst.Count.TheVariants as count
use Rattle.ia_inst.specs.declared.inst.Inst.{Inst}
use Rattle.ia_inst.specs.declared.inst.Inst.TheVariants.{Alu, Test, Mov, Imul, Shift, Extend, Setcc, Cmov}
use Rattle.ssa_form.specs.declared.form.Val.{Val}
use Rattle.ssa_form.specs.declared.form.Val.TheVariants as val
use Rattle.ssa_form.specs.declared.form.BinOp.{BinOp}
use Rattle.ssa_form.specs.declared.form.BinOp.TheVariants.{Add, Sub, And, Or, Xor, Mul, MulOver, Shl, Shr, Sar, Eq, Ult}
use Rattle.ssa_form.specs.declared.form.OneOp.{OneOp}
use Rattle.ssa_form.specs.declared.form.OneOp.TheVariants.{Parity, Sext8, Sext16}
use Rattle.ssa_form.specs.declared.form.Line.{Line}
use Rattle.ssa_form.specs.declared.form.Line.TheVariants.{Bin, One, Select, Load, Store, Gone}
use Rattle.par_moves.specs.declared.locations.Place.{Place}
use Rattle.par_moves.specs.declared.locations.Place.TheVariants.{Reg, Slot}
use Rattle.par_moves.specs.declared.locations.MoveSource.{MoveSource}
use Rattle.par_moves.specs.declared.locations.MoveSource.TheVariants.{Place as Held, Num}
use Rattle.par_moves.specs.Locations.{rm_of, src_of}

-- ---- the instructions

abbrev pub eax : Rm
eax = rm.Reg 0

abbrev pub ecx : Rm
ecx = rm.Reg 1

-- the memory that eax points to
abbrev pub by_eax : Rm
by_eax = rm.Mem (record { base = Some 0; index = None; disp = 0 })

-- a value to a register, a register to a location, a number to a location
abbrev pub load_reg : ℕ → MoveSource → Inst
load_reg r a = Mov B32 (rm.Reg r) (src_of a)

abbrev pub store_reg : Place → ℕ → Inst
store_reg p r = Mov B32 (rm_of p) (src.Rm (rm.Reg r))

abbrev pub store_num : Place → ℕ → Inst
store_num p n = Mov B32 (rm_of p) (src.Imm n)

-- eax to a location
abbrev pub keep : Place → Inst
keep p = store_reg p 0

-- IMUL of eax by ecx
abbrev pub signed_product : Inst
signed_product = Imul 0 ecx None

-- 0 to eax by MOV, which keeps the flags
abbrev pub clear_eax : Inst
clear_eax = Mov B32 eax (src.Imm 0)

-- TEST of al, and of eax, with itself
abbrev pub test_low : Inst
test_low = Test B8 eax (src.Rm eax)

abbrev pub test_all : Inst
test_all = Test B32 eax (src.Rm eax)

-- CMOVNZ of ecx to eax
abbrev pub chosen : Inst
chosen = Cmov 5 0 ecx

-- MOVSX within eax
abbrev pub extended : Width → Inst
extended w = Extend true w B32 0 eax

-- to eax from the memory at eax, extended with zeros
abbrev pub load_inst : Width → Inst
load_inst B32 = Mov B32 eax (src.Rm by_eax)
load_inst B16 = Extend false B16 B32 0 by_eax
load_inst B8 = Extend false B8 B32 0 by_eax

-- the low bits of ecx to the memory at eax
abbrev pub store_inst : Width → Inst
store_inst w = Mov w by_eax (src.Rm ecx)

-- ---- the templates

abbrev pub alu_code : ℕ → MoveSource → MoveSource → Place → List Inst
alu_code op a b r = load_reg 0 a ∷ Alu op B32 eax (src_of b) ∷ keep r ∷ []

abbrev pub shift_code : ShiftOp → MoveSource → MoveSource → Place → List Inst
shift_code op a b r = load_reg 0 a ∷ load_reg 1 b ∷ Shift op B32 eax count.Cl ∷ keep r ∷ []

-- a comparison: its condition as 0 or 1
abbrev pub test_code : ℕ → MoveSource → MoveSource → Place → List Inst
test_code cond a b r = load_reg 0 a ∷ Alu 7 B32 eax (src_of b) ∷ clear_eax ∷ Setcc cond eax ∷ keep r ∷ []

abbrev pub bin_code : BinOp → MoveSource → MoveSource → Place → List Inst
bin_code Add a b r = alu_code 0 a b r
bin_code Sub a b r = alu_code 5 a b r
bin_code And a b r = alu_code 4 a b r
bin_code Or a b r = alu_code 1 a b r
bin_code Xor a b r = alu_code 6 a b r
bin_code Mul a b r = load_reg 0 a ∷ load_reg 1 b ∷ signed_product ∷ keep r ∷ []
bin_code MulOver a b r = load_reg 0 a ∷ load_reg 1 b ∷ signed_product ∷ clear_eax ∷ Setcc 0 eax ∷ keep r ∷ []
bin_code Shl a b r = shift_code shifts.Shl a b r
bin_code Shr a b r = shift_code shifts.Shr a b r
bin_code Sar a b r = shift_code shifts.Sar a b r
bin_code Eq a b r = test_code 4 a b r
bin_code Ult a b r = test_code 2 a b r

abbrev pub one_code : OneOp → MoveSource → Place → List Inst
one_code Parity a r = load_reg 0 a ∷ test_low ∷ clear_eax ∷ Setcc 10 eax ∷ keep r ∷ []
one_code Sext8 a r = load_reg 0 a ∷ extended B8 ∷ keep r ∷ []
one_code Sext16 a r = load_reg 0 a ∷ extended B16 ∷ keep r ∷ []

abbrev pub select_code : MoveSource → MoveSource → MoveSource → Place → List Inst
select_code c a b r = load_reg 0 c ∷ test_all ∷ load_reg 0 b ∷ load_reg 1 a ∷ chosen ∷ keep r ∷ []

abbrev pub load_code : Width → MoveSource → Place → List Inst
load_code w at r = load_reg 0 at ∷ load_inst w ∷ keep r ∷ []

abbrev pub store_code : Width → MoveSource → MoveSource → List Inst
store_code w at a = load_reg 0 at ∷ load_reg 1 a ∷ store_inst w ∷ []

-- to a register and from a register one MOV, from slot to slot two
abbrev pub move_code : Place → MoveSource → List Inst
move_code (Reg r) a = load_reg r a ∷ []
move_code (Slot k) (Num n) = store_num (Slot k) n ∷ []
move_code (Slot k) (Held (Reg r)) = store_reg (Slot k) r ∷ []
move_code (Slot k) (Held (Slot j)) = load_reg 0 (Held (Slot j)) ∷ keep (Slot k) ∷ []

-- ---- lines, by where parameters and lines are held

abbrev pub held_by : (ℕ → Place) → (ℕ → Place) → Val → MoveSource
held_by home place (val.Param v) = Held (home v)
held_by home place (val.Line j) = Held (place j)
held_by home place (val.Num n) = Num n

-- the code of line i
abbrev pub line_code : (ℕ → Place) → (ℕ → Place) → ℕ → Line → List Inst
line_code home place i (Bin op a b) = bin_code op (held_by home place a) (held_by home place b) (place i)
line_code home place i (One op a) = one_code op (held_by home place a) (place i)
line_code home place i (Select c a b) = select_code (held_by home place c) (held_by home place a) (held_by home place b) (place i)
line_code home place i (Load w at) = load_code w (held_by home place at) (place i)
line_code home place i (Store w at a) = store_code w (held_by home place at) (held_by home place a)
line_code home place i Gone = []
