-- Where recovered code keeps values: registers, and words of the private segment.
use Rattle.std.specs.Prelude.{ℕ, ◌+◌, ◌*◌, ◌^◌, ◌<◌, ◌≡◌, ◌==◌, Bool, false, None}
use Rattle.ia_inst.specs.declared.inst.Rm.{Rm}
use Rattle.ia_inst.specs.declared.inst.Rm.TheVariants as rm
use Rattle.ia_inst.specs.declared.inst.Src.{Src}
use Rattle.ia_inst.specs.declared.inst.Src.TheVariants as src
use Rattle.par_moves.specs.declared.locations.Place.{Place}
use Rattle.par_moves.specs.declared.locations.Place.TheVariants.{Reg, Slot}
use Rattle.par_moves.specs.declared.locations.MoveSource.{MoveSource}
use Rattle.par_moves.specs.declared.locations.MoveSource.TheVariants.{Place as Of, Num}
use Rattle.par_moves.specs.declared.locations.TheConstants.{SLOTS, SPARE}

abbrev pub same_place : Place → Place → Bool
same_place (Reg a) (Reg b) = a == b
same_place (Slot a) (Slot b) = a == b
same_place (Reg a) (Slot b) = false
same_place (Slot a) (Reg b) = false

-- the slot that breaks a cycle of moves
abbrev pub spare : Place
spare = Slot SPARE

-- the source is the place
abbrev pub is_from : MoveSource → Place → Bool
is_from (Of q) p = same_place q p
is_from (Num n) p = false

-- the address of a slot, a word of the private segment
abbrev pub slot_at : ℕ → ℕ
slot_at k = 0x07000000 + 4 * k

-- a location as an operand, and what a move reads (SDM volume 2, 2.1.5)
abbrev pub rm_of : Place → Rm
rm_of (Reg r) = rm.Reg r
rm_of (Slot k) = rm.Mem (record { base = None; index = None; disp = slot_at k })

abbrev pub src_of : MoveSource → Src
src_of (Of p) = src.Rm (rm_of p)
src_of (Num n) = src.Imm n

-- a location that there is
abbrev pub InRange : Place → Type 0
InRange (Reg r) = r < 8
InRange (Slot k) = k < SLOTS

abbrev pub IsFit : MoveSource → Type 0
IsFit (Of p) = InRange p
IsFit (Num n) = n < 2 ^ 32

-- neither eax nor ecx, which templates use up
pub record IsKept (p : Place) : Type 0 where
  pub not_eax : same_place p (Reg 0) ≡ false
  pub not_ecx : same_place p (Reg 1) ≡ false

abbrev pub IsFree : MoveSource → Type 0
IsFree (Of p) = IsKept p
IsFree (Num n) = Unit {0}

-- what a source holds, by what locations hold
abbrev pub held : (Place → ℕ) → MoveSource → ℕ
held cell (Of p) = cell p
held cell (Num n) = n
