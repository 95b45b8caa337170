-- The instructions that templates and sequences use, and what each does to cells.
use Rattle.std.proofs.Common.{◌≡◌, ℕ, ◌+◌, ◌*◌, ◌/◌, ◌%◌, ◌^◌, ◌<◌, Bool, true, false, ◌&&◌, ◌||◌, List, [], ◌∷◌, drop, if◌then◌else◌}
use Rattle.std.specs.Prelude.{◌==◌, bit_and, None}
use Rattle.br_word.specs.declared.types.Flags.{Flags}
use Rattle.br_word.specs.declared.types.ShiftOp.{ShiftOp}
use Rattle.br_word.specs.declared.types.Width.{Width}
use Rattle.br_word.specs.declared.types.Width.TheVariants.{B8, B32}
use Rattle.br_word.specs.Words.{bit}
use Rattle.ia_inst.specs.declared.inst.Inst.{Inst}
use Rattle.ia_inst.specs.declared.inst.Inst.TheVariants.{Alu, Test, Mov, Imul, Shift, Extend, Setcc, Cmov, Cld, Std, Sahf}
use Rattle.ia_inst.specs.declared.inst.Src.TheVariants as src
use Rattle.ia_inst.specs.declared.inst.Count.{Count}
use Rattle.ia_inst.specs.declared.inst.Count.TheVariants as count
use Rattle.ia_inst.specs.Act.{Changes, flags_after, marks_after}
use Rattle.ia_inst.specs.Meaning.{alu, of_logic, product_changes, shifted, flags_of_ah, sign_extended}
use Rattle.ia_inst.specs.Wide.{product_overflows}
use Rattle.run_model.specs.Run.{first_choice}
use Rattle.par_moves.specs.declared.locations.Place.{Place}
use Rattle.par_moves.specs.declared.locations.Place.TheVariants.{Reg, Slot}
use Rattle.par_moves.specs.declared.locations.MoveSource.{MoveSource as Source}
use Rattle.par_moves.specs.Locations.{rm_of, src_of, same_place as place_eq, held, InRange, IsFit}
use Rattle.code_laws.proofs.Words.{low_part}
use Rattle.emit_ops.specs.Templates.{eax, ecx}
use Rattle.code_laws.specs.Seen.{Cells}

pub data Op : Type 0 where
  -- MOV of 32 bits
  OMov : (p : Place) (a : Source) → Op
  -- an operation on eax, with no carry, that is written; CMP
  OAlu : (op : ℕ) (a : Source) → Op
  OCmp : (a : Source) → Op
  -- ADD AL
  OAdd8 : (n : ℕ) → Op
  -- TEST of eax, of al, with itself
  OTest : Op
  OTest8 : Op
  OImul : Op
  OShift : (op : ShiftOp) (r : ℕ) (n : Count) → Op
  OSext : (w : Width) → Op
  OSetcc : (cond : ℕ) (p : Place) → Op
  OCmov : Op
  OCld : Op
  OStd : Op
  OSahf : Op

abbrev pub inst : Op → Inst
inst (OMov p a) = Mov B32 (rm_of p) (src_of a)
inst (OAlu op a) = Alu op B32 eax (src_of a)
inst (OCmp a) = Alu 7 B32 eax (src_of a)
inst (OAdd8 n) = Alu 0 B8 eax (src.Imm n)
inst OTest = Test B32 eax (src.Rm eax)
inst OTest8 = Test B8 eax (src.Rm eax)
inst OImul = Imul 0 ecx None
inst (OShift op r n) = Shift op B32 (rm_of (Reg r)) n
inst (OSext w) = Extend true w B32 0 eax
inst (OSetcc cond p) = Setcc cond (rm_of p)
inst OCmov = Cmov 5 0 ecx
inst OCld = Cld
inst OStd = Std
inst OSahf = Sahf

abbrev pub put : Place → ℕ → (Place → ℕ) → Place → ℕ
put p v f q = if place_eq q p then v else f q

abbrev pub celled : Cells → Place → ℕ → Cells
celled a p v = record a { cell = put p v a.cell }

-- flags and marks as an instruction changes them
abbrev pub flagged : Cells → Changes → ℕ → Cells
flagged a ch x = record a { flags = flags_after ch a.flags x; marks = marks_after ch a.marks }

abbrev pub count_in : (Place → ℕ) → Count → ℕ
count_in f (count.Imm n) = n % 32
count_in f count.Cl = f (Reg 1) % 256 % 32

-- the conditions that templates and sequences use: O, B, Z, NZ, S, P
abbrev pub holds : ℕ → Flags → Bool
holds c f =
    if c == 0 then f.of else if c == 2 then f.cf else if c == 4 then f.zf else if c == 8 then f.sf else f.pf

-- what an operation does, with the choice x
abbrev pub act : Op → Cells → ℕ → Cells
act (OMov p v) a x = celled a p (held a.cell v)
act (OAlu op v) a x =
    let r = alu op B32 (a.cell (Reg 0)) (held a.cell v) false in celled (flagged a r.changes x) (Reg 0) r.value
act (OCmp v) a x = flagged a (alu 7 B32 (a.cell (Reg 0)) (held a.cell v) false).changes x
act (OAdd8 n) a x =
    let r = alu 0 B8 (a.cell (Reg 0) % 256) n false in celled (flagged a r.changes x) (Reg 0) (a.cell (Reg 0) / 256 * 256 + r.value)
act OTest a x = flagged a (of_logic B32 (bit_and (a.cell (Reg 0)) (a.cell (Reg 0)))).changes x
act OTest8 a x = flagged a (of_logic B8 (bit_and (a.cell (Reg 0) % 256) (a.cell (Reg 0) % 256))).changes x
act OImul a x =
    celled (flagged a (product_changes (product_overflows (a.cell (Reg 0)) (a.cell (Reg 1)))) x) (Reg 0) (a.cell (Reg 0) * a.cell (Reg 1) % 2 ^ 32)
act (OShift op r n) a x =
    let s = shifted op B32 (a.cell (Reg r)) (count_in a.cell n) in celled (flagged a s.changes x) (Reg r) s.value
act (OSext w) a x = celled a (Reg 0) (sign_extended w B32 (low_part w (a.cell (Reg 0))))
act (OSetcc cond p) a x = celled a p (a.cell p / 256 * 256 + bit (holds cond a.flags))
act OCmov a x = celled a (Reg 0) (if a.flags.zf then a.cell (Reg 0) else a.cell (Reg 1))
act OCld a x = record a { df = false }
act OStd a x = record a { df = true }
act OSahf a x = flagged a (flags_of_ah (a.cell (Reg 0) / 256 % 256)) x

abbrev pub acts : List Op → Cells → List ℕ → Cells
acts [] a cs = a
acts (o ∷ os) a cs = acts os (act o a (first_choice cs)) (drop 1 cs)

-- a place of which the low byte can be written
abbrev pub HasLow : Place → Type 0
HasLow (Reg r) = r < 4
HasLow (Slot k) = k < 16384

-- a condition among those of holds
pub data IsUsed : ℕ → Type 0 where
  overflow : IsUsed 0
  below : IsUsed 2
  equal : IsUsed 4
  sign : IsUsed 8
  parity : IsUsed 10

-- what an operation needs
abbrev pub Fits : Op → Type 0
Fits (OMov p v) = InRange p × IsFit v
Fits (OAlu op v) = ((op == 2 || op == 3) ≡ false) × ((op == 7) ≡ false) × IsFit v
Fits (OCmp v) = IsFit v
Fits (OAdd8 n) = n < 256
Fits OTest = Unit {0}
Fits OTest8 = Unit {0}
Fits OImul = Unit {0}
Fits (OShift op r n) = r < 8
Fits (OSext w) = Unit {0}
Fits (OSetcc cond p) = IsUsed cond × HasLow p
Fits OCmov = Unit {0}
Fits OCld = Unit {0}
Fits OStd = Unit {0}
Fits OSahf = Unit {0}

abbrev pub AllFit : List Op → Type 0
AllFit [] = Unit {0}
AllFit (o ∷ os) = Fits o × AllFit os

-- an operation that writes no memory
abbrev pub is_quiet : Op → Bool
is_quiet (OMov (Slot k) v) = false
is_quiet (OSetcc cond (Slot k)) = false
is_quiet _ = true

abbrev pub are_quiet : List Op → Bool
are_quiet [] = true
are_quiet (o ∷ os) = is_quiet o && are_quiet os
