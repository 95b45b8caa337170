-- What every instruction leaves in the registers, and which flags a step asks for.
use Rattle.std.specs.Prelude.{◌≡◌, ℕ, ◌^◌, ◌<◌, Bool, List, IsTrue}
use Rattle.br_word.specs.State.{State, AreRegs}
use Rattle.ia_inst.specs.declared.inst.Inst.{Inst}
use Rattle.ia_inst.specs.Canonical.{valid_of}
use Rattle.ia_inst.specs.Act.{NextEip, Past, Again, To, Act, Load, Store, Ask, Divides, Calls, Ends}
use Rattle.ia_inst.specs.Kinds.{flags_read}
use Rattle.ia_inst.specs.Meaning.{meaning}
use Rattle.ia_inst.specs.Step.{There, asked_at}

-- a target is an address of 32 bits
abbrev pub IsAddress : NextEip → Type 0
IsAddress (Past n) = Unit {0}
IsAddress Again = Unit {0}
IsAddress (To at) = at < 2 ^ 32

-- whatever bytes are loaded and flags asked, the act ends with such registers, at such an address
abbrev pub Fits : Act → Type 0
Fits (Load at n k) = (v : ℕ) → v < 256 ^ n → Fits (k v)
Fits (Store at n v a) = Fits a
Fits (Ask f k) = (b : Bool) → Fits (k b)
Fits Divides = Unit {0}
Fits (Calls n) = Unit {0}
Fits (Ends regs df ch to) = AreRegs regs × IsAddress to

-- every valid instruction does, from such registers, wherever it stands
abbrev pub EachFits : Type 0
EachFits = (i : Inst) (n : ℕ) (regs : List ℕ) (eip : ℕ) (df : Bool)
    → IsTrue (valid_of i) → AreRegs regs → Fits (meaning i n regs eip df)

-- a step asks for the flags of its instruction, in their order, and for no others
abbrev pub AsksExactly : Type 0
AsksExactly = (i : Inst) (n : ℕ) (s : State) → asked_at (There i n) s ≡ flags_read i
