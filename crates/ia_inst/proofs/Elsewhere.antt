-- An instruction that is no transfer does the same wherever it stands.
use Rattle.std.proofs.Common.{◌≡◌, ℕ, Bool, List, refl}
use Rattle.ia_inst.specs.declared.inst.Inst.{Inst}
use Rattle.ia_inst.specs.declared.inst.Inst.TheVariants.{Jcc, Jmp, JmpRm, Call, CallRm, Ret}
use Rattle.ia_inst.specs.declared.inst.Kind.TheVariants.{Transfer}
use Rattle.ia_inst.specs.Meaning.{meaning}
use Rattle.ia_inst.specs.Kinds.{kind_of}

pub same_elsewhere : (i : Inst) (n eip eip' : ℕ) (regs : List ℕ) (df : Bool) → (kind_of i ≡ Transfer → ⊥) → meaning i n regs eip df ≡ meaning i n regs eip' df
unfolding meaning
same_elsewhere (Jcc c rel) n eip eip' regs df h = absurd (h refl)
same_elsewhere (Jmp rel) n eip eip' regs df h = absurd (h refl)
same_elsewhere (JmpRm a) n eip eip' regs df h = absurd (h refl)
same_elsewhere (Call rel) n eip eip' regs df h = absurd (h refl)
same_elsewhere (CallRm a) n eip eip' regs df h = absurd (h refl)
same_elsewhere (Ret pop) n eip eip' regs df h = absurd (h refl)
same_elsewhere i n eip eip' regs df h = refl
