-- The lines of an instruction do what its step does.
use Rattle.std.specs.Prelude.{IsTrue, true, ◌+◌, ◌≤◌, ◌≡◌, ℕ, List, ◌++◌, length}
use Rattle.br_word.specs.Memory.{Region, HoldBytes}
use Rattle.br_word.specs.State.{Processor, AreRegs}
use Rattle.ia_inst.specs.declared.inst.Inst.{Inst}
use Rattle.ia_inst.specs.declared.inst.Kind.{Kind}
use Rattle.ia_inst.specs.declared.inst.Kind.TheVariants.{Plain, Island, Transfer}
use Rattle.ia_inst.specs.Act.{Next, NextEip, perform}
use Rattle.ia_inst.specs.Meaning.{meaning}
use Rattle.ia_inst.specs.Kinds.{kind_of, flags_read}
use Rattle.ia_inst.specs.Step.{AllMarked, next_eip}
use Rattle.ssa_form.specs.declared.form.Line.{Line}
use Rattle.ssa_form.specs.Value.{Env, fold, AllAllowed, numbered, outs_of, exit_of}
use Rattle.ssa_form.specs.Agree.{AgreesOn, AreBits, every}
use Rattle.ssa_form.specs.Same.{SpellsWords}
use Rattle.ssa_form.specs.Checked.{checked}
use Rattle.ia_inst.specs.Canonical.{valid_of}
use Rattle.ssa_form.specs.declared.form.Block.{Block}
use Rattle.lift_alu.specs.Lifted.{lifted}

-- no native instruction
abbrev pub IsLifted : Kind → Type 0
IsLifted Plain = Unit {0}
IsLifted Transfer = Unit {0}
IsLifted Island = ⊥

-- the block c has new lines behind those of b. From e they are allowed, and then outs, memory and exit
-- are those of the step
pub record Reaches (b c : Block) (e : Env) (at : ℕ) (v : Processor) (ms : List Region) (to : NextEip) : Type 0 where
  pub new : List Line
  pub lines : c.lines ≡ b.lines ++ new
  pub allowed : AllAllowed (numbered (length b.lines) new) e
  pub agrees : AgreesOn every v (outs_of c.outs (fold (numbered (length b.lines) new) e))
  pub bits : AreBits (outs_of c.outs (fold (numbered (length b.lines) new) e))
  pub memory : (fold (numbered (length b.lines) new) e).mem ≡ ms
  pub exit : exit_of c.exit (fold (numbered (length b.lines) new) e) ≡ next_eip to at

-- for any numbers that are the processor's where its marks are set
abbrev pub LinesMean : Inst → (at n : ℕ) → Block → Type 0
LinesMean i at n b =
    (e : Env) (u v : Processor) (ms : List Region) (to : NextEip) →
    AreRegs u.regs → HoldBytes e.mem →
    AgreesOn every u (outs_of b.outs e) → AreBits (outs_of b.outs e) →
    AllMarked u.marks (flags_read i) →
    perform (meaning i n u.regs at u.df) 0 u e.mem ≡ Next v ms to →
    Reaches b (lifted i at n b) e at v ms to

-- every valid instruction that is not native, behind a checked block
abbrev pub EachMeans : Type 0
EachMeans = (i : Inst) (at n : ℕ) (b : Block)
    → IsTrue (valid_of i) → IsLifted (kind_of i) → checked b ≡ true → LinesMean i at n b

-- ---- what else is known of lifted blocks

-- a checked block stays checked
abbrev pub EachStaysChecked : Type 0
EachStaysChecked = (i : Inst) (at n : ℕ) (b : Block) → checked b ≡ true → checked (lifted i at n b) ≡ true

-- an instruction has at most 32 lines
abbrev pub EachHasFew : Type 0
EachHasFew = (i : Inst) (at n : ℕ) (b : Block) → length (lifted i at n b).lines ≤ length b.lines + 32

-- the numbers that lines and outs spell out have 32 bits
abbrev pub EachSpellsWords : Type 0
EachSpellsWords = (i : Inst) (at n : ℕ) (b : Block)
    → IsTrue (valid_of i) → SpellsWords b → SpellsWords (lifted i at n b)
