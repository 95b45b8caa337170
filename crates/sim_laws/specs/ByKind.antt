-- Where a step leads, by the kind of its instruction.
use Rattle.std.specs.Prelude.{◌≡◌, ◌≢◌, ℕ, ◌+◌, ◌⊎◌, IsTrue}
use Rattle.br_word.specs.State.{State}
use Rattle.ia_inst.specs.declared.inst.Inst.{Inst}
use Rattle.ia_inst.specs.declared.inst.Inst.TheVariants.{Int80}
use Rattle.ia_inst.specs.declared.inst.Kind.{Kind}
use Rattle.ia_inst.specs.declared.inst.Kind.TheVariants.{Plain, Island, Transfer}
use Rattle.ia_inst.specs.Kinds.{kind_of}
use Rattle.ia_inst.specs.Meaning.{wrap}
use Rattle.ia_inst.specs.Step.{There, result_at}
use Rattle.ia_inst.specs.System.{On}
use Rattle.block_cut.specs.Transfers.{leads_by}
use Rattle.run_model.specs.Run.{observed}

-- nothing is seen of what lies between the states, and the break stays
pub record IsQuiet (s t : State) : Type 0 where
  pub seen : observed t ≡ observed s
  pub brk : t.brk ≡ s.brk

-- a plain instruction goes on behind itself; a native one there or to itself again, with the same DF,
-- and quietly but for a system call; a transfer where it may lead, with the same DF
abbrev pub GoesBy : Kind → Inst → ℕ → State → State → Type 0
GoesBy Plain i n s t = (t.eip ≡ wrap (s.eip + n)) × IsQuiet s t
GoesBy Island i n s t = ((t.eip ≡ wrap (s.eip + n)) ⊎ (t.eip ≡ s.eip)) × (t.cpu.df ≡ s.cpu.df) × (i ≢ Int80 → IsQuiet s t)
GoesBy Transfer i n s t = IsTrue (leads_by (There i n) s.eip t.eip) × (t.cpu.df ≡ s.cpu.df) × IsQuiet s t

-- every instruction, wherever it stands and whatever bits undefined flags take
abbrev pub EachGoesByKind : Type 0
EachGoesByKind = (i : Inst) (n : ℕ) (s t : State) (c : ℕ)
    → result_at (There i n) s c ≡ On t → GoesBy (kind_of i) i n s t
