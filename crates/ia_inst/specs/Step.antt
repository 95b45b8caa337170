-- One step of the guest: one instruction, or one iteration of a repeated string instruction.
use Rattle.std.specs.Prelude.{◌≡◌, ℕ, ◌+◌, Bool, true, false, not, ◌||◌, List, [], ◌∷◌, Option, Some, None}
use Rattle.br_word.specs.declared.types.Flags.{Flags}
use Rattle.br_word.specs.declared.types.GuestFault.TheVariants.{Access, Illegal, Divide}
use Rattle.br_word.specs.Memory.{Region, Runs, bytes_at}
use Rattle.br_word.specs.State.{State, RunState, Running, Exited, Faulted, Flag, flag_of}
use Rattle.ia_inst.specs.declared.inst.Inst.{Inst}
use Rattle.ia_inst.specs.Act.{NextEip, Past, Again, To, Act, Completion, Next, Denied, Divided, Called, perform, asked}
use Rattle.ia_inst.specs.Meaning.{wrap, meaning}
use Rattle.ia_inst.specs.Instructions.{decode_of}
use Rattle.ia_inst.specs.System.{StepResult, On, Bad, system}

-- what stands at an address: no code, no instruction, or one with its length
pub data Found : Type 0 where
  NoCode : Found
  NoInst : Found
  There : Inst → ℕ → Found

-- the instruction at the head of bytes that may be executed
abbrev pub found_from : Option (Inst × ℕ) → Found
found_from None = NoInst
found_from (Some i) = There i.0 i.1

-- the same, where there are such bytes
abbrev pub found_in : Option (List ℕ) → Found
found_in None = NoCode
found_in (Some bytes) = found_from (decode_of bytes)

-- what stands at an address: it is read from there to the end of its region, where it may be executed
abbrev pub found : ℕ → List Region → Found
found eip rs = found_in (bytes_at Runs eip 1 rs)

-- the address of the next instruction, for one at this address
abbrev pub next_eip : NextEip → ℕ → ℕ
next_eip (Past n) eip = wrap (eip + n)
next_eip Again eip = eip
next_eip (To at) eip = at

-- where an act leads that came to this (SDM volume 3, page-fault and divide error exceptions)
abbrev pub result_of : Completion → State → StepResult
result_of (Next u rs to) s = On (record s { eip = next_eip to s.eip; cpu = u; regions = rs })
result_of (Denied at) s = Bad (Access at)
result_of Divided s = Bad (Divide s.eip)
result_of (Called n) s = system (wrap (s.eip + n)) s

-- what the next step does with an instruction
abbrev pub act_of : Inst → ℕ → State → Act
act_of i n s = meaning i n s.cpu.regs s.eip s.cpu.df

-- where the next step leads with what stands at eip (SDM volume 3, invalid opcode exception)
abbrev pub result_at : Found → State → ℕ → StepResult
result_at NoCode s c = Bad (Access s.eip)
result_at NoInst s c = Bad (Illegal s.eip)
result_at (There i n) s c = result_of (perform (act_of i n s) c s.cpu s.regions) s

-- where the next step leads
abbrev pub step_result : State → ℕ → StepResult
step_result s c = result_at (found s.eip s.regions) s c

-- the flags that the next step reads
abbrev pub asked_at : Found → State → List Flag
asked_at NoCode s = []
asked_at NoInst s = []
asked_at (There i n) s = asked (act_of i n s) s.cpu.flags s.regions

-- a fault changes nothing but the stop
abbrev pub settled : StepResult → State → State
settled (On t) s = t
settled (Bad f) s = record s { stop = Faulted f }

-- a stopped guest takes no step
abbrev pub unless_stopped : RunState → State → State → State
unless_stopped Running old new = new
unless_stopped (Exited n) old new = old
unless_stopped (Faulted f) old new = old

-- the choice gives the bits of flags that the step leaves undefined
unfoldable pub step : State → ℕ → State
step s c = unless_stopped s.stop s (settled (step_result s c) s)

-- each flag of the list is marked as defined
abbrev pub AllMarked : Flags → List Flag → Type 0
AllMarked marks [] = Unit {0}
AllMarked marks (f ∷ fs) = (flag_of f marks ≡ true) × AllMarked marks fs

-- some flag of the list is not
abbrev pub some_unmarked : List Flag → Flags → Bool
some_unmarked [] marks = false
some_unmarked (f ∷ fs) marks = not (flag_of f marks) || some_unmarked fs marks

-- it leads on to a state
abbrev pub NoFault : StepResult → Type 0
NoFault (On t) = Unit {0}
NoFault (Bad f) = ⊥

-- the next step, if there is one, neither faults nor reads an undefined flag
pub record IsWellDefined (s : State) : Type 0 where
  pub no_fault : s.stop ≡ Running → NoFault (step_result s 0)
  pub marked : s.stop ≡ Running → AllMarked s.cpu.marks (asked_at (found s.eip s.regions) s)
