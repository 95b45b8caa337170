-- The state of a guest (SDM volume 1, 3.4; the stop and the streams are those of the process).
use Rattle.std.specs.Prelude.{ℕ, Bool, List, get_or, ◌≡◌, ◌^◌, ◌<◌, length}
use Rattle.br_word.specs.declared.types.Flags.{Flags}
use Rattle.br_word.specs.declared.types.GuestFault.{GuestFault}
use Rattle.br_word.specs.Memory.{Region}

-- whether a guest goes on, has exited with a status, or has faulted
pub data RunState : Type 0 where
  Running : RunState
  Exited : ℕ → RunState
  Faulted : GuestFault → RunState

-- what an instruction sees besides memory and its own address (SDM volume 1, 3.4.1 and 3.4.3)
pub record Processor : Type 0 where
  -- eax, ecx, edx, ebx, esp, ebp, esi, edi, each below 2 ^ 32
  pub regs : List ℕ
  -- the status flags
  pub flags : Flags
  -- the direction flag
  pub df : Bool
  -- which of the flags are defined
  pub marks : Flags

-- eight registers of 32 bits (SDM volume 1, 3.4.1)
pub record AreRegs (regs : List ℕ) : Type 0 where
  pub count : length regs ≡ 8
  pub small : (r : ℕ) → get_or regs r 0 < 2 ^ 32

-- all that a guest's next step depends on, and what it has written
pub record State : Type 0 where
  -- the address of the next instruction, below 2 ^ 32 (SDM volume 1, 3.5)
  pub eip : ℕ
  pub cpu : Processor
  -- the segments of its file, the heap and the stack
  pub regions : List Region
  -- where the heap starts, and where it ends now
  pub brk_start : ℕ
  pub brk : ℕ
  -- what is left of the input, and what was written to descriptors 1 and 2
  pub input : List ℕ
  pub out : List ℕ
  pub err : List ℕ
  -- whether it goes on
  pub stop : RunState

-- the general registers by name (SDM volume 1, 3.4.1)
abbrev pub eax : State → ℕ
eax s = get_or s.cpu.regs 0 0

abbrev pub ecx : State → ℕ
ecx s = get_or s.cpu.regs 1 0

abbrev pub edx : State → ℕ
edx s = get_or s.cpu.regs 2 0

abbrev pub ebx : State → ℕ
ebx s = get_or s.cpu.regs 3 0

abbrev pub esp : State → ℕ
esp s = get_or s.cpu.regs 4 0

abbrev pub ebp : State → ℕ
ebp s = get_or s.cpu.regs 5 0

abbrev pub esi : State → ℕ
esi s = get_or s.cpu.regs 6 0

abbrev pub edi : State → ℕ
edi s = get_or s.cpu.regs 7 0

-- the status flags (SDM volume 1, 3.4.3.1)
pub data Flag : Type 0 where
  CF PF ZF SF OF : Flag

-- one flag of five
abbrev pub flag_of : Flag → Flags → Bool
flag_of CF f = f.cf
flag_of PF f = f.pf
flag_of ZF f = f.zf
flag_of SF f = f.sf
flag_of OF f = f.of

-- each flag so
abbrev pub all_flags : Bool → Flags
all_flags b = record { cf = b; pf = b; zf = b; sf = b; of = b }
