-- What a system call does to a machine, by the definition of the call.
use Rattle.std.specs.Prelude.{◌≡◌, ℕ, ◌<◌, ◌≤◌, Bool, ◌&&◌, ◌||◌, nat_eq, if◌then◌else◌, IsTrue, List, [], take, drop, Some, IsSome, Result, Ok, Err}
use Rattle.br_word.specs.Memory.{Region}
use Rattle.br_word.specs.State.{State, RunState, Running, Exited, Faulted, eax, ecx, edx, ebx}
use Rattle.br_outside.specs.Outside.{StreamView}
use Rattle.ia_inst.specs.Step.{settled}
use Rattle.ia_inst.specs.System.{system, filled}
use Rattle.guest_sys.specs.declared.answers.Called.{Called}
use Rattle.guest_sys.specs.declared.answers.Called.TheVariants.{Goes, Exit, Fault}
use Rattle.guest_sys.specs.declared.answers.SysError.{SysError}
use Rattle.guest_sys.specs.declared.answers.SysError.TheVariants.{Input, Out, Report, Memory}
use Rattle.br_outside.specs.Streams.{Streams, Steady, Fails, Tells, HasLeft, WasGiven, Leaves, Gains}
use Rattle.guest_sys.specs.Machine.{Machine, state_of, fed, bare}

-- how many bytes a call asks of the input: a read from descriptor 0, what edx says
abbrev pub asks : State → ℕ
asks s = if nat_eq (eax s) 3 && nat_eq (ebx s) 0 then edx s else 0

-- read, write and brk are the calls that may want memory
abbrev pub takes_memory : State → Bool
takes_memory s = nat_eq (eax s) 3 || (nat_eq (eax s) 4 || nat_eq (eax s) 45)

-- the state after a call whose instruction ends at eip
abbrev pub after_call : State → State
after_call s = settled (system s.eip s) s

-- what a call answers that leaves the guest so
abbrev pub answer_of : RunState → Called
answer_of Running = Goes
answer_of (Exited status) = Exit status
answer_of (Faulted f) = Fault f

-- what may have been taken beyond what the state has left: by a read that faults, all that it asks for
abbrev pub spare : RunState → ℕ → ℕ
spare Running n = 0
spare (Exited status) n = 0
spare (Faulted f) n = n

-- the streams went as the state t has it, but that some bytes more may be taken
pub record Passes (t : State) (more : ℕ) (before after : Streams) : Type 0 where
  pub input : Leaves (drop more t.input) before.input after.input
  pub out : Gains t.out before.out after.out
  pub err : Gains t.err before.err after.err

-- a call from s was done: t is the state after it
pub record Does (s t : State) (called : Called) (old new : Machine) : Type 0 where
  pub answer : called ≡ answer_of t.stop
  pub machine : state_of new.cpu new.memory ≡ bare (record t { stop = Running })
  pub undefined : new.cpu.undefined ≡ old.cpu.undefined
  pub more : ℕ
  pub few : more ≤ spare t.stop (asks s)
  -- of what a read that faults has taken, all but the last byte fits
  pub fits : (k : ℕ) → k < more → IsSome (filled (ecx s) (take k s.input) s.regions)
  pub streams : Passes t more old.streams new.streams
  pub idle : asks s ≡ 0 → new.streams.input ≡ old.streams.input

-- the input failed when less than what the call asks for was taken; the sinks were not called
pub record InputFails (s : State) (before after : Streams) : Type 0 where
  pub taken : ℕ
  pub few : taken < asks s
  pub left : HasLeft (drop taken s.input) before.input after.input
  pub fails : Fails before.input after.input
  pub out : after.out ≡ before.out
  pub err : after.err ≡ before.err

-- a sink failed when a front part of these bytes, which are some, was written
pub record SinkFails (bytes : List ℕ) (old new : StreamView) : Type 0 where
  pub written : ℕ
  pub given : WasGiven (take written bytes) old new
  pub fails : Fails old new
  pub some : bytes ≡ [] → ⊥

-- a sink was given a front part of these bytes, and did not fail
pub record GainsFront (bytes : List ℕ) (old new : StreamView) : Type 0 where
  pub written : ℕ
  pub given : WasGiven (take written bytes) old new
  pub steady : Steady old new

-- memory ran out when at most what the call asks for was taken, and a front part of what it writes was written
pub record MemoryFails (s t : State) (before after : Streams) : Type 0 where
  pub wanted : IsTrue (takes_memory s)
  pub taken : ℕ
  pub few : taken ≤ asks s
  pub input : Leaves (drop taken s.input) before.input after.input
  pub out : GainsFront t.out before.out after.out
  pub err : GainsFront t.err before.err after.err

-- by the object that failed, and only that one; t is the state that the call would have come to
abbrev pub FailsAt : SysError → State → State → Streams → Streams → Type 0
FailsAt Input s t before after = InputFails s before after
FailsAt Out s t before after = SinkFails t.out before.out after.out × (after.input ≡ before.input) × (after.err ≡ before.err)
FailsAt Report s t before after = SinkFails t.err before.err after.err × (after.input ≡ before.input) × (after.out ≡ before.out)
FailsAt Memory s t before after = MemoryFails s t before after

-- the regions after a call from s that failed: as before, but that a read whose input failed may have put first bytes at ecx
abbrev pub LeavesRegions : SysError → State → List Region → Type 0
LeavesRegions Input s regions = (n : ℕ) × (n < asks s) × (filled (ecx s) (take n s.input) s.regions ≡ Some regions)
LeavesRegions Out s regions = regions ≡ s.regions
LeavesRegions Report s regions = regions ≡ s.regions
LeavesRegions Memory s regions = regions ≡ s.regions

-- after an error the processor is as before, and memory but for its regions
abbrev pub CallGives : Result Called SysError → State → State → Machine → Machine → Type 0
CallGives (Ok called) s t old new = Does s t called old new
CallGives (Err e) s t old new = (new.cpu ≡ old.cpu) × (new.memory ≡ record (old.memory) { regions = new.memory.regions })
    × LeavesRegions e s new.memory.regions × FailsAt e s t old.streams new.streams

-- a call gives what the definition says, with what the input has left, where it tells
pub record Calls (result : Result Called SysError) (old new : Machine) : Type 0 where
  pub left : List ℕ
  pub told : Tells left old.streams.input
  pub gives : CallGives result (fed left (state_of old.cpu old.memory)) (after_call (fed left (state_of old.cpu old.memory))) old new
