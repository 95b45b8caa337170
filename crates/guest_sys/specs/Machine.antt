-- A guest's processor, memory and streams, and the state that they hold.
use Rattle.std.specs.Prelude.{ℕ, List, []}
use Rattle.br_word.specs.State.{State, Running}
use Rattle.br_outside.specs.Outside.{StreamView}
use Rattle.guest_mem.specs.View.{MemoryView}
use Rattle.ia_meaning.specs.declared.cpu.Cpu.{Cpu}
use Rattle.ia_meaning.specs.Effect.{view}
use Rattle.br_outside.specs.Streams.{Streams}

-- a processor, a memory and the streams
pub record Machine : Type 0 where
  pub cpu : Cpu
  pub memory : MemoryView
  pub streams : Streams

-- the same by its parts: the input and the outputs of descriptors 1 and 2
abbrev pub machine : Cpu → MemoryView → StreamView → StreamView → StreamView → Machine
machine u m i o e = record { cpu = u; memory = m; streams = record { input = i; out = o; err = e } }

-- a processor and a memory as the state of a guest that runs, without its streams
abbrev pub state_of : Cpu → MemoryView → State
state_of u m = record {
  eip = u.eip;
  cpu = view u;
  regions = m.regions;
  brk_start = m.brk_start;
  brk = m.brk;
  input = [];
  out = [];
  err = [];
  stop = Running;
}

-- the state with this input left
abbrev pub fed : List ℕ → State → State
fed left s = record s { input = left }

-- a state without its streams
abbrev pub bare : State → State
bare s = record s { input = []; out = []; err = [] }
