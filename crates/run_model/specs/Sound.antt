-- States whose numbers are those of a machine, and that stay so.
use Rattle.std.specs.Prelude.{◌≡◌, ◌≢◌, ℕ, ◌^◌, ◌<◌, true, false, List, All, Some}
use Rattle.br_word.specs.Memory.{Region, load, store, AreBytes, HoldBytes}
use Rattle.br_word.specs.State.{Processor, State, AreRegs}
use Rattle.ia_inst.specs.Act.{NextEip, Act, Next, perform}
use Rattle.ia_inst.specs.Fits.{IsAddress, Fits}
use Rattle.ia_inst.specs.Step.{found, step}
use Rattle.run_model.specs.Opening.{opening_of}
use Rattle.run_model.specs.Run.{AreOfBytes, run}

-- where a region is executed it is not written, nor does it start where the heap does
abbrev pub IsApart : ℕ → Region → Type 0
IsApart brk_start r = r.perms.exec ≡ true → (r.perms.write ≡ false) × (r.start ≢ brk_start)

-- registers and addresses of 32 bits, bytes in memory and input, and code that no step can change
pub record IsSound (s : State) : Type 0 where
  pub regs : AreRegs s.cpu.regs
  pub eip : s.eip < 2 ^ 32
  pub brk : s.brk < 2 ^ 32
  pub bytes : HoldBytes s.regions
  pub apart : All (IsApart s.brk_start) s.regions
  pub input : AreBytes s.input

-- a sound state follows, and at each address stands what stood there
pub record StaysSound (s t : State) : Type 0 where
  pub sound : IsSound t
  pub code : (a : ℕ) → found a t.regions ≡ found a s.regions

-- a step keeps that, whatever bits undefined flags take, and also where it faults
abbrev pub KeepsSound : Type 0
KeepsSound = (s : State) (c : ℕ) → IsSound s → StaysSound s (step s c)

-- and so does a run
abbrev pub RunsKeepSound : Type 0
RunsKeepSound = (n : ℕ) (s : State) (choices : List ℕ) → IsSound s → StaysSound s (run n s choices)

-- ---- a processor and memory alone

-- an act that fits leaves registers, memory of bytes and an address
abbrev pub ActsKeep : Type 0
ActsKeep = (a : Act) (c : ℕ) (u v : Processor) (rs ss : List Region) (to : NextEip)
    → Fits a → HoldBytes rs → perform a c u rs ≡ Next v ss to
    → AreRegs v.regs × HoldBytes ss × IsAddress to

-- what is loaded fits its size
abbrev pub LoadsFit : Type 0
LoadsFit = (at n : ℕ) (rs : List Region) (v : ℕ) → HoldBytes rs → load at n rs ≡ Some v → v < 256 ^ n

-- what is stored are bytes, of any number
abbrev pub StoresBytes : Type 0
StoresBytes = (at n v : ℕ) (rs ss : List Region) → HoldBytes rs → store at n v rs ≡ Some ss → HoldBytes ss

-- ---- the opening

-- every file of bytes begins soundly, also one that is refused
abbrev pub OpensSoundly : Type 0
OpensSoundly = (file : List ℕ) (words : List (List ℕ)) (input : List ℕ)
    → AreOfBytes file words input → IsSound (opening_of file words input)
