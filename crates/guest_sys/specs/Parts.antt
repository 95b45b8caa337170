-- What the parts of a call do: bytes taken from a source, put into memory, and given to a sink.
use Rattle.std.specs.Prelude.{◌+◌, get_or, set, ◌≡◌, ◌≢◌, ℕ, ◌<◌, ◌≤◌, Bool, true, false, List, [], ◌++◌, length, take, drop, Option, Some, None, IfSome, Result, Ok, Err}
use Rattle.br_word.specs.Memory.{Region, Writes, bytes_at}
use Rattle.br_outside.specs.Outside.{StreamView}
use Rattle.ia_inst.specs.System.{filled}
use Rattle.guest_mem.specs.View.{MemoryView}
use Rattle.ia_meaning.specs.declared.cpu.Cpu.{Cpu}
use Rattle.br_word.specs.declared.types.GuestFault.TheVariants.{Access}
use Rattle.guest_sys.specs.declared.answers.Called.{Called}
use Rattle.guest_sys.specs.declared.answers.Called.TheVariants.{Goes, Fault}
use Rattle.guest_sys.specs.declared.answers.SysError.{SysError}
use Rattle.guest_sys.specs.declared.answers.SysError.TheVariants.{Input, Memory}
use Rattle.br_outside.specs.declared.errors.SinkError.{SinkError}
use Rattle.br_outside.specs.declared.errors.SinkError.TheVariants as sink_errors
use Rattle.guest_sys.specs.Calls.{SinkFails, GainsFront}
use Rattle.br_outside.specs.Streams.{Steady, Fails, Tells, HasLeft, Leaves, Gains}

-- a piece of what a source has left was taken; an empty one means that nothing is left
abbrev pub TakesPiece : List ℕ → StreamView → StreamView → Type 0
TakesPiece piece old new = IfSome old.bytes (λ left. (left ≡ piece ++ drop (length piece) left)
    × (new.bytes ≡ Some (drop (length piece) left)) × (piece ≡ [] → left ≡ []))

-- a source that told has lost so many bytes
abbrev pub HasTakenMore : ℕ → StreamView → StreamView → Type 0
HasTakenMore n old new = IfSome old.bytes (λ left. new.bytes ≡ Some (drop n left))

-- the list has grown by a piece, or the source failed, or memory ran out
abbrev pub AddsPiece : ℕ → Result Bool SysError → List ℕ → List ℕ → StreamView → StreamView → Type 0
AddsPiece room (Ok more) before after old new = (piece : List ℕ) × (after ≡ before ++ piece) × (length piece ≤ room)
    × (more ≡ true → 0 < length piece) × (more ≡ false → piece ≡ []) × TakesPiece piece old new × Steady old new
AddsPiece room (Err Input) before after old new = (new.bytes ≡ old.bytes) × Fails old new
AddsPiece room (Err Memory) before after old new = (n : ℕ) × (n ≤ room) × HasTakenMore n old new × Steady old new
AddsPiece room (Err e) before after old new = ⊥

-- the first bytes that are left, so many of them or all, and the rest left
pub record TakesAll (most : ℕ) (bytes left : List ℕ) (old new : StreamView) : Type 0 where
  pub first : bytes ≡ take most left
  pub rest : Leaves (drop (length bytes) left) old new
  pub idle : most ≡ 0 → new ≡ old

-- fewer bytes than this were taken, and are lost
pub record TakesSome (most : ℕ) (left : List ℕ) (old new : StreamView) : Type 0 where
  pub taken : ℕ
  pub few : taken < most
  pub rest : HasLeft (drop taken left) old new

-- what it comes to that so many bytes are wanted of a source
abbrev pub TakeGives : ℕ → List ℕ → Result (List ℕ) SysError → StreamView → StreamView → Type 0
TakeGives most left (Ok bytes) old new = TakesAll most bytes left old new
TakeGives most left (Err Input) old new = TakesSome most left old new × Fails old new
TakeGives most left (Err Memory) old new = TakesSome (most + 1) left old new × Steady old new
TakeGives most left (Err e) old new = ⊥

-- so many bytes are wanted of a source, with what it has left, where it tells
pub record Takes (most : ℕ) (result : Result (List ℕ) SysError) (old new : StreamView) : Type 0 where
  pub left : List ℕ
  pub told : Tells left old
  pub gives : TakeGives most left result old new

-- memory after bytes were put at an address, where it allows them
pub record HasFilled (at : ℕ) (bytes : List ℕ) (old new : MemoryView) : Type 0 where
  pub regions : filled at bytes old.regions ≡ Some new.regions
  pub rest : new ≡ record old { regions = new.regions }

-- some bytes of a source were put at an address, at most so many; or the source failed
abbrev pub FillsPiece : ℕ → ℕ → Result ℕ SysError → MemoryView → MemoryView → StreamView → StreamView → Type 0
FillsPiece at room (Ok count) m n old new = (bytes : List ℕ) × (length bytes ≡ count) × (count ≤ room) × HasFilled at bytes m n
    × TakesPiece bytes old new × Steady old new
FillsPiece at room (Err Input) m n old new = (n ≡ m) × (new.bytes ≡ old.bytes) × Fails old new
FillsPiece at room (Err e) m n old new = ⊥

-- so many bytes are wanted of a source, and those that were taken stand at an address
abbrev pub Fills : ℕ → ℕ → Result ℕ SysError → MemoryView → MemoryView → StreamView → StreamView → Type 0
Fills at most (Ok count) m n old new = (bytes : List ℕ) × (length bytes ≡ count) × HasFilled at bytes m n × Takes most (Ok bytes) old new
Fills at most (Err Input) m n old new = (takes : Takes most (Err Input) old new) × HasFilled at (take takes.gives.0.taken takes.left) m n
Fills at most (Err e) m n old new = ⊥

-- how many bytes a read may take that asks for `len`: one more than fit, if not all fit
pub record IsWanted (at len : ℕ) (rs : List Region) (most : ℕ) : Type 0 where
  pub within : most ≤ len
  pub fits : (k : ℕ) → k < most → 0 < k → bytes_at Writes at k rs ≢ None
  pub stops : most < len → (0 < most) × (bytes_at Writes at most rs ≡ None)

-- memory after bytes were put there, where that is allowed
abbrev pub Puts : Option (List Region) → Bool → MemoryView → MemoryView → Type 0
Puts None done old new = (done ≡ false) × (new ≡ old)
Puts (Some rs) done old new = (done ≡ true) × (new ≡ record old { regions = rs })

-- a buffer that may be read was given to a sink, or the sink failed, or memory ran out
abbrev pub GivesBuffer : Option (List ℕ) → Result Bool SinkError → StreamView → StreamView → Type 0
GivesBuffer None (Ok done) old new = (done ≡ false) × (new ≡ old)
GivesBuffer (Some bytes) (Ok done) old new = (done ≡ true) × Gains bytes old new
GivesBuffer None (Err e) old new = ⊥
GivesBuffer (Some bytes) (Err sink_errors.Failed) old new = SinkFails bytes old new
GivesBuffer (Some bytes) (Err sink_errors.Memory) old new = GainsFront bytes old new

-- eax answers
abbrev pub with_eax : ℕ → Cpu → Cpu
with_eax value u = record u { regs = set u.regs 0 value }

-- A write to a sink: it answers ecx and leaves all where the buffer may not be read, and edx behind it in eax where it may.
abbrev pub WritesBuffer : Option (List ℕ) → Result Called SinkError → Cpu → Cpu → StreamView → StreamView → Type 0
WritesBuffer None (Ok called) u v old new = (called ≡ Fault (Access (get_or u.regs 1 0))) × (v ≡ u) × (new ≡ old)
WritesBuffer (Some bytes) (Ok called) u v old new = (called ≡ Goes) × (v ≡ with_eax (get_or u.regs 2 0) u) × Gains bytes old new
WritesBuffer None (Err e) u v old new = ⊥
WritesBuffer (Some bytes) (Err sink_errors.Failed) u v old new = (v ≡ u) × SinkFails bytes old new
WritesBuffer (Some bytes) (Err sink_errors.Memory) u v old new = (v ≡ u) × GainsFront bytes old new
