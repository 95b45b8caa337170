-- What an instruction does, one access after another, and what comes of it.
use Rattle.std.specs.Prelude.{ℕ, ◌/◌, ◌%◌, ◌^◌, nat_eq, Bool, true, false, List, [], ◌∷◌, Option, Some, None}
use Rattle.br_word.specs.declared.types.Flags.{Flags}
use Rattle.br_word.specs.Memory.{Region, load, store}
use Rattle.br_word.specs.State.{Processor, Flag, flag_of}

-- what becomes of a flag: it stays, is set to a value, or is left undefined (SDM volume 1, appendix A)
pub data Change : Type 0 where
  Keeps : Change
  Becomes : Bool → Change
  IsLeft : Change

-- what becomes of each
pub record Changes : Type 0 where
  pub cf : Change
  pub pf : Change
  pub zf : Change
  pub sf : Change
  pub of : Change

-- where the next instruction stands (SDM volume 1, 3.5)
pub data NextEip : Type 0 where
  -- behind this one, of so many bytes
  Past : ℕ → NextEip
  -- this one again, as REP does
  Again : NextEip
  -- at a target
  To : ℕ → NextEip

-- All that a step reads and writes, in order. Addresses and values come from the registers, from what
-- was loaded, and from flags that were asked for, and from nothing else.
pub data Act : Type 0 where
  -- so many bytes at an address are read as a number, the lowest first, and the rest goes on with it
  Load : (at size : ℕ) → (ℕ → Act) → Act
  -- the lowest bytes of a number are written
  Store : (at size value : ℕ) → Act → Act
  -- a flag is read, and the rest goes on with it
  Ask : Flag → (Bool → Act) → Act
  -- the divide error exception
  Divides : Act
  -- a system call, by an instruction of so many bytes
  Calls : ℕ → Act
  -- the registers, DF and the flags afterwards, and where the next instruction stands
  Ends : (regs : List ℕ) (df : Bool) (changes : Changes) (to : NextEip) → Act

-- a flag's value afterwards
abbrev pub flag_after : Change → Bool → Bool → Bool
flag_after Keeps old choice = old
flag_after (Becomes b) old choice = b
flag_after IsLeft old choice = choice

-- its mark afterwards
abbrev pub mark_after : Change → Bool → Bool
mark_after Keeps old = old
mark_after (Becomes b) old = true
mark_after IsLeft old = false

-- bit k of a choice
unfoldable pub choice_bit : ℕ → ℕ → Bool
choice_bit k c = nat_eq ((c / 2 ^ k) % 2) 1

-- an undefined flag takes its bit from the choice
abbrev pub flags_after : Changes → Flags → ℕ → Flags
flags_after ch old c = record {
  cf = flag_after ch.cf old.cf (choice_bit 0 c);
  pf = flag_after ch.pf old.pf (choice_bit 1 c);
  zf = flag_after ch.zf old.zf (choice_bit 2 c);
  sf = flag_after ch.sf old.sf (choice_bit 3 c);
  of = flag_after ch.of old.of (choice_bit 4 c);
}

-- a flag is defined where it was set, or was and stays
abbrev pub marks_after : Changes → Flags → Flags
marks_after ch old = record {
  cf = mark_after ch.cf old.cf;
  pf = mark_after ch.pf old.pf;
  zf = mark_after ch.zf old.zf;
  sf = mark_after ch.sf old.sf;
  of = mark_after ch.of old.of;
}

-- what comes of an act, in terms that do not depend on where it stands
pub data Completion : Type 0 where
  -- processor and memory afterwards
  Next : Processor → List Region → NextEip → Completion
  -- the first address of an access that memory does not allow
  Denied : ℕ → Completion
  Divided : Completion
  -- a system call, by an instruction of so many bytes
  Called : ℕ → Completion

-- goes on with what was loaded or stored, where the access was allowed
abbrev pub or_denied : {X : Type 0} → ℕ → Option X → (X → Completion) → Completion
or_denied at None go = Denied at
or_denied at (Some x) go = go x

-- an act done by a processor in memory, with the choice of undefined flags
abbrev pub perform : Act → ℕ → Processor → List Region → Completion
perform (Load at n k) c u rs = or_denied at (load at n rs) (λ v. perform (k v) c u rs)
perform (Store at n v a) c u rs = or_denied at (store at n v rs) (λ rs. perform a c u rs)
perform (Ask f k) c u rs = perform (k (flag_of f u.flags)) c u rs
perform Divides c u rs = Divided
perform (Calls n) c u rs = Called n
perform (Ends regs df ch to) c u rs =
    Next (record { regs = regs; df = df; flags = flags_after ch u.flags c; marks = marks_after ch u.marks }) rs to

-- a fault asks for no further flag
abbrev pub or_none : {X : Type 0} → Option X → (X → List Flag) → List Flag
or_none None go = []
or_none (Some x) go = go x

-- the flags that it reads, in order
abbrev pub asked : Act → Flags → List Region → List Flag
asked (Load at n k) flags rs = or_none (load at n rs) (λ v. asked (k v) flags rs)
asked (Store at n v a) flags rs = or_none (store at n v rs) (λ rs. asked a flags rs)
asked (Ask f k) flags rs = f ∷ asked (k (flag_of f flags)) flags rs
asked Divides flags rs = []
asked (Calls n) flags rs = []
asked (Ends regs df ch to) flags rs = []
