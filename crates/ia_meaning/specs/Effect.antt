-- What a step does to the machine's words, by what the instruction's act comes to.
use Rattle.std.specs.Prelude.{◌≡◌, ℕ, ◌+◌, Bool, List, Option, Some, None, Result, Ok, Err}
use Rattle.br_word.specs.declared.types.Flags.{Flags}
use Rattle.br_word.specs.declared.types.GuestFault.TheVariants.{Access, Divide}
use Rattle.br_word.specs.Memory.{Region}
use Rattle.br_word.specs.State as state
use Rattle.ia_inst.specs.declared.inst.Inst.{Inst}
use Rattle.ia_inst.specs.Act.{Changes, Act, Completion, Next, Denied, Divided, Called, perform, flags_after, marks_after}
use Rattle.ia_inst.specs.Meaning.{wrap, set_if, meaning}
use Rattle.ia_inst.specs.Step.{next_eip}
use Rattle.guest_mem.specs.View.{MemoryView}
use Rattle.ia_meaning.specs.declared.cpu.Cpu.{Cpu}
use Rattle.ia_meaning.specs.declared.cpu.Outcome.{Outcome}
use Rattle.ia_meaning.specs.declared.cpu.Outcome.TheVariants as outcome
use Rattle.ia_meaning.specs.declared.cpu.Refused.{Refused}
use Rattle.ia_meaning.specs.declared.cpu.Refused.TheVariants as refused
use Rattle.ia_meaning.specs.declared.status.Status.{Status}

-- the processor as an instruction sees it
abbrev pub view : Cpu → state.Processor
view u = record { regs = u.regs; flags = u.flags; df = u.df; marks = u.known }

-- ---- a whole step

-- Where the act goes on, registers, flags, memory and eip are as it says. A fault leaves all as it
-- was, and a trap moves eip past the instruction and nothing else.
abbrev pub Comes : Completion → Outcome → Cpu → MemoryView → Cpu → MemoryView → Type 0
Comes (Next u rs to) outcome.Next old m new n = (view new ≡ u) × (new.eip ≡ next_eip to old.eip) × (n ≡ record m { regions = rs })
Comes (Denied at) (outcome.Fault f) old m new n = (f ≡ Access at) × (view new ≡ view old) × (new.eip ≡ old.eip) × (n ≡ m)
Comes Divided (outcome.Fault f) old m new n = (f ≡ Divide old.eip) × (view new ≡ view old) × (new.eip ≡ old.eip) × (n ≡ m)
Comes (Called n) outcome.Trap old m new after = (view new ≡ view old) × (new.eip ≡ wrap (old.eip + n)) × (after ≡ m)
Comes e o old m new n = ⊥

-- ---- its parts

-- how an act ends that was refused
abbrev pub end_of : Refused → Completion
end_of (refused.Access at) = Denied at
end_of refused.Division = Divided

-- an act goes on with what was read, or it is refused
abbrev pub ends_with : Result ℕ Refused → (ℕ → Completion) → Completion
ends_with (Ok v) go = go v
ends_with (Err r) go = end_of r

-- whatever follows, the act goes on with what was read
abbrev pub GoesOn : ((ℕ → Act) → Act) → Result ℕ Refused → List Region → Type 0
GoesOn act result rs = (go : ℕ → Act) (c : ℕ) (u : state.Processor)
    → perform (act go) c u rs ≡ ends_with result (λ v. perform (go v) c u rs)

-- an act ends so where all was done, or it is refused
abbrev pub or_ends : Result (Unit {0}) Refused → Completion → Completion
or_ends (Ok v) e = e
or_ends (Err r) e = end_of r

-- what a load gives, or where it is refused
abbrev pub Loads : Result ℕ Refused → ℕ → Option ℕ → Type 0
Loads (Ok v) at loaded = loaded ≡ Some v
Loads (Err r) at loaded = (loaded ≡ None) × (r ≡ refused.Access at)

-- what a store leaves: all as it was where it is refused
abbrev pub Stores : Result (Unit {0}) Refused → ℕ → Option (List Region) → MemoryView → MemoryView → Type 0
Stores (Ok v) at stored old new = (stored ≡ Some new.regions) × (new ≡ record old { regions = new.regions })
Stores (Err r) at stored old new = (stored ≡ None) × (r ≡ refused.Access at) × (new ≡ old)

-- whatever follows, the act goes on with the registers and the memory that were written
abbrev pub WritesAs : ((List ℕ → Act) → Act) → Result (Unit {0}) Refused → MemoryView → List ℕ → MemoryView → Type 0
WritesAs act result m regs n = (go : List ℕ → Act) (c : ℕ) (u : state.Processor)
    → perform (act go) c u m.regions ≡ or_ends result (perform (go regs) c u n.regions)

-- whatever follows, the act asks for flags and goes on with their answer
abbrev pub AsksFor : ((Bool → Act) → Act) → Bool → state.Processor → Type 0
AsksFor act result u = (go : Bool → Act) (c : ℕ) (rs : List Region) → perform (act go) c u rs ≡ perform (go result) c u rs

-- what an instruction that does not trap comes to
abbrev pub Goes : Completion → Result (Unit {0}) Refused → Cpu → MemoryView → Cpu → MemoryView → Type 0
Goes (Next u rs to) (Ok v) old m new n = (view new ≡ u) × (new.eip ≡ next_eip to old.eip) × (new.undefined ≡ old.undefined)
    × (n ≡ record m { regions = rs })
Goes (Called k) (Ok v) old m new n = ⊥
Goes (Denied at) (Ok v) old m new n = ⊥
Goes Divided (Ok v) old m new n = ⊥
Goes e (Err r) old m new n = (e ≡ end_of r) × (new ≡ old) × (n ≡ m)

-- an instruction of this length, with the choice of undefined flags
abbrev pub Does : Inst → ℕ → ℕ → Result (Unit {0}) Refused → Cpu → MemoryView → Cpu → MemoryView → Type 0
Does i len c result old m new n = Goes (perform (meaning i len old.regs old.eip old.df) c (view old) m.regions) result old m new n

-- ---- flags

-- the flags after changes, which are left undefined by the choice, and which of them are defined
abbrev pub status_after : Changes → Cpu → ℕ → Status
status_after changes u c = record { flags = flags_after changes u.flags c; known = marks_after changes u.known }

-- each flag becomes a value where it is known, and is left undefined elsewhere
abbrev pub changes_to : Flags → Flags → Changes
changes_to known f = record {
  cf = set_if known.cf f.cf;
  pf = set_if known.pf f.pf;
  zf = set_if known.zf f.zf;
  sf = set_if known.sf f.sf;
  of = set_if known.of f.of;
}
