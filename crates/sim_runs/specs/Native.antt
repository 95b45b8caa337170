-- A guest with further regions, other undefined flags, other marks and another eip.
use Rattle.std.specs.Prelude.{ℕ, Bool, List, ◌++◌}
use Rattle.br_word.specs.declared.types.Flags.{Flags}
use Rattle.br_word.specs.Memory.{Region}
use Rattle.br_word.specs.State.{State}
use Rattle.ia_inst.specs.Act.{NextEip, Past, Act, Load, Store, Ask, Divides, Calls, Ends}

-- the state with more regions, and with these flags and marks, at this address
abbrev pub placed : List Region → Flags → Flags → ℕ → State → State
placed extra fl mk at s = record s { eip = at; cpu = record (s.cpu) { flags = fl; marks = mk }; regions = extra ++ s.regions }

-- each place to which an act may go
abbrev pub AllEnds : (NextEip → Type 0) → Act → Type 0
AllEnds P (Load at n k) = (v : ℕ) → AllEnds P (k v)
AllEnds P (Store at n v a) = AllEnds P a
AllEnds P (Ask f k) = (b : Bool) → AllEnds P (k b)
AllEnds P Divides = Unit {0}
AllEnds P (Calls n) = P (Past n)
AllEnds P (Ends regs df ch to) = P to
