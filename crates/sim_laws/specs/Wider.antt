-- A guest with further regions below all of its own, and with other values in the flags that are not defined.
use Rattle.std.specs.Prelude.{◌≡◌, ℕ, ◌+◌, ◌<◌, ◌≤◌, true, List, [], ◌∷◌, ◌++◌, length}
use Rattle.br_word.specs.declared.types.Flags.{Flags}
use Rattle.br_word.specs.Memory.{Region}
use Rattle.br_word.specs.State.{State}
use Rattle.run_model.specs.Run.{run, WellDefined}

-- each region ends below an address
abbrev pub AllLow : ℕ → List Region → Type 0
AllLow low [] = Unit {0}
AllLow low (r ∷ rs) = (r.start + length r.bytes < low) × AllLow low rs

-- each region starts there or above
abbrev pub AllHigh : ℕ → List Region → Type 0
AllHigh low [] = Unit {0}
AllHigh low (r ∷ rs) = (low ≤ r.start) × AllHigh low rs

-- all memory of a state is there or above, and so is its heap
pub record IsHigh (low : ℕ) (s : State) : Type 0 where
  pub regions : AllHigh low s.regions
  pub brk : low ≤ s.brk_start

-- the flags that are defined are the same
pub record Agree (marks a b : Flags) : Type 0 where
  pub cf : marks.cf ≡ true → a.cf ≡ b.cf
  pub pf : marks.pf ≡ true → a.pf ≡ b.pf
  pub zf : marks.zf ≡ true → a.zf ≡ b.zf
  pub sf : marks.sf ≡ true → a.sf ≡ b.sf
  pub of : marks.of ≡ true → a.of ≡ b.of

-- the state with more regions, and with these flags
abbrev pub widen : List Region → Flags → State → State
widen extra fl s = record s { cpu = record (s.cpu) { flags = fl }; regions = extra ++ s.regions }

-- t is like s, but for regions below and for flags that are not defined
pub record Follows (low : ℕ) (extra : List Region) (s t : State) : Type 0 where
  pub flags : Flags
  pub agree : Agree s.cpu.marks flags s.cpu.flags
  pub high : IsHigh low s
  pub same : t ≡ widen extra flags s

-- it stays so along a well-defined run, whatever bits undefined flags take
abbrev pub RunsWider : Type 0
RunsWider = (low : ℕ) (extra : List Region) (n : ℕ) (s : State) (fl : Flags) (choices : List ℕ)
    → AllLow low extra → IsHigh low s → Agree s.cpu.marks fl s.cpu.flags → WellDefined n s
    → Follows low extra (run n s []) (run n (widen extra fl s) choices)
