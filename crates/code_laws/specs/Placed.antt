-- A list of placed lines, and what its code leaves.
use Rattle.std.specs.Prelude.{◌≡◌, ℕ, ◌+◌, ◌^◌, ◌<◌, ◌≤◌, Bool, true, false, List, [], ◌∷◌, length, ◌⊎◌, ◌≢◌}
use Rattle.br_word.specs.Memory.{Region, HoldBytes}
use Rattle.br_word.specs.State.{State}
use Rattle.par_moves.specs.declared.locations.Place.{Place}
use Rattle.par_moves.specs.Locations.{same_place as place_eq, InRange, IsKept}
use Rattle.par_moves.specs.Homes.{home_of}
use Rattle.reg_place.specs.Places.{place_of}
use Rattle.ssa_form.specs.declared.form.Val.{Val}
use Rattle.ssa_form.specs.declared.form.Val.TheVariants.{Param, Line as Named}
use Rattle.ssa_form.specs.declared.form.Val.TheVariants as val
use Rattle.ssa_form.specs.declared.form.Line.{Line}
use Rattle.ssa_form.specs.declared.form.Line.TheVariants.{Bin, One, Select, Load, Store, Gone}
use Rattle.ssa_form.specs.Value.{Env, fold, AllAllowed}
use Rattle.emit_ops.specs.Sequences.{lines_code}
use Rattle.ia_encode.specs.Items.{StandsAt}
use Rattle.code_laws.specs.Seen.{Cells, Sees, Leads, Quiet}
use Rattle.code_laws.specs.Laws.{Comes}

-- what a value, a line and a list of lines name; last is what outs and exit name
abbrev pub IsNamed : Val → ℕ → Type 0
IsNamed (Param v) j = ⊥
IsNamed (Named k) j = k ≡ j
IsNamed (val.Num n) j = ⊥

abbrev pub Names : Line → ℕ → Type 0
Names (Bin op a b) j = IsNamed a j ⊎ IsNamed b j
Names (One op a) j = IsNamed a j
Names (Select c a b) j = IsNamed c j ⊎ (IsNamed a j ⊎ IsNamed b j)
Names (Load w at) j = IsNamed at j
Names (Store w at a) j = IsNamed at j ⊎ IsNamed a j
Names Gone j = ⊥

-- what is used behind a line is used before it, but for the line's own result
abbrev pub Later : Line → ℕ → ℕ → Type 0 → Type 0
Later (Store w at a) i j U = U
Later Gone i j U = U
Later l i j U = (j ≢ i) × U

abbrev pub Used : (ℕ → Bool) → List (ℕ × Line) → ℕ → Type 0
Used last [] j = last j ≡ true
Used last (p ∷ ps) j = Names p.1 j ⊎ Later p.1 p.0 j (Used last ps j)

-- each region starts there or above
abbrev pub AllHigh : ℕ → List Region → Type 0
AllHigh low [] = Unit {0}
AllHigh low (r ∷ rs) = (low ≤ r.start) × AllHigh low rs

-- a value that code can hold, of at most so many lines
abbrev pub IsVal : ℕ → Val → Type 0
IsVal limit (Param v) = v < 14
IsVal limit (Named j) = j < limit
IsVal limit (val.Num n) = n < 2 ^ 32

abbrev pub ValsOf : ℕ → Line → Type 0
ValsOf limit (Bin op a b) = IsVal limit a × IsVal limit b
ValsOf limit (One op a) = IsVal limit a
ValsOf limit (Select c a b) = IsVal limit c × IsVal limit a × IsVal limit b
ValsOf limit (Load w at) = IsVal limit at
ValsOf limit (Store w at a) = IsVal limit at × IsVal limit a
ValsOf limit Gone = Unit {0}

-- Homes and places are no scratch registers, and no line's place is a home.
pub record Laid (limit : ℕ) (home place : ℕ → Place) : Type 0 where
  pub homes : (v : ℕ) → v < 14 → IsKept (home v)
  pub homes_fit : (v : ℕ) → v < 14 → InRange (home v)
  pub places : (j : ℕ) → j < limit → IsKept (place j)
  pub places_fit : (j : ℕ) → j < limit → InRange (place j)
  pub apart : (v j : ℕ) → v < 14 → j < limit → place_eq (home v) (place j) ≡ false

-- no line that is still used has the place that this line takes
abbrev pub IsSpare : ℕ → (ℕ → Place) → (ℕ → Bool) → Line → ℕ → List (ℕ × Line) → Type 0
IsSpare limit place last (Store w at a) i ps = Unit {0}
IsSpare limit place last Gone i ps = Unit {0}
IsSpare limit place last l i ps = (j : ℕ) → j < limit → Used last ps j → j ≢ i → place_eq (place j) (place i) ≡ false

abbrev pub Safe : ℕ → (ℕ → Place) → (ℕ → Bool) → List (ℕ × Line) → Type 0
Safe limit place last [] = Unit {0}
Safe limit place last (p ∷ ps) = (p.0 < limit) × ValsOf limit p.1 × IsSpare limit place last p.1 p.0 ps × Safe limit place last ps

-- Homes hold the parameters, the place of each line that is still used holds its value, and memory is the value's.
pub record Holds (limit : ℕ) (home place : ℕ → Place) (last : ℕ → Bool) (ps : List (ℕ × Line)) (e : Env) (a : Cells) : Type 0 where
  pub params : (v : ℕ) → v < 14 → a.cell (home v) ≡ e.params v
  pub lines : (j : ℕ) → j < limit → Used last ps j → a.cell (place j) ≡ e.lines j
  pub mem : a.outer ≡ e.mem
  pub high : AllHigh 0x07010000 e.mem
  pub bytes : HoldBytes e.mem

-- no line's place
abbrev pub IsUntaken : ℕ → (ℕ → Place) → Place → Type 0
IsUntaken limit place q = (j : ℕ) → j < limit → place_eq q (place j) ≡ false

-- after lines from a; what is no line's place is as before, as homes and the jump slot
pub record Left (limit : ℕ) (home place : ℕ → Place) (last : ℕ → Bool) (ps : List (ℕ × Line)) (e : Env) (a b : Cells) : Type 0 where
  pub holds : Holds limit home place last ps e b
  pub kept : (q : Place) → InRange q → IsKept q → IsUntaken limit place q → b.cell q ≡ a.cell q
  pub df : b.df ≡ a.df
  pub seen : b.seen ≡ a.seen
  pub brk_start : b.brk_start ≡ a.brk_start
  pub brk : b.brk ≡ a.brk

-- The code of a list of lines leaves what their fold says, after exactly its length in steps.
abbrev pub LinesHold : Region → ℕ → (ℕ → Place) → (ℕ → Place) → (ℕ → Bool) → Type 0
LinesHold code limit home place last = (ps : List (ℕ × Line)) (s : State) (e : Env) (a : Cells) (to : ℕ) (cs : List ℕ) → Sees code s a →
    Safe limit place last ps → Holds limit home place last ps e a → AllAllowed ps e → StandsAt code s.eip (lines_code home place ps) to →
    Leads (Quiet a.seen) (Comes code to (Left limit home place last [] (fold ps e) a)) (length (lines_code home place ps)) s cs

-- ---- homes of virtual registers, and places of lines

-- homes are laid apart from places of lines, whichever each line has
abbrev pub HomesServe : Type 0
HomesServe = (limit : ℕ) (place : ℕ → Place) → ((j : ℕ) → j < limit → (k : ℕ) × (k < 2048) × (place j ≡ place_of k))
    → Laid limit home_of place
