-- What the places of lines are worth, and where homes and places lie.
use Rattle.std.specs.Prelude.{◌≡◌, ◌≢◌, ℕ, ◌<◌, ◌≤◌, ◌⊎◌, ◌&&◌, ◌||◌, true, false, List, ◌∷◌, ◌++◌, length, get_or, Option, Some, None, Contains}
use Rattle.ssa_form.specs.declared.form.TheConstants.{REGISTERS}
use Rattle.ssa_form.specs.declared.form.Line.{Line}
use Rattle.ssa_form.specs.declared.form.Line.TheVariants.{Gone}
use Rattle.ssa_form.specs.declared.form.Block.{Block}
use Rattle.ssa_form.specs.declared.form.Split.{Split}
use Rattle.ssa_form.specs.Checked.{has_result}
use Rattle.par_moves.specs.declared.locations.Place.{Place}
use Rattle.par_moves.specs.declared.locations.Place.TheVariants.{Slot}
use Rattle.par_moves.specs.Homes.{home_of}
use Rattle.par_moves.specs.Locations.{same_place, InRange, IsKept}
use Rattle.reg_place.specs.Places.{IsSplit, is_in, order, at_end, is_used, place_of, placed}

-- ---- the relation

-- the place of a line
abbrev pub place_at : Block → Split → ℕ → Option Place
place_at b s i = get_or (placed b s) i None

-- of the lines before, one has place k and is used by a line behind, an out or the exit
pub record IsTaken (b : Block) (s : Split) (before behind : List (ℕ × Line)) (k : ℕ) : Type 0 where
  pub holder : ℕ × Line
  pub earlier : Contains before holder
  pub holds : place_at b s holder.0 ≡ Some (place_of k)
  pub used : is_used (at_end b) behind holder.0 ≡ true

-- the first place that is free between these lines
pub record IsFirstFree (b : Block) (s : Split) (before behind : List (ℕ × Line)) (k : ℕ) : Type 0 where
  pub free : IsTaken b s before behind k → ⊥
  pub first : (j : ℕ) → j < k → IsTaken b s before behind j

-- each line of the order that has a result has the first place that is free
abbrev pub ArePlaced : Block → Split → Type 0
ArePlaced b s = (before behind : List (ℕ × Line)) (p : ℕ × Line) → order b s ≡ before ++ p ∷ behind → has_result p.1 ≡ true
    → (k : ℕ) × (place_at b s p.0 ≡ Some (place_of k)) × IsFirstFree b s before behind k

-- the place of line p is not given to line q while p is used behind q
abbrev pub NoneLost : Block → Split → Type 0
NoneLost b s = (before between behind : List (ℕ × Line)) (p q : ℕ × Line) (x : Place)
    → order b s ≡ before ++ p ∷ (between ++ q ∷ behind) → has_result q.1 ≡ true
    → place_at b s p.0 ≡ Some x → place_at b s q.0 ≡ Some x → is_used (at_end b) behind p.0 ≡ false

-- ---- where places and homes lie

-- each line of a split that has a result has one of the first 2048 places, and no other line has one
pub record EachPlaced (b : Block) (s : Split) : Type 0 where
  pub count : length (placed b s) ≡ length b.lines
  pub some : (i : ℕ) → ((is_in s.body i || is_in s.sunk i) && has_result (get_or b.lines i Gone)) ≡ true
      → (k : ℕ) × (k < length b.lines) × (place_at b s i ≡ Some (place_of k))
  pub none : (i : ℕ) → ((is_in s.body i || is_in s.sunk i) && has_result (get_or b.lines i Gone)) ≡ false → place_at b s i ≡ None

-- whatever the split is, a line has a place of lines or none
abbrev pub AreEntries : Block → Split → Type 0
AreEntries b s = (i : ℕ) → (place_at b s i ≡ None) ⊎ ((k : ℕ) × (place_at b s i ≡ Some (place_of k)))

-- a place is neither eax nor ecx, nor a slot below 17 or from 2065 on
pub record PlacesLie : Type 0 where
  pub kept : (k : ℕ) → IsKept (place_of k)
  pub low : (k n : ℕ) → n < 17 → same_place (place_of k) (Slot n) ≡ false
  pub high : (k n : ℕ) → k < 2048 → 2065 ≤ n → same_place (place_of k) (Slot n) ≡ false
  pub fit : (k : ℕ) → k < 2048 → InRange (place_of k)

-- homes are distinct, neither eax nor ecx, no slot from 14 on, and no place of a line
pub record HomesLie : Type 0 where
  pub apart : (u v : ℕ) → u < REGISTERS → v < REGISTERS → u ≢ v → same_place (home_of u) (home_of v) ≡ false
  pub kept : (v : ℕ) → v < REGISTERS → IsKept (home_of v)
  pub slots : (v n : ℕ) → v < REGISTERS → 14 ≤ n → same_place (home_of v) (Slot n) ≡ false
  pub fit : (v : ℕ) → v < REGISTERS → InRange (home_of v)
  pub places : (v k : ℕ) → v < REGISTERS → same_place (home_of v) (place_of k) ≡ false

-- all of a split of a block of at most 2048 lines
abbrev pub OfSplits : (Block → Split → Type 0) → Type 0
OfSplits P = (b : Block) (s : Split) → IsSplit b s → length b.lines ≤ 2048 → P b s
