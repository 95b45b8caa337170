-- What the code of a line asks of the places of its block's lines.
use Rattle.std.specs.Prelude.{ℕ, ◌<◌, ◌^◌, List, Option, Some, None, slice_get}
use Rattle.ssa_form.specs.declared.form.Val.{Val}
use Rattle.ssa_form.specs.declared.form.Val.TheVariants as val
use Rattle.ssa_form.specs.declared.form.Line.{Line}
use Rattle.ssa_form.specs.declared.form.Line.TheVariants.{Bin, One, Select, Load, Store, Gone}
use Rattle.ssa_form.specs.declared.form.TheConstants.{REGISTERS}
use Rattle.par_moves.specs.declared.locations.Place.{Place}
use Rattle.par_moves.specs.declared.locations.Place.TheVariants.{Slot}
use Rattle.par_moves.specs.Locations.{InRange, IsKept}

-- the place of a line; one that has none gives no result, and its code is the same whatever stands for it
abbrev pub place_or : Option (Option Place) → Place
place_or None = Slot 17
place_or (Some None) = Slot 17
place_or (Some (Some p)) = p

abbrev pub place_at : List (Option Place) → ℕ → Place
place_at places i = place_or (slice_get places i)

-- a place that a line may have: edx, ebx, ebp, esi, edi or a slot
abbrev pub IsPlace : Option (Option Place) → Type 0
IsPlace None = ⊥
IsPlace (Some None) = ⊥
IsPlace (Some (Some p)) = InRange p × IsKept p

abbrev pub HasPlace : List (Option Place) → ℕ → Type 0
HasPlace places i = IsPlace (slice_get places i)

-- a value is held somewhere
abbrev pub IsHeld : List (Option Place) → Val → Type 0
IsHeld places (val.Param v) = v < REGISTERS
IsHeld places (val.Line j) = HasPlace places j
IsHeld places (val.Num n) = n < 2 ^ 32

-- so are a line's operands, and its result has a place
abbrev pub AreHeld : List (Option Place) → ℕ → Line → Type 0
AreHeld places i (Bin op a b) = IsHeld places a × IsHeld places b × HasPlace places i
AreHeld places i (One op a) = IsHeld places a × HasPlace places i
AreHeld places i (Select c a b) = IsHeld places c × IsHeld places a × IsHeld places b × HasPlace places i
AreHeld places i (Load w at) = IsHeld places at × HasPlace places i
AreHeld places i (Store w at a) = IsHeld places at × IsHeld places a
AreHeld places i Gone = Unit {0}
