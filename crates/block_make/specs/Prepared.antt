-- A block that is being made into code, as its functions hold it.
use Rattle.std.specs.Prelude.{◌≡◌, ℕ, ◌^◌, ◌<◌, ◌≤◌, Bool, true, length, List, ◌||◌, Option}
use Rattle.ssa_form.specs.Checked.{checked}
use Rattle.ssa_form.specs.Same.{IsWord, SpellsWords}
use Rattle.ssa_form.specs.declared.form.TheConstants.{REGISTERS}
use Rattle.ssa_form.specs.declared.form.Val.{Val}
use Rattle.ssa_form.specs.declared.form.Val.TheVariants as val
use Rattle.ssa_form.specs.declared.form.Exit.{Exit}
use Rattle.ssa_form.specs.declared.form.Exit.TheVariants.{Jump, Cond, Way, Island}
use Rattle.reg_place.specs.Laws.{EachPlaced, HomesLie, PlacesLie}
use Rattle.reg_place.specs.Places.{is_in, IsSplit, placed}
use Rattle.ssa_form.specs.declared.form.Block.{Block}
use Rattle.ssa_form.specs.declared.form.Split.{Split}
use Rattle.par_moves.specs.declared.locations.Place.{Place}
use Rattle.par_moves.specs.Locations.{InRange}
use Rattle.emit_ops.specs.Placed.{place_at}
use Rattle.block_make.specs.declared.prepared.Prepared.{Prepared}
use Rattle.block_make.specs.declared.moves.Live.{Live}
use Rattle.block_make.specs.declared.moves.Live.TheVariants.{All, Of}
use Rattle.block_make.specs.Choices.{Choice}
use Rattle.block_make.specs.Keys.{has}

-- what was chosen
abbrev pub choice_in : Prepared → Choice
choice_in p = record { block = p.block; split = p.split }

-- the numbers that an exit spells out: a word, and the bytes of an instruction
abbrev pub SpellsFew : Exit → Type 0
SpellsFew (Jump to) = Unit {0}
SpellsFew (Cond test taken next) = IsWord test
SpellsFew (Way v) = IsWord v
SpellsFew (Island len) = len < 256

-- the value of a name is where an instruction can read it
abbrev pub IsFound : List (Option Place) → Val → Type 0
IsFound places (val.Param v) = v < REGISTERS
IsFound places (val.Line j) = InRange (place_at places j)
IsFound places (val.Num n) = n < 2 ^ 32

-- a line is done on some way
abbrev pub is_done : Split → ℕ → Bool
is_done s i = is_in s.body i || is_in s.sunk i

-- a whole block of few lines, its split, which has with a line the lines that it names, and the places of its lines
pub record ArePlaced (b : Block) (s : Split) (places : List (Option Place)) : Type 0 where
  pub whole : checked b ≡ true
  pub words : SpellsWords b
  pub exit : SpellsFew b.exit
  pub few : length b.lines ≤ 2048
  pub split : IsSplit b s
  pub given : places ≡ placed b s
  -- what is known of these places, and of homes
  pub each : EachPlaced b s
  pub lie : PlacesLie
  pub homes : HomesLie

abbrev pub IsPrepared : Prepared → Type 0
IsPrepared p = ArePlaced p.block p.split p.places.items

-- the virtual registers that are live
abbrev pub is_live : Live → ℕ → Bool
is_live All = λ v. true
is_live (Of set) = has set
