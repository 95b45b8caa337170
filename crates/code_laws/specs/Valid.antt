-- The code of lines, moves and sequences has a spelling: what items_stand asks of it.
use Rattle.std.specs.Prelude.{◌≡◌, ℕ, ◌<◌, List, [], ◌∷◌, IsTrue}
use Rattle.ia_inst.specs.declared.inst.Inst.{Inst}
use Rattle.ia_inst.specs.Canonical.{valid_of}
use Rattle.par_moves.specs.declared.locations.Place.{Place}
use Rattle.par_moves.specs.declared.locations.MoveSource.{MoveSource as Source}
use Rattle.par_moves.specs.Locations.{InRange, IsFit}
use Rattle.ssa_form.specs.declared.form.Line.{Line}
use Rattle.emit_ops.specs.Templates.{move_code, line_code}
use Rattle.ia_encode.specs.declared.item.Dest.{Dest}
use Rattle.ia_encode.specs.Items.{AreDistinct, AreValid, size_of_items}
use Rattle.code_laws.specs.Exchange.{Homes}
use Rattle.par_moves.specs.Homes.{AreHomes, register_homes}
use Rattle.fall_stubs.specs.Exchange.{capture_items, spill_items, restore_items, island_items}
use Rattle.code_laws.specs.Placed.{ValsOf, Laid}

abbrev pub AllValid : List Inst → Type 0
AllValid [] = Unit {0}
AllValid (i ∷ is) = IsTrue (valid_of i) × AllValid is

pub record CodeValid : Type 0 where
  pub line : (limit : ℕ) (home place : ℕ → Place) → Laid limit home place → (i : ℕ) (l : Line) → i < limit → ValsOf limit l →
      AllValid (line_code home place i l)
  pub move : (p : Place) (x : Source) → InRange p → IsFit x → AllValid (move_code p x)
  pub island : (homes : Homes) → AreHomes homes → (bytes : List ℕ) (label : ℕ) (next : Dest) →
      AreValid (island_items homes bytes label next)
  pub labels : (homes : Homes) (bytes : List ℕ) (label : ℕ) (next : Dest) → AreDistinct (island_items homes bytes label next)
  -- with the virtual registers that live in registers
  pub homes : AreHomes register_homes
  pub capture_size : size_of_items (capture_items register_homes) ≡ 101
  pub spill_size : size_of_items (spill_items register_homes) ≡ 18
  pub restore_size : (label : ℕ) → size_of_items (restore_items label) ≡ 118
  pub island_size : (label : ℕ) (next : Dest) → size_of_items (island_items register_homes (0xCD ∷ 0x80 ∷ []) label next) ≡ 244
