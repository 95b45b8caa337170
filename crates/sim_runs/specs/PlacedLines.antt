-- The places that a split's lines have serve its body and its sunk lines.
use Rattle.std.specs.Prelude.{◌≡◌, ℕ, ◌<◌, ◌≤◌, ◌++◌, Bool, false, length, IsTrue}
use Rattle.ssa_form.specs.declared.form.Block.{Block}
use Rattle.ssa_form.specs.declared.form.Split.{Split}
use Rattle.ssa_form.specs.Checked.{checked}
use Rattle.ssa_form.specs.Same.{rows}
use Rattle.par_moves.specs.declared.locations.Place.TheVariants.{Slot}
use Rattle.par_moves.specs.Homes.{home_of}
use Rattle.par_moves.specs.Locations.{same_place}
use Rattle.reg_place.specs.Places.{IsSplit, is_in, placed}
use Rattle.emit_ops.specs.Placed.{place_at}
use Rattle.emit_ops.specs.Sequences.{kept}
use Rattle.sim_runs.specs.Coding.{IsPlace, NoneLost}

-- none is a home, and none is given to another line before its last use
pub record AreServing (b : Block) (s : Split) : Type 0 where
  pub places : (j : ℕ) → IsPlace home_of (place_at (placed b s) j)
  pub lasting : NoneLost b (place_at (placed b s)) (kept (is_in s.body) (rows b) ++ kept (is_in s.sunk) (rows b))

pub record PlacesServe : Type 0 where
  pub serve : (b : Block) (s : Split) → IsTrue (checked b) → length b.lines ≤ 2048 → IsSplit b s → AreServing b s
  -- whatever the split is, none is a slot of a virtual register, of jumps or of moves
  pub clear : (b : Block) (s : Split) (j n : ℕ) → n < 17 → same_place (Slot n) (place_at (placed b s) j) ≡ false
