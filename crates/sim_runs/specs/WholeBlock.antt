-- A coding that runs every line of a block, in any places that serve.
use Rattle.std.specs.Prelude.{◌≡◌, ℕ, ◌<◌, ◌≤◌, Bool, true, false, length, IsTrue}
use Rattle.par_moves.specs.declared.locations.Place.{Place}
use Rattle.ssa_form.specs.declared.form.Exit.{Exit}
use Rattle.ssa_form.specs.declared.form.Exit.TheVariants.{Jump, Cond, Way, Island}
use Rattle.ssa_form.specs.declared.form.Block.{Block}
use Rattle.ssa_form.specs.Checked.{checked}
use Rattle.ssa_form.specs.Same.{rows}
use Rattle.sim_runs.specs.Coding.{Exits, IsPlace, NoneLost, Serves}

-- an exit of a block that is not native
abbrev pub IsWay : Exit → Type 0
IsWay (Jump to) = Unit {0}
IsWay (Cond t taken next) = Unit {0}
IsWay (Way v) = Unit {0}
IsWay (Island len) = ⊥

-- every line of a block is in the body and none is sunk, and no line's place is a home or given to another before its last use
pub record TakesAll (home : ℕ → Place) (b : Block) (body sunk : ℕ → Bool) (place : ℕ → Place) : Type 0 where
  pub taken : (j : ℕ) → j < length b.lines → body j ≡ true
  pub none : (j : ℕ) → sunk j ≡ false
  pub places : (j : ℕ) → j < length b.lines → IsPlace home (place j)
  pub lasting : NoneLost b place (rows b)

-- where all virtual registers are live, it serves each block whose names stand for something, whatever its exits are
abbrev pub AllLinesServe : Type 0
AllLinesServe = (home : ℕ → Place) (b : Block) (on body sunk : ℕ → Bool) (place : ℕ → Place) (exits : Exits)
    → IsTrue (checked b) → length b.lines ≤ 2048 → IsWay b.exit
    → ((v : ℕ) → v < 14 → on v ≡ true) → TakesAll home b body sunk place
    → Serves home on b exits (record { block = b; body = body; sunk = sunk; place = place })
