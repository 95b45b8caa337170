-- A choice whose split serves the block that becomes code serves the block that was lifted.
use Rattle.std.specs.Prelude.{◌≡◌, ℕ, ◌≤◌, Bool, length, IsTrue}
use Rattle.par_moves.specs.declared.locations.Place.{Place}
use Rattle.par_moves.specs.Homes.{home_of}
use Rattle.ssa_form.specs.declared.form.Block.{Block}
use Rattle.ssa_form.specs.Checked.{checked}
use Rattle.ssa_form.specs.Same.{SpellsWords, KeepsMeaning}
use Rattle.stub_sink.specs.Serving.{IsSplit}
use Rattle.reg_place.specs.Places.{is_in, IsSplit as IsListed}
use Rattle.block_make.specs.Choices.{Choice}
use Rattle.sim_runs.specs.Coding.{SameKind, Exits, Serves}
use Rattle.piece_laws.specs.Choices.{coding_of}

-- its block is checked, of few lines and of words, and stands in the other's place
pub record StandsFor (b : Block) (c : Choice) : Type 0 where
  pub whole : IsTrue (checked c.block)
  pub words : SpellsWords c.block
  pub few : length c.block.lines ≤ 2048
  pub kind : SameKind b.exit c.block.exit
  pub same : KeepsMeaning b c.block

-- from the registers that are on, for those that are live at known exits, and for all where a way out is not known
abbrev pub PartedServe : Type 0
PartedServe = (home : ℕ → Place) (on : ℕ → Bool) (exits : Exits) (b : Block) (c : Choice)
    → ((v : ℕ) → home v ≡ home_of v) → StandsFor b c → IsListed c.block c.split
    → IsSplit on exits.live exits.unknown c.block (is_in c.split.body) (is_in c.split.sunk)
    → Serves home on b exits (coding_of c)
