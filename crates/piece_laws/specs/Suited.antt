-- Which choices suit.
use Rattle.std.specs.Prelude.{IsTrue}
use Rattle.ssa_form.specs.Checked.{checked}
use Rattle.ssa_form.specs.Same.{SpellsWords}
use Rattle.block_make.specs.Choices.{Choice}
use Rattle.piece_laws.specs.Choices.{Suits}

-- every one of a checked block whose numbers have 32 bits, whatever its split
abbrev pub SuitsHold : Type 0
SuitsHold = (c : Choice) → IsTrue (checked c.block) → SpellsWords c.block → Suits c
