-- No place is the slot of indirect side exits.
use Rattle.std.proofs.Common.{arith}
use Rattle.block_make.specs.declared.fragment.TheConstants.{JUMP_SLOT}
use Rattle.sim_runs.specs.PlacedLines.{PlacesServe}
use Rattle.piece_laws.specs.Suited.{SuitsHold}

pub suits_hold : PlacesServe → SuitsHold
suits_hold places c ok words = record { checked = ok; words = words; clear = λ j l. places.clear c.block c.split j JUMP_SLOT (omega arith) }
