-- What becomes code of a block: which block, which of its lines are done before the exit, which only on the way to the original, and
-- where their results are kept.
use Rattle.std.specs.Prelude.{ℕ}
use Rattle.elf_read.specs.declared.exe.Exe.{Exe}
use Rattle.ssa_form.specs.declared.form.Block.{Block}
use Rattle.ssa_form.specs.declared.form.BlockKey.{BlockKey}
use Rattle.ssa_form.specs.declared.form.Split.{Split}
use Rattle.pass_copy.specs.Folded.{folded}
use Rattle.pass_dead.specs.Needed.{pruned}
use Rattle.stub_sink.specs.Splits.{split_of}
use Rattle.lift_flow.specs.LiftedBlock.{lift_of}
use Rattle.par_moves.specs.declared.locations.Place.{Place}
use Rattle.reg_place.specs.Places.{placed}
use Rattle.emit_ops.specs.Placed.{place_at}

-- the block of a start whose lines become code: as it was lifted, folded, and without the lines that nothing needs
unfoldable pub ready : Exe → ℕ → Block
ready exe start = pruned (folded (lift_of exe start))

-- a block, and what was chosen of it
pub record Choice : Type 0 where
  pub block : Block
  pub split : Split

-- by executable and key
abbrev pub choice_of : Exe → BlockKey → Choice
choice_of exe key = record { block = ready exe key.start; split = split_of (ready exe key.start) key }

-- where the result of a line is kept
abbrev pub place_in : Choice → ℕ → Place
place_in c = place_at (placed c.block c.split)
