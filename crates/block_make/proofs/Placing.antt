-- A block and the split of a key, with their places, are prepared.
use Rattle.std.proofs.Common.{◌≡◌, ℕ, ◌≤◌, true, List, length, Option}
use Rattle.ssa_form.specs.declared.form.Split.{Split}
use Rattle.pass_dead.proofs.Bools.{or_left, or_right}
use Rattle.ssa_form.specs.declared.form.Block.{Block}
use Rattle.ssa_form.specs.declared.form.BlockKey.{BlockKey}
use Rattle.ssa_form.specs.Checked.{checked}
use Rattle.ssa_form.specs.Same.{SpellsWords}
use Rattle.stub_sink.specs.Splits.{split_of}
use Rattle.par_moves.specs.declared.locations.Place.{Place}
use Rattle.reg_place.specs.Laws.{EachPlaced, HomesLie, OfSplits, PlacesLie}
use Rattle.reg_place.specs.Places.{is_in, placed}
use Rattle.block_make.specs.Laws.{SplitsAreClosed}
use Rattle.block_make.specs.Prepared.{SpellsFew, is_done, ArePlaced}
use Rattle.block_make.proofs.Closing.{split_is}

pub placed_so : SplitsAreClosed → OfSplits EachPlaced → PlacesLie → HomesLie → (b : Block) (key : BlockKey) (places : List (Option Place)) → checked b ≡ true → SpellsWords b → SpellsFew b.exit → length b.lines ≤ 2048 → places ≡ placed b (split_of b key) → ArePlaced b (split_of b key) places
placed_so closed each lie homes b key places c w x f p =
    let split = split_is closed b key c in
    record { whole = c; words = w; exit = x; few = f; split = split; given = p; each = each b (split_of b key) split f; lie = lie; homes = homes }

pub body_done : (s : Split) (i : ℕ) → is_in s.body i ≡ true → is_done s i ≡ true
body_done s i e = or_left (is_in s.body i) (is_in s.sunk i) e

pub sunk_done : (s : Split) (i : ℕ) → is_in s.sunk i ≡ true → is_done s i ≡ true
sunk_done s i e = or_right (is_in s.body i) (is_in s.sunk i) e
