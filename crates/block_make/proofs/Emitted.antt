-- What a prepared block owes to those that append its code.
use Rattle.std.proofs.Common.{◌≡◌, ℕ, ◌+◌, ◌<◌, ◌≤◌, Bool, List, length, get_or, refl, sym, ap, ◌∙◌, subst, arith}
use Rattle.std.specs.Prelude.{All, false}
use Rattle.ssa_form.specs.declared.form.TheConstants.{REGISTERS}
use Rattle.ssa_form.specs.declared.form.Val.TheVariants as val
use Rattle.ssa_form.specs.declared.form.Block.{Block}
use Rattle.ssa_form.specs.declared.form.Split.{Split}
use Rattle.par_moves.specs.declared.locations.PlaceMove.{PlaceMove}
use Rattle.par_moves.specs.declared.locations.Place.{Place}
use Rattle.par_moves.specs.Locations.{same_place, spare}
use Rattle.par_moves.specs.Homes.{home_of}
use Rattle.par_moves.specs.Moves.{sequenced, AreApart}
use Rattle.reg_place.specs.Places.{placed}
use Rattle.emit_ops.specs.Sequences.{live_moves}
use Rattle.emit_ops.specs.Placed.{place_at}
use Rattle.block_make.specs.declared.prepared.Prepared.{Prepared}
use Rattle.block_make.specs.Choices.{place_in}
use Rattle.block_make.specs.Prepared.{ArePlaced, IsPrepared, choice_in}
use Rattle.block_make.proofs.Splits.{IsWhole, whole, found_fits, outs_found}
use Rattle.block_make.proofs.Sequence.{AllFit, fit_sequenced, live_fit, apart, no_spare}

pub as_placed : (b : Block) (s : Split) (places : List (Rattle.std.specs.Prelude.Option Place)) → ArePlaced b s places → ArePlaced b s (placed b s)
as_placed b s places h = record { whole = h.whole; words = h.words; exit = h.exit; few = h.few; split = h.split; given = refl; each = h.each; lie = h.lie; homes = h.homes }

module _ (p : Prepared) (h : IsPrepared p) (live : ℕ → Bool) where
  abbrev pub moved : List PlaceMove
  moved = live_moves home_of (place_in (choice_in p)) live 0 p.block.outs

  count : length p.block.outs ≡ REGISTERS
  count = (whole p.block h.whole).count

  moved_fit : AllFit moved
  moved_fit =
      let n = count in
      live_fit h.homes (place_in (choice_in p)) live 0 p.block.outs (omega (arith, n)) (λ k l. found_fits h.homes (placed p.block p.split) (get_or p.block.outs k (val.Num 0)) (outs_found p.block p.split (placed p.block p.split) (as_placed p.block p.split p.places.items h) k l))

  pub given_apart : (slice : List PlaceMove) → slice ≡ moved → AreApart slice
  given_apart slice e = subst AreApart (sym e) (apart h.homes (place_in (choice_in p)) live p.block.outs count)

  pub given_no_spare : (slice : List PlaceMove) → slice ≡ moved → All (λ m. same_place m.to spare ≡ false) slice
  given_no_spare slice e = subst (λ (ms : List PlaceMove). All (λ m. same_place m.to spare ≡ false) ms) (sym e) (no_spare h.homes (place_in (choice_in p)) live p.block.outs count)

  pub ordered_fit : (slice ordered : List PlaceMove) → slice ≡ moved → ordered ≡ sequenced (length slice) slice → AllFit ordered
  ordered_fit slice ordered e o = subst AllFit (sym (o ∙ ap (λ (ms : List PlaceMove). sequenced (length ms) ms) e)) (fit_sequenced (length moved) moved moved_fit)
