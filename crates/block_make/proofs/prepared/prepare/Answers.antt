use Rattle.std.proofs.Common.{sym, subst, ap, ◌∙◌}
use Rattle.ssa_form.specs.declared.form.Split.{Split}
use Rattle.reg_place.specs.Places.{IsSplit, placed}
use Rattle.block_make.specs.Prepared.{ArePlaced}
use Rattle.block_make.proofs.Closing.{split_is}
use Rattle.block_make.proofs.Placing.{placed_so}
use Rattle.block_make.proofs.prepared.prepare.Goals as goal

pub place-requires : goal.place-requires
place-requires c =
    let b = c.in_ok-block.block in
    record {
      checked = c.in_ok-block.ensures.whole;
      few = c.in_ok-block.ensures.few;
      split = subst (λ (s : Split). IsSplit b s) (sym c.in_ok-split.ensures) (split_is c.splits_are_closed.ensures b c.args.key.now c.in_ok-block.ensures.whole);
    }

pub returns-clause-prepared : goal.returns-clause-prepared
returns-clause-prepared c =
    let b = c.in_ok-block.block in
    subst (λ (s : Split). ArePlaced b s c.in_ok-places.places.items) (sym c.in_ok-split.ensures)
    (placed_so c.splits_are_closed.ensures c.lines_placed.ensures.each c.places_lie.ensures.places c.places_lie.ensures.homes b c.args.key.now c.in_ok-places.places.items c.in_ok-block.ensures.whole c.in_ok-block.ensures.words c.in_ok-block.ensures.exit c.in_ok-block.ensures.few
    (c.in_ok-places.ensures ∙ ap (λ (s : Split). placed b s) c.in_ok-split.ensures))
