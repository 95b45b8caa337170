use Rattle.std.proofs.Common.{◌≡◌, ℕ, ◌<◌, List, length, get_or, ◌∙◌, sym, ap, subst, arith}
use Rattle.std.specs.Prelude.{Option}
use Rattle.par_moves.specs.declared.locations.PlaceMove.{PlaceMove}
use Rattle.par_moves.specs.Locations.{InRange, IsFit}
use Rattle.block_make.specs.Prepared.{is_live}
use Rattle.block_make.proofs.Sequence.{AllFit, Fits, fit_at}
use Rattle.block_make.proofs.Emitted.{given_apart, given_no_spare, ordered_fit}
use Rattle.block_make.proofs.moves.emit_moves.Goals as goal

pub sequence-requires-clause-apart : goal.sequence-requires-clause-apart
sequence-requires-clause-apart c = given_apart c.args.of.now c.requires (is_live c.args.live) c.as_slice.result.now (c.as_slice.ensures.value ∙ c.in_ok-moves.ensures)

pub sequence-requires-clause-to_spare : goal.sequence-requires-clause-to_spare
sequence-requires-clause-to_spare c = given_no_spare c.args.of.now c.requires (is_live c.args.live) c.as_slice.result.now (c.as_slice.ensures.value ∙ c.in_ok-moves.ensures)

fits_here : (moves : List PlaceMove) (i : ℕ) (x d : PlaceMove) → i < length moves → AllFit moves → x ≡ get_or moves i d → Fits x
fits_here moves i x d l a e = subst Fits (sym e) (fit_at moves i d l a)

pub emit_move-requires-clause-to : goal.emit_move-requires-clause-to
emit_move-requires-clause-to c =
    let all = ordered_fit c.args.of.now c.requires (is_live c.args.live) c.as_slice.result.now c.in_ok-ordered.ordered.items (c.as_slice.ensures.value ∙ c.in_ok-moves.ensures) c.in_ok-ordered.ensures.order in
    let n = c.len-index-end.ensures in
    let t = c.loop-index-test.true in
    (fits_here c.in_ok-ordered.ordered.items c.loop-index.index c.index.result.now _ (omega (arith, n, t)) all c.index.ensures).0

pub emit_move-requires-clause-from : goal.emit_move-requires-clause-from
emit_move-requires-clause-from c =
    let all = ordered_fit c.args.of.now c.requires (is_live c.args.live) c.as_slice.result.now c.in_ok-ordered.ordered.items (c.as_slice.ensures.value ∙ c.in_ok-moves.ensures) c.in_ok-ordered.ensures.order in
    let n = c.len-index-end.ensures in
    let t = c.loop-index-test.true in
    (fits_here c.in_ok-ordered.ordered.items c.loop-index.index c.index.result.now _ (omega (arith, n, t)) all c.index.ensures).1
