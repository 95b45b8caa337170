use Rattle.std.proofs.Common.{◌+◌, ◌<◌, ◌++◌, List, map, length, ◌∙◌, sym, ap, subst, arith}
use Rattle.std.specs.Prelude.{Option}
use Rattle.ia_encode.specs.declared.item.Item.{Item}
use Rattle.ia_encode.specs.declared.item.Item.TheVariants as item
use Rattle.ssa_form.specs.declared.form.Line.{Line}
use Rattle.par_moves.specs.declared.locations.Place.{Place}
use Rattle.par_moves.specs.Homes.{home_of}
use Rattle.reg_place.specs.Places.{is_in}
use Rattle.emit_ops.specs.Placed.{place_at, AreHeld}
use Rattle.emit_ops.specs.Templates.{line_code}
use Rattle.block_make.specs.Choices.{place_in}
use Rattle.block_make.specs.Prepared.{choice_in}
use Rattle.block_make.proofs.Splits.{lines_held}
use Rattle.block_make.proofs.Behind.{lines_left, line_taken, line_left}
use Rattle.block_make.proofs.lines.emit_lines.Goals as goal
use Rattle.block_make.proofs.lines.emit_lines.Goals.{then-set-index+in_ok-emit_line, else-set-index}

pub emit_line-requires : goal.emit_line-requires
emit_line-requires c =
    let of = c.args.of.now in
    let i = c.loop-index.index in
    let n = c.len-index-end.ensures in
    let t = c.loop-index-test.true in
    subst (λ (ps : List (Option Place)). AreHeld ps i c.line.result) (sym c.as_slice-places.ensures.value)
    (subst (λ (l : Line). AreHeld of.places.items i l) (sym c.line.ensures) (lines_held of.block of.split of.places.items c.requires.prepared i (omega (arith, n, t)) (c.requires.done i c.if-set-index.true)))

pub loop-index-preserved : goal.loop-index-preserved
loop-index-preserved c =
    let of = c.args.of.now in
    let i = c.loop-index.index in
    let n = c.len-index-end.ensures in
    let t = c.loop-index-test.true in
    let l : i < length of.block.lines = omega (arith, n, t) in
    let place = place_in (choice_in of) in
    let q = c.requires.prepared.given in
    elim c.if-set-index.branch [
      | then-set-index+in_ok-emit_line w ↦
          line_taken home_of place (is_in c.args.set.now) of.block.lines i _ c.loop-index.p c.if-set-index.p l w.if-set-index.true c.loop-index.invariant
          (w.p-is ∙ w.in_ok-emit_line.ensures.ok
          ∙ ap (λ (ps : List (Option Place)). c.loop-index.p ++ map item.Inst (line_code home_of (place_at ps) i w.line.result)) (c.as_slice-places.ensures.value ∙ q)
          ∙ ap (λ (x : Line). c.loop-index.p ++ map item.Inst (line_code home_of place i x)) w.line.ensures)
      | else-set-index w ↦
          line_left home_of place (is_in c.args.set.now) of.block.lines i _ c.loop-index.p l w.if-set-index.false c.loop-index.invariant
          ∙ ap (λ (xs : List Item). xs ++ lines_left home_of place (is_in c.args.set.now) of.block.lines (i + 1)) (sym w.p-is)
    ]
