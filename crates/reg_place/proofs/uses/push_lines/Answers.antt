use Rattle.std.proofs.Common.{◌≡◌, refl, false, arith}
use Rattle.reg_place.specs.Places.{is_in}
use Rattle.reg_place.proofs.Marks.{line_passed}
use Rattle.reg_place.proofs.uses.push_lines.Goals as goal

pub loop-index-preserved-then-not-set-index : goal.loop-index-preserved-then-not-set-index
loop-index-preserved-then-not-set-index c =
    let off : is_in c.args.set.now c.loop-index.index ≡ false = search in
    line_passed c.args.set.now c.args.b.now.lines c.loop-index.index c.loop-index.steps.items c.loop-index.steps.items _ (omega arith) off refl c.loop-index.invariant
