use Rattle.std.proofs.Common.{◌≡◌, ◌-◌, ◌+◌, ◌∙◌, length-set, arith}
use Rattle.std.proofs.lemmas.Fmt.{decimal_digit}
use Rattle.std.proofs.lemmas.List.{drop-set}
use Rattle.top_plan.proofs.Lines.{length_one, length_step, length_ten, digit_first}
use Rattle.top_plan.proofs.line.number_before.Goals as goal

pub overflow_sub-at : goal.overflow_sub-at
overflow_sub-at c = omega (arith, length_ten c.args.number c.ranges.number.fits, length_step c.loop-left.left c.loop-left-test.true c.loop-left.auto.left-fits.fits)

pub loop-left-preserved : goal.loop-left-preserved
loop-left-preserved c =
    let l = c.loop-left in
    let long = length_step l.left c.loop-left-test.true l.auto.left-fits.fits in
    let ten = length_ten c.args.number c.ranges.number.fits in
    let next : l.at - 1 + 1 ≡ l.at = omega arith in (
      omega arith,
      omega arith,
      omega arith,
      length-set l.line (l.at - 1) _ ∙ l.invariant.3,
      rw (drop-set l.line (l.at - 1) _ (omega arith), next) (rw (digit_first l.left _ c.loop-left-test.true l.auto.left-fits.fits) at l.invariant.4),
    )

pub overflow_sub-at-2 : goal.overflow_sub-at-2
overflow_sub-at-2 c = omega (arith, length_ten c.args.number c.ranges.number.fits, length_one c.loop-left.left c.loop-left-test.false)

pub returns-clause-start : goal.returns-clause-start
returns-clause-start c = omega (arith, length_ten c.args.number c.ranges.number.fits, length_one c.loop-left.left c.loop-left-test.false)

pub returns-clause-short : goal.returns-clause-short
returns-clause-short c = omega (arith, length_ten c.args.number c.ranges.number.fits, length_one c.loop-left.left c.loop-left-test.false)

pub returns-clause-written : goal.returns-clause-written
returns-clause-written c =
    let l = c.loop-left in
    let one = length_one l.left c.loop-left-test.false in
    let ten = length_ten c.args.number c.ranges.number.fits in
    let next : l.at - 1 + 1 ≡ l.at = omega arith in
    rw (drop-set l.line (l.at - 1) _ (omega arith), next) (rw (decimal_digit l.left c.loop-left-test.false) at l.invariant.4)
