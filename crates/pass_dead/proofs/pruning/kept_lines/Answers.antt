use Rattle.std.proofs.Common.{◌≡◌, Bool, get_or, drop, ◌+◌, ◌++◌, ◌∷◌, [], sym, ap, ◌∙◌, arith}
use Rattle.std.specs.Prelude.{if◌then◌else◌}
use Rattle.ssa_form.specs.declared.form.Line.TheVariants.{Gone}
use Rattle.pass_dead.specs.Names.{set_of}
use Rattle.pass_dead.specs.Needed.{kept_lines}
use Rattle.pass_dead.proofs.Steps.{kept_more}
use Rattle.pass_dead.proofs.pruning.kept_lines.Goals as goal
use Rattle.pass_dead.proofs.pruning.kept_lines.Goals.{then-marks-index, else-marks-index}

pub loop-index-preserved : goal.loop-index-preserved
loop-index-preserved c =
    let ls = c.args.lines.now in
    let i = c.loop-index.index in
    let keep = set_of c.args.marks.now in
    let is = elim c.if-marks-index.branch as (λ _. c.if-marks-index.push ≡ (if keep i then get_or ls i Gone else Gone)) [
      | then-marks-index w ↦ w.push-is ∙ w.line.ensures ∙ ap (λ (b : Bool). if b then get_or ls i Gone else Gone) (sym w.if-marks-index.true)
      | else-marks-index w ↦ w.push-is ∙ ap (λ (b : Bool). if b then get_or ls i Gone else Gone) (sym w.if-marks-index.false)
    ] in
    ap (λ x. x ++ kept_lines keep (i + 1) (drop (i + 1) ls)) (c.in_ok-push.ensures ∙ ap (λ x. c.loop-index.all ++ x ∷ []) is) ∙ kept_more keep ls c.loop-index.all i (omega arith) ∙ c.loop-index.invariant
