use Rattle.std.proofs.Common.{◌≡◌, ◌∙◌, List, ap, arith}
use Rattle.std.proofs.lemmas.List.{with_items_is}
use Rattle.ssa_form.specs.declared.form.Line.{Line}
use Rattle.ssa_form.specs.declared.form.Block.{Block}
use Rattle.ssa_form.specs.Agree.{every}
use Rattle.pass_dead.specs.Names.{set_of}
use Rattle.pass_dead.specs.Needed.{needed, roots_of}
use Rattle.pass_dead.proofs.Steps.{kept_same}
use Rattle.pass_dead.proofs.pruning.prune.Goals as goal

pub returns : goal.returns
returns c =
    let b = c.args.b.now in
    let e : c.as_slice.result.now ≡ c.mark_block.new.marks = c.as_slice.ensures.value ∙ with_items_is c.in_ok-marks.marks c.mark_block.new.marks (omega arith) in
    let k = kept_same b.lines (set_of c.as_slice.result.now) (needed b.lines (roots_of every b)) (λ j l. ap (λ m. set_of m j) e ∙ c.mark_block.ensures j l) in
    let F : List Line → Block = λ ls. record b { lines = ls } in
    ap F (c.in_ok-kept_lines.ensures ∙ k)
