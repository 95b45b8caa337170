use Rattle.std.proofs.Common.{◌≡◌, ◌+◌, ◌≤◌, true, length, sym, subst, ◌∙◌, ap}
use Rattle.ssa_form.specs.declared.form.Block.{Block}
use Rattle.ssa_form.specs.Checked.{checked}
use Rattle.lift_alu.specs.Lifted.{lifted}
use Rattle.lift_alu.proofs.Closed.{lifted_made}
use Rattle.lift_alu.proofs.Costs.{few_lines}
use Rattle.lift_alu.proofs.Kept.{lifted_checked}
use Rattle.lift_alu.proofs.Words.{lifted_words}
use Rattle.ssa_form.specs.Same.{SpellsWords}
use Rattle.lift_alu.proofs.lift.lift_inst.Goals as goal

pub returns : goal.returns
returns c =
    let i = c.args.inst.now in
    let old = c.args.block.now in
    let t = c.append.new.row in
    let same : c.close.new.block ≡ lifted i c.args.at c.args.len old =
    c.close.ensures.block
    ∙ ap (λ (b : Block). record b { lines = t.lines.items; outs = t.outs; exit = c.exit_of-exit.result }) c.in_ok-row.ensures.block
    ∙ lifted_made i c.args.at c.args.len old _ t c.exit_of-exit.result c.in_ok-row.ensures.rowed c.append.ensures c.exit_of-exit.ensures c.close.ensures.count in
    record {
      lines = same;
      few = subst (λ (b : Block). length b.lines ≤ length old.lines + 32) (sym same) (few_lines i c.args.at c.args.len old);
      whole = λ h. subst (λ (b : Block). checked b ≡ true) (sym same) (lifted_checked i c.args.at c.args.len old h);
      words = λ h w. subst SpellsWords (sym same) (lifted_words i c.args.at c.args.len old h w);
    }
