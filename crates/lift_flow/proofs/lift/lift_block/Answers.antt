use Rattle.std.proofs.Common.{◌≡◌, ◌≢◌, ◌∙◌, length, ap, arith}
use Rattle.block_cut.specs.declared.ends.Cut.{Cut}
use Rattle.block_cut.specs.declared.ends.End.TheVariants.{Island}
use Rattle.block_cut.specs.Blocks.{block_of}
use Rattle.ssa_form.specs.declared.form.Block.{Block}
use Rattle.ssa_form.specs.Checked.{checked}
use Rattle.lift_flow.specs.LiftedBlock.{lifted_all}
use Rattle.lift_flow.proofs.Lifting.{block_count, plain_is}
use Rattle.lift_flow.proofs.lift.lift_block.Goals as goal

pub lift_all-requires : goal.lift_all-requires
lift_all-requires c =
    let count : c.cut-cut.result.count ≡ length (block_of c.args.exe.now c.args.start).insts = ap (λ (x : Cut). x.count) c.cut-cut.ensures.block in
    let most = block_count c.one_block.ensures c.args.exe.now c.args.start in
    record {
      guest = c.requires.guest;
      code = c.requires.code;
      one = c.one_block.ensures;
      count = count;
      few = omega arith;
      none = ap (λ (b : Block). length b.lines) c.blank-block.ensures.lines;
      whole = ap checked c.blank-block.ensures.lines;
      words = c.blank-block.ensures.words;
    }

pub returns-in_ok-lift_all-in_default : goal.returns-in_ok-lift_all-in_default
returns-in_ok-lift_all-in_default c =
    let plain : (block_of c.args.exe.now c.args.start).end ≢ Island = λ e. c.in_default.not-Island (ap (λ (x : Cut). x.end) c.cut-cut.ensures.block ∙ e) in
    record {
      lines = plain_is c.args.exe.now c.args.start c.lift_all.new.block plain
          (c.in_ok-lift_all-in_default.ensures.lines ∙ ap (λ (b : Block). lifted_all (block_of c.args.exe.now c.args.start).insts b) c.blank-block.ensures.lines);
      few = c.lift_all.ensures.few;
      whole = c.lift_all.ensures.whole;
      words = c.lift_all.ensures.words;
    }
