use Rattle.std.proofs.Common.{◌≡◌, Some, arith, inl, sym, ◌∙◌}
use Rattle.block_cut.specs.Blocks.{follow_of}
use Rattle.flow_graph.specs.CutStarts.{has_start}
use Rattle.flow_graph.proofs.StartSets.{adds, cut_more, sound_more, closed_more, added_more, reached_more}
use Rattle.flow_graph.proofs.block_starts.add_start.Goals as goal

pub loop-block-preserved : goal.loop-block-preserved
loop-block-preserved c =
    let i = c.loop-block.invariant in
    let a = adds c.loop-block.blocks c.keep.new.blocks c.loop-block.next c.known_or_cut-block.result c.in_ok-keep.ensures.updates in
    let f : follow_of c.args.exe.now c.loop-block.next ≡ Some c.in-Some.t = sym c.start_behind.ensures.value ∙ c.in-Some.is in
    record {
      few = omega arith;
      code = c.in-Some.ensures.code;
      cut = cut_more c.args.exe.now c.loop-block.blocks c.keep.new.blocks c.loop-block.next c.known_or_cut-block.result c.in_ok-keep.ensures.updates (record { code = i.code; cut = c.known_or_cut-block.ensures }) i.cut;
      reached = reached_more c.args.exe.now c.args.start c.loop-block.next c.in-Some.t i.reached f;
      sound = sound_more c.args.exe.now (has_start c.args.blocks.now) (has_start c.loop-block.blocks) (has_start c.keep.new.blocks) c.args.start c.loop-block.next a i.reached i.sound;
      keeps = λ t h. a.keeps t (i.keeps t h);
      added = inl (added_more (has_start c.loop-block.blocks) (has_start c.keep.new.blocks) c.args.start c.loop-block.next a i.added);
      closed = closed_more c.args.exe.now (has_start c.loop-block.blocks) (has_start c.keep.new.blocks) c.loop-block.next c.in-Some.t a f i.closed;
    }
