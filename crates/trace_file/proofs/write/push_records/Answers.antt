use Rattle.std.proofs.Common.{subst}
use Rattle.std.specs.Prelude.{All}
use Rattle.std.proofs.lemmas.List.{take_all}
use Rattle.std.proofs.lemmas.List.Elements.{All-more}
use Rattle.trace_file.specs.Trace.{AreWords}
use Rattle.trace_file.proofs.Sorted.{edge}
use Rattle.trace_file.proofs.ReadBack.{push_step}
use Rattle.trace_file.proofs.write.push_records.Goals as goal

pub loop-edge-preserved : goal.loop-edge-preserved
loop-edge-preserved c = record {
  bytes = push_step _ _ _ _ c.args.list.now c.loop-edge.edge-index c.loop-edge-test.true c.in_ok-push_word.ensures.bytes c.in_ok-push_word-2.ensures.bytes c.loop-edge.invariant.bytes;
  words = All-more AreWords c.args.list.now c.loop-edge.edge-index (edge 0 0) c.loop-edge-test.true c.loop-edge.invariant.words (c.push_word.ensures.fits, c.push_word-in-loop-edge.ensures.fits);
}

pub returns-clause-words : goal.returns-clause-words
returns-clause-words c = subst (All AreWords) (take_all c.loop-edge.edge-index c.args.list.now c.loop-edge-test.false) c.loop-edge.invariant.words
