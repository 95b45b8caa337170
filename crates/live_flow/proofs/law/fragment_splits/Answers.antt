use Rattle.live_flow.specs.Live.{any_live, is_live, ways}
use Rattle.stub_sink.specs.Splits.{has_fallback}
use Rattle.live_flow.proofs.Living.{are_live}
use Rattle.live_flow.proofs.Feeding.{feeds}
use Rattle.live_flow.proofs.law.fragment_splits.Goals as goal

pub returns : goal.returns
returns c = record {
  feeds = λ rows sets b i known whole live is. feeds rows sets b i known whole live is;
  splits = λ rows b i known whole is. c.split_serves.ensures.serves b (is_live rows i) (λ v. any_live (is_live rows) v (ways rows i)) (has_fallback b.exit known) whole (feeds rows (is_live rows) b i known whole (are_live rows) is);
}
