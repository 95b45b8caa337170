use Rattle.image_laws.proofs.Serving.{Serving, codings_serve}
use Rattle.image_laws.proofs.serves.codings_serve.Goals as goal

pub returns : goal.returns
returns c =
    let laws : Serving = record {
      lifted = c.lifted_blocks.ensures;
      keeps = c.ready_keeps.ensures;
      closed = c.splits_are_closed.ensures;
      listed = c.splits_are_listed.ensures;
      feeds = c.fragment_splits.ensures.feeds;
      narrow = c.sets_are_narrow.ensures.rows;
      numbers = c.sets_are_narrow.ensures.closed;
      parted = c.parted_serve.ensures;
    } in
    codings_serve laws
