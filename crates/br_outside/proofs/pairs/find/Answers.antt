use Rattle.br_outside.proofs.Firsts.{content_at}
use Rattle.br_outside.proofs.pairs.find.Goals as goal

pub returns-in-Some : goal.returns-in-Some
returns-in-Some c = rw c.as_slice.ensures.value (content_at _ _ _ c.index-files-place.result c.in-Some.ensures.first c.in-Some.ensures.within)
