use Rattle.image_laws.proofs.QuickPaths.{linked_run}
use Rattle.image_laws.proofs.quick.linked_run.Goals as goal

pub returns : goal.returns
returns c = linked_run c.fragments_made.ensures c.fragments_quick.ensures c.each_is_made.ensures c.code_is_bytes.ensures c.fragments_run.ensures
