use Rattle.image_laws.proofs.QuickPaths.{Quickly, images_quick}
use Rattle.image_laws.proofs.quick.images_quick.Goals as goal

pub returns : goal.returns
returns c =
    let laws : Quickly = record {
      parts = record {
        stands = c.code_stands.ensures;
        serve = c.codings_serve.ensures;
        laid = c.images_laid.ensures;
        hold = c.images_hold.ensures;
        exchanged = c.states_exchanged.ensures;
      };
      run = c.linked_run.ensures;
    } in
    images_quick laws
