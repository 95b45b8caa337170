use Rattle.image_laws.proofs.Meeting.{Parts, images_meet, images_made}
use Rattle.image_laws.proofs.law.images_meet.Goals as goal

pub returns : goal.returns
returns c =
    let parts : Parts = record {
      stands = c.code_stands.ensures;
      serve = c.codings_serve.ensures;
      laid = c.images_laid.ensures;
      hold = c.images_hold.ensures;
      exchanged = c.states_exchanged.ensures;
    } in
    record { run = images_meet parts; made = images_made parts c.fragments_run.ensures }
