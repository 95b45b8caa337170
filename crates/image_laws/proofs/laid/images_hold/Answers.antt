use Rattle.image_laws.proofs.Laying.{images_hold}
use Rattle.image_laws.proofs.laid.images_hold.Goals as goal

pub returns : goal.returns
returns c = images_hold
