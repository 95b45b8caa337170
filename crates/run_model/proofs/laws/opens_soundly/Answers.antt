use Rattle.run_model.proofs.SoundOpening.{file_opens}
use Rattle.run_model.proofs.laws.opens_soundly.Goals as goal

pub returns : goal.returns
returns c = file_opens
