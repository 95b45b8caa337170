use Rattle.ia_inst.proofs.InstFits.{fits}
use Rattle.ia_inst.proofs.laws.each_fits.Goals as goal

pub returns : goal.returns
returns c = fits
