use Rattle.run_model.proofs.KeptStates.{step_stays, run_stays, act_keeps}
use Rattle.run_model.proofs.laws.keeps_sound.Goals as goal

pub returns : goal.returns
returns c = record { step = λ s k h. step_stays c.each_fits.ensures c.read_is_valid.ensures s h k; run = run_stays c.each_fits.ensures c.read_is_valid.ensures; act = act_keeps }
