use Rattle.sim_laws.proofs.RunsInCode.{run_in_code, step_in_code}
use Rattle.sim_laws.proofs.states.stays_in_code.Goals as goal

pub returns : goal.returns
returns c = record {
  run = run_in_code c.opens_soundly.ensures c.keeps_sound.ensures.run;
  step = step_in_code c.keeps_sound.ensures.step;
}
