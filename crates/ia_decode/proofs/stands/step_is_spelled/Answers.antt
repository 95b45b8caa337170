use Rattle.ia_decode.proofs.FoundSpelled.{step_stands, only_step}
use Rattle.ia_decode.proofs.stands.step_is_spelled.Goals as goal

pub returns-clause-stands : goal.returns-clause-stands
returns-clause-stands c = step_stands

pub returns-clause-only : goal.returns-clause-only
returns-clause-only c = only_step
