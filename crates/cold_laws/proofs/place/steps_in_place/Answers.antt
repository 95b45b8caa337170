use Rattle.cold_laws.proofs.Turns.{steps_in_place}
use Rattle.cold_laws.proofs.place.steps_in_place.Goals as goal

pub returns : goal.returns
returns c = steps_in_place c.encoding_decides.ensures c.encoding_length.ensures c.goes_by_kind.ensures c.stays_in_code.ensures.step
