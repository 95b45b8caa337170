use Rattle.ia_decode.proofs.FoundSpelled.{found_stands, only_found}
use Rattle.ia_decode.proofs.stands.found_is_spelled.Goals as goal

pub returns-clause-stands : goal.returns-clause-stands
returns-clause-stands c = found_stands

pub returns-clause-only : goal.returns-clause-only
returns-clause-only c = only_found
