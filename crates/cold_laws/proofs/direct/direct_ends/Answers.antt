use Rattle.cold_laws.proofs.Parts.{parts_lead, ends_by_jmp, ends_by_call_rel}
use Rattle.cold_laws.proofs.Branch.{ends_by_jcc}
use Rattle.cold_laws.proofs.AllEnds.{all_ends}
use Rattle.cold_laws.proofs.direct.direct_ends.Goals as goal

pub returns-clause-parts : goal.returns-clause-parts
returns-clause-parts c = parts_lead c.captures_joined.ensures.enters

pub returns-clause-jmp : goal.returns-clause-jmp
returns-clause-jmp c = ends_by_jmp c.captures_joined.ensures.enters c.stays_in_code.ensures.step

pub returns-clause-call : goal.returns-clause-call
returns-clause-call c = ends_by_call_rel c.captures_joined.ensures.enters c.stays_in_code.ensures.step

pub returns-clause-jcc : goal.returns-clause-jcc
returns-clause-jcc c = ends_by_jcc c.captures_joined.ensures.enters c.stays_in_code.ensures.step

pub returns-clause-whole : goal.returns-clause-whole
returns-clause-whole c = all_ends c.captures_joined.ensures.enters c.stays_in_code.ensures.step
