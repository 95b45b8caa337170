use Rattle.cold_laws.proofs.Leaving.{ends_by_call, ends_by_ret, ends_by_jmp_mem, ends_by_jmp_reg, ends_by_call_reg}
use Rattle.cold_laws.proofs.leave.ends_in_place.Goals as goal

pub returns-clause-call : goal.returns-clause-call
returns-clause-call c = ends_by_call c.stays_in_code.ensures.step

pub returns-clause-ret : goal.returns-clause-ret
returns-clause-ret c = ends_by_ret c.stays_in_code.ensures.step

pub returns-clause-jmp : goal.returns-clause-jmp
returns-clause-jmp c = ends_by_jmp_mem c.stays_in_code.ensures.step

pub returns-clause-jmp_reg : goal.returns-clause-jmp_reg
returns-clause-jmp_reg c = ends_by_jmp_reg c.stays_in_code.ensures.step

pub returns-clause-call_reg : goal.returns-clause-call_reg
returns-clause-call_reg c = ends_by_call_reg c.stays_in_code.ensures.step
