use Rattle.top_plan.proofs.Reported.{exact, complete, planned, cause, steady}
use Rattle.top_plan.proofs.Interrupted.{partial}
use Rattle.top_plan.proofs.law.plan_law.Goals as goal

pub returns-clause-exact : goal.returns-clause-exact
returns-clause-exact c = exact

pub returns-clause-complete : goal.returns-clause-complete
returns-clause-complete c = complete

pub returns-clause-partial : goal.returns-clause-partial
returns-clause-partial c = partial

pub returns-clause-planned : goal.returns-clause-planned
returns-clause-planned c = planned

pub returns-clause-cause : goal.returns-clause-cause
returns-clause-cause c = cause

pub returns-clause-steady : goal.returns-clause-steady
returns-clause-steady c = steady
