use Rattle.std.proofs.Common.{ap, subst}
use Rattle.trace_set.specs.Traces.{Traces, Adds}
use Rattle.session_core.specs.Session.{SessionView, traces_in, with_traces}
use Rattle.session_core.proofs.session.Session.add.Goals as goal

pub returns-clause-adds : goal.returns-clause-adds
returns-clause-adds g c = subst (λ (t : Traces). Adds t c.args.edges.now c.add.result c.add.new.self) (ap traces_in c.self.view_is) c.add.ensures

pub returns-clause-rest : goal.returns-clause-rest
returns-clause-rest g c = ap (λ (s : SessionView). with_traces s c.add.new.self) c.self.view_is
