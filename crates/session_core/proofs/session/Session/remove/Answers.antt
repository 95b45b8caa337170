use Rattle.std.proofs.Common.{◌≤◌, ◌+◌, length, ap, subst}
use Rattle.trace_set.specs.Traces.{Traces, Removes, edges_of}
use Rattle.session_core.specs.Session.{SessionView, traces_in, with_traces}
use Rattle.session_core.proofs.session.Session.remove.Goals as goal

pub returns-clause-traces : goal.returns-clause-traces
returns-clause-traces g c = subst (λ (t : Traces). Removes t c.args.number c.remove.result c.remove.new.self) (ap traces_in c.self.view_is) c.remove.ensures.traces

pub returns-clause-rest : goal.returns-clause-rest
returns-clause-rest g c = ap (λ (s : SessionView). with_traces s c.remove.new.self) c.self.view_is

pub returns-clause-few : goal.returns-clause-few
returns-clause-few g c = subst (λ (s : SessionView). c.remove.new.steps ≤ c.args.steps.now + length (edges_of c.args.number s.traces)) c.self.view_is c.remove.ensures.few
