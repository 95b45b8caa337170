use Rattle.cold_laws.proofs.Dispatching.{dispatcher_runs}
use Rattle.cold_laws.proofs.dispatcher.dispatches.Goals as goal

pub returns : goal.returns
returns c = dispatcher_runs c.exchange_keeps.ensures c.jumps_lead.ensures
