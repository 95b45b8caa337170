use Rattle.piece_laws.proofs.Capture.{closes, enters}
use Rattle.piece_laws.proofs.exchange.captures_joined.Goals as goal

pub returns : goal.returns
returns c = record {
  closes = λ homes plan dest meet label at to y bytes next t outer cs s there low k e.
      closes homes plan dest meet (λ s a cs h f. c.exchange_keeps.ensures plan.code homes dest meet.here meet.are s a cs h f) label at to y bytes next t outer cs s there low k e;
  enters = λ homes plan dest meet to y next t outer cs s there low k.
      enters homes plan dest meet (λ s a cs h f. c.exchange_keeps.ensures plan.code homes dest meet.here meet.are s a cs h f) (c.jumps_lead.ensures plan.code dest meet.here) to y next t outer cs s there low k;
}
