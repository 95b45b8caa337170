use Rattle.piece_laws.proofs.Capture.{opens}
use Rattle.piece_laws.proofs.exchange.opens_joined.Goals as goal

pub returns : goal.returns
returns c = λ homes plan dest meet x label to bytes next t a cs s own h e bits.
    opens homes plan dest meet (λ s a cs h f. c.exchange_keeps.ensures plan.code homes dest meet.here meet.are s a cs h f) x label to bytes next t a cs s own h e bits
