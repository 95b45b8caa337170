use Rattle.guest_sys.proofs.PutBytes.{wanted_whole, wanted_more}
use Rattle.guest_sys.proofs.buffers.wanted.Goals as goal

pub returns-then-front-len : goal.returns-then-front-len
returns-then-front-len c = wanted_more _ _ _ _ c.if-front-len.true c.writable_front-front.ensures.fits (c.writable_front-front.ensures.most c.if-front-len.true)

pub returns-else-front-len : goal.returns-else-front-len
returns-else-front-len c = wanted_whole _ _ _ _ c.writable_front-front.ensures.within c.if-front-len.false c.writable_front-front.ensures.fits
