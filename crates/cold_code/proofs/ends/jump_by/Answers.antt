use Rattle.std.proofs.Common.{sym, ap}
use Rattle.par_moves.specs.Homes.{register_homes}
use Rattle.fall_stubs.specs.Exchange.{closing_items}
use Rattle.fall_stubs.proofs.Parts.{follows, grew_more}
use Rattle.cold_code.specs.Around.{named}
use Rattle.cold_code.specs.Copies.{aim}
use Rattle.cold_code.proofs.Upto.{grew_as}
use Rattle.cold_code.proofs.ends.jump_by.Goals as goal

pub returns-clause-err : goal.returns-clause-err
returns-clause-err c =
    let turn = closing_items register_homes (named c.args.naming 0) in
    follows _ c.close.ensures.err (λ g. grew_more c.args.p.now c.aim.new.p c.close.new.p (aim c.args.target) turn c.in_ok-aim.ensures.ok (grew_as c.aim.new.p c.close.new.p turn (closing_items register_homes c.named.result) (ap (λ d. closing_items register_homes d) (sym c.named.ensures)) g))
