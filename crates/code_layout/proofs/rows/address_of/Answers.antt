use Rattle.std.proofs.Common.{sym}
use Rattle.code_layout.proofs.Found.{found, address_is}
use Rattle.code_layout.proofs.rows.address_of.Goals as goal

pub bounds-rows-first_from : goal.bounds-rows-first_from
bounds-rows-first_from c = found c.args.rows.now c.requires.order c.args.start c.first_from.result c.requires.there c.first_from.ensures.below c.first_from.ensures.from

pub returns : goal.returns
returns c = sym (address_is c.args.rows.now c.requires.order c.args.start c.first_from.result c.requires.there c.first_from.ensures.below c.first_from.ensures.from _)
