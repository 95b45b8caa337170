use Rattle.std.proofs.Common.{◌<◌, length, ◌∙◌, arith}
use Rattle.std.proofs.lemmas.Grind.{common_steps}
use Rattle.link_table.proofs.Kept.{head_read, placed}
use Rattle.link_table.proofs.Walked.{walk_read}
use Rattle.link_table.proofs.chains.Chains.walk.Goals as goal

pub index-head-requires : goal.index-head-requires
index-head-requires c = let h : c.args.list < length c.self.inside.heads.items = placed c.self.inside.next.items c.self.inside.heads.items c.args.self.now c.args.list c.self.view_is c.requires in grind (arith, common_steps)

pub index-first-requires : goal.index-first-requires
index-first-requires c = let h : c.index-head.result.now < length c.self.inside.next.items = (head_read c.self.inside.next.items c.self.inside.prev.items c.self.inside.heads.items c.args.self.now c.args.list c.index-head.result.now c.self.view_is c.requires c.index-head.ensures).1 c.self.invariant in grind (arith, common_steps)

pub from-requires : goal.from-requires
from-requires c = (walk_read c.self.inside.next.items c.self.inside.prev.items c.self.inside.heads.items c.args.self.now c.args.list c.index-head.result.now c.index-first.result.now c.as_slice.result.now c.self.view_is c.requires c.index-head.ensures c.self.invariant c.index-first.ensures c.as_slice.ensures.value).0

pub returns : goal.returns
returns c = c.from.ensures ∙ (walk_read c.self.inside.next.items c.self.inside.prev.items c.self.inside.heads.items c.args.self.now c.args.list c.index-head.result.now c.index-first.result.now c.as_slice.result.now c.self.view_is c.requires c.index-head.ensures c.self.invariant c.index-first.ensures c.as_slice.ensures.value).1
