use Rattle.std.proofs.Common.{◌∙◌}
use Rattle.cold_code.proofs.Searching.{member_is}
use Rattle.cold_code.proofs.members.is_member.Goals as goal

pub returns : goal.returns
returns c = c.is_ok.ensures.value ∙ member_is c.args.list.now c.args.address c.binary_search.result c.requires c.binary_search.ensures.position
