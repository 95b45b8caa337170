use Rattle.code_layout.proofs.Chosen.{ascending, all_added}
use Rattle.code_layout.proofs.Each.{each_key}
use Rattle.code_layout.proofs.laws.keys_are_keys.Goals as goal

pub returns : goal.returns
returns c = record { ascend = ascending c.one_graph.ensures; whole = all_added c.one_graph.ensures; each = each_key c.sets_are_narrow.ensures.rows c.sets_are_narrow.ensures.small c.one_graph.ensures c.one_block.ensures }
