use Rattle.std.proofs.Common.{refl}
use Rattle.br_word.specs.Memory.{bytes_of}
use Rattle.flow_graph.specs.GraphOf.{graph_of, starts_of}
use Rattle.code_layout.specs.Keys.{keys_of}
use Rattle.code_layout.specs.Linked.{code_of, linked}
use Rattle.code_layout.proofs.laws.empty_image.Goals as goal

pub returns : goal.returns
unfolding code_of keys_of graph_of starts_of linked bytes_of
returns c exe = refl
