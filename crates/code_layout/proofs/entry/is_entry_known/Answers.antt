use Rattle.std.proofs.Common.{◌∙◌, sym}
use Rattle.code_layout.proofs.EntryKnown.{known_is, key_there}
use Rattle.code_layout.proofs.entry.is_entry_known.Goals as goal

pub returns : goal.returns
returns c = λ edges graph.
    c.is_some.ensures
    ∙ known_is c.args.exe.now.entry c.args.graph.now.nodes c.index_of.result c.index_of.ensures
    ∙ sym (key_there c.args.exe.now edges c.args.graph.now.nodes c.args.exe.now.entry graph)
