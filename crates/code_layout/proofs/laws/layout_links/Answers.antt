use Rattle.code_layout.proofs.Links.{code_links, length_links}
use Rattle.code_layout.proofs.laws.layout_links.Goals as goal

pub returns : goal.returns
returns c = record { code = λ out exe keys l. code_links exe out keys; length_is = λ out exe keys. length_links exe out keys }
