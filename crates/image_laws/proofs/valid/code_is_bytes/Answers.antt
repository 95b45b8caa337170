use Rattle.image_laws.proofs.EachMade.{code_is_bytes}
use Rattle.image_laws.proofs.valid.code_is_bytes.Goals as goal

pub returns : goal.returns
returns c = code_is_bytes c.items_valid.ensures c.code_stands.ensures
