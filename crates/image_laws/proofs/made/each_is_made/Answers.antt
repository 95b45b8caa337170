use Rattle.image_laws.proofs.EachMade.{each_is_made}
use Rattle.image_laws.proofs.made.each_is_made.Goals as goal

pub returns : goal.returns
returns c = each_is_made c.items_valid.ensures c.fragments_valid.ensures c.keys_are_keys.ensures
