use Rattle.std.proofs.Common.{◌∙◌, rules}
use Rattle.ia_meaning.proofs.Products.{imul_word}
use Rattle.ia_meaning.proofs.wide.multiply_signed.Goals as goal

pub returns : goal.returns
returns c = c.cast_unsigned.ensures ∙ imul_word c.args.a c.args.b c.cast_signed.result c.cast_signed-2.result (search rules) (search rules) (record { sfits = c.cast_signed.type_inv }) (record { sfits = c.cast_signed-2.type_inv }) c.cast_signed.ensures c.cast_signed-2.ensures
