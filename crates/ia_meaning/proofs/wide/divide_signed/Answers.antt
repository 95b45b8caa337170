use Rattle.std.proofs.Common.{rules}
use Rattle.ia_meaning.proofs.Products.{idiv_made}
use Rattle.ia_meaning.proofs.wide.divide_signed.Goals as goal

pub returns-else-q-gt2147483647 : goal.returns-else-q-gt2147483647
returns-else-q-gt2147483647 c =
    let k = c.in-Some.ensures in
    idiv_made c.args.n c.args.d c.cast_signed-x.result c.cast_signed-y.result c.in-Some.q c.cast_unsigned.result c.cast_unsigned-in-Some.result (search rules) (search rules) c.if-d-eq0.false
    (record { sfits = c.cast_signed-x.type_inv }) (record { sfits = c.cast_signed-y.type_inv }) c.cast_signed-x.ensures c.cast_signed-y.ensures k.0.1 k.1 c.if-q-ltminus2147483648.false c.if-q-gt2147483647.false c.cast_unsigned.ensures c.cast_unsigned-in-Some.ensures
