use Rattle.std.proofs.Common.{◌/◌, ◌^◌, not, get_or, ap}
use Rattle.std.specs.Prelude.{◌==◌}
use Rattle.ia_inst.specs.Wide.{product, signed_product, product_overflows}
use Rattle.ia_meaning.proofs.multiply.muldiv_by.Goals as goal

pub returns-in-4 : goal.returns-in-4
returns-in-4 c m =
    let n = product (get_or c.args.cpu.now.regs 0 0) c.args.b in
    rw c.in-4.is (c.put_product.ensures n (not (n / 2 ^ 32 == 0)) m c.multiply-p.ensures (ap (λ p. not (p / 2 ^ 32 == 0)) c.multiply-p.ensures))

pub returns-in-5 : goal.returns-in-5
returns-in-5 c m =
    let a = get_or c.args.cpu.now.regs 0 0 in
    rw c.in-5.is (c.put_product-in-5.ensures (signed_product a c.args.b) (product_overflows a c.args.b) m c.multiply_signed.ensures c.overflows.ensures)
