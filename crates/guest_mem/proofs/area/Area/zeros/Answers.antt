use Rattle.std.proofs.Common.{length, sym, ◌∙◌, ap}
use Rattle.guest_mem.proofs.Numbers.{length-zeros}
use Rattle.guest_mem.proofs.area.Area.zeros.Goals as goal

pub invariant_of-result : goal.invariant_of-result
invariant_of-result c =
    (c.in_ok-pages.ensures.pages, sym (ap (λ bs. length bs) c.in_ok-pages.ensures.bytes ∙ length-zeros c.args.size))
