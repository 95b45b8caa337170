use Rattle.std.proofs.Common.{take, ◌++◌, ◌∙◌, ap}
use Rattle.br_word.specs.Memory.{zeros}
use Rattle.guest_mem.proofs.Numbers.{take-own_zeros}
use Rattle.guest_mem.proofs.area.zero_page.Goals as goal

pub returns : goal.returns
returns c =
    c.in_ok-resize.ensures.ok ∙ (ap (λ bs. take c.args.size (bs ++ zeros c.args.size)) c.in_ok-bytes.ensures.items ∙ take-own_zeros c.args.size)
