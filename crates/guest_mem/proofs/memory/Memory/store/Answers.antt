use Rattle.std.proofs.Common.{◌∙◌, ap}
use Rattle.std.specs.Prelude.{is_some}
use Rattle.br_word.specs.Memory.{written}
use Rattle.guest_mem.specs.View.{with_regions}
use Rattle.guest_mem.proofs.Numbers.{take-bytes_of}
use Rattle.guest_mem.proofs.memory.Memory.store.Goals as goal

pub returns-clause-allowed : goal.returns-clause-allowed
returns-clause-allowed c =
    rw (c.size.ensures, c.to_le_bytes-bytes.ensures) at c.write.ensures.allowed
    ∙ ap (λ bs. is_some (written c.args.at bs c.args.self.now.regions)) (take-bytes_of c.args.w c.args.value)

pub returns-clause-after : goal.returns-clause-after
returns-clause-after c =
    rw (c.size.ensures, c.to_le_bytes-bytes.ensures) at c.write.ensures.after
    ∙ ap (λ bs. with_regions (written c.args.at bs c.args.self.now.regions) c.args.self.now) (take-bytes_of c.args.w c.args.value)
