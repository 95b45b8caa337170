use Rattle.std.proofs.Common.{◌∙◌, ap}
use Rattle.std.specs.Prelude.{is_some}
use Rattle.br_word.specs.Memory.{Writes}
use Rattle.guest_mem.proofs.Places.{is_some-bytes_at}
use Rattle.guest_mem.proofs.memory.Memory.can_write.Goals as goal

pub returns : goal.returns
returns c = c.is_some.ensures ∙ (ap is_some c.write_place.ensures ∙ is_some-bytes_at Writes c.args.at c.args.len c.args.self.now.regions)
