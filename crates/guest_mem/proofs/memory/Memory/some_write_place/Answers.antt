use Rattle.std.proofs.Common.{sym, ◌∙◌, ap}
use Rattle.std.specs.Prelude.{is_some}
use Rattle.br_word.specs.Memory.{Writes}
use Rattle.guest_mem.proofs.Places.{bytes_at-None}
use Rattle.guest_mem.proofs.memory.Memory.some_write_place.Goals as goal

pub returns-in-None : goal.returns-in-None
returns-in-None c =
    let e = bytes_at-None Writes c.args.at c.args.len c.args.self.now.regions (sym c.write_place.ensures ∙ c.in-None.is) in
    let t = sym c.requires ∙ ap is_some e in
    cc
