use Rattle.std.proofs.Common.{sym, ◌∙◌, ap, take, length, Some}
use Rattle.std.specs.Prelude.{option_map, is_some}
use Rattle.br_word.specs.Memory.{Reads}
use Rattle.guest_mem.proofs.Places.{covers-place, bytes_at-None, bytes_at-Some}
use Rattle.guest_mem.proofs.memory.Memory.copy_out.Goals as goal

pub copy_out-requires-clause-inside : goal.copy_out-requires-clause-inside
copy_out-requires-clause-inside c =
    covers-place Reads c.args.at (length c.args.into.now) c.self.inside.areas.items c.in-Some.place c.index.result.now
    (rw (← c.self.view_is) at (sym c.read_place.ensures ∙ c.in-Some.is)) c.index.ensures

pub returns-in-Some : goal.returns-in-Some
returns-in-Some c =
    rw (← c.self.view_is)
    (ap (option_map (take (length c.args.into.now)))
    (bytes_at-Some Reads c.args.at (length c.args.into.now) c.self.inside.areas.items c.in-Some.place c.index.result.now
    (rw (← c.self.view_is) at (sym c.read_place.ensures ∙ c.in-Some.is)) c.index.ensures)
    ∙ ap Some (sym c.copy_out.ensures))

pub returns-in_default : goal.returns-in_default
returns-in_default c =
    let e = bytes_at-None Reads c.args.at (length c.args.into.now) c.args.self.now.regions (sym c.read_place.ensures ∙ c.in_default.is) in
    let t = sym c.requires ∙ ap is_some e in
    cc
