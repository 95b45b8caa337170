use Rattle.std.proofs.Common.{sym, ◌∙◌, ap, take, Some}
use Rattle.std.specs.Prelude.{option_map, is_some}
use Rattle.br_word.specs.Memory.{Reads}
use Rattle.guest_mem.specs.Pieces.{piece_size}
use Rattle.guest_mem.proofs.Places.{covers-place, bytes_at-None, bytes_at-Some}
use Rattle.guest_mem.proofs.memory.Memory.piece.Goals as goal

pub piece-requires-clause-inside : goal.piece-requires-clause-inside
piece-requires-clause-inside c =
    covers-place Reads c.args.at c.args.len c.self.inside.areas.items c.in-Some.place c.index.result.now
    (rw (← c.self.view_is) at (sym c.read_place.ensures ∙ c.in-Some.is)) c.index.ensures

pub returns-in-None : goal.returns-in-None
returns-in-None c =
    let e = bytes_at-None Reads c.args.at c.args.len c.args.self.now.regions (sym c.read_place.ensures ∙ c.in-None.is) in
    let t = sym c.requires.allowed ∙ ap is_some e in
    cc

pub returns-in-Some : goal.returns-in-Some
returns-in-Some c =
    rw (← c.self.view_is)
    (ap (option_map (take (piece_size c.args.at c.args.len)))
    (bytes_at-Some Reads c.args.at c.args.len c.self.inside.areas.items c.in-Some.place c.index.result.now
    (rw (← c.self.view_is) at (sym c.read_place.ensures ∙ c.in-Some.is)) c.index.ensures)
    ∙ ap Some (sym c.piece.ensures))
