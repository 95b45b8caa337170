use Rattle.std.proofs.Common.{sym, ◌∙◌, ap}
use Rattle.br_word.specs.Memory.{Runs}
use Rattle.guest_mem.specs.View.{fetched}
use Rattle.guest_mem.specs.Pieces.{in_page}
use Rattle.guest_mem.proofs.Places.{covers-place, bytes_at-None, bytes_at-Some}
use Rattle.guest_mem.proofs.Copies.{in_page-nothing}
use Rattle.guest_mem.proofs.memory.Memory.code.Goals as goal

pub front-requires-clause-inside : goal.front-requires-clause-inside
front-requires-clause-inside c =
    covers-place Runs c.args.at 1 c.self.inside.areas.items c.in-Some.place c.index.result.now
    (rw (← c.self.view_is) at (sym c.code_place.ensures ∙ c.in-Some.is)) c.index.ensures

pub returns-in-None : goal.returns-in-None
returns-in-None c =
    sym (ap (λ o. in_page c.args.at (fetched o)) (bytes_at-None Runs c.args.at 1 c.args.self.now.regions (sym c.code_place.ensures ∙ c.in-None.is)) ∙ in_page-nothing c.args.at)

pub returns-in-Some : goal.returns-in-Some
returns-in-Some c =
    let e = bytes_at-Some Runs c.args.at 1 c.self.inside.areas.items c.in-Some.place c.index.result.now
    (rw (← c.self.view_is) at (sym c.code_place.ensures ∙ c.in-Some.is)) c.index.ensures in
    rw (← c.self.view_is) (c.front.ensures ∙ sym (ap (λ o. in_page c.args.at (fetched o)) e))
