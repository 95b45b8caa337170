use Rattle.std.proofs.Common.{sym, ◌∙◌, ap, take, Some}
use Rattle.std.specs.Prelude.{option_map}
use Rattle.br_word.specs.Memory.{Reads, number_of}
use Rattle.br_word.specs.Words.{size_of}
use Rattle.guest_mem.proofs.Places.{covers-place, bytes_at-None, bytes_at-Some}
use Rattle.guest_mem.proofs.memory.Memory.load.Goals as goal

pub returns-in_err-place-clause-value : goal.returns-in_err-place-clause-value
returns-in_err-place-clause-value c =
    c.from_residual.ensures
    ∙ sym (ap (option_map (λ bs. number_of (take (size_of c.args.w) bs)))
    (bytes_at-None Reads c.args.at (size_of c.args.w) c.args.self.now.regions (rw c.size.ensures at (sym c.read_place.ensures ∙ c.in_err-place.was))))

pub number-requires : goal.number-requires
number-requires c =
    covers-place Reads c.args.at (size_of c.args.w) c.self.inside.areas.items c.in_ok-place.place c.index.result.now
    (rw (c.size.ensures, ← c.self.view_is) at (sym c.read_place.ensures ∙ c.in_ok-place.was)) c.index.ensures

pub returns-clause-value : goal.returns-clause-value
returns-clause-value c =
    rw (← c.self.view_is) (ap Some c.number.ensures.value
    ∙ sym (ap (option_map (λ bs. number_of (take (size_of c.args.w) bs)))
    (bytes_at-Some Reads c.args.at (size_of c.args.w) c.self.inside.areas.items c.in_ok-place.place c.index.result.now
    (rw (c.size.ensures, ← c.self.view_is) at (sym c.read_place.ensures ∙ c.in_ok-place.was)) c.index.ensures)))
