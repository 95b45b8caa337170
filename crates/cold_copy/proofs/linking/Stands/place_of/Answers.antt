use Rattle.std.proofs.Common.{◌≡◌, sym, ap, ◌∙◌, subst, arith}
use Rattle.std.specs.List.Sorted.{IsStrictlyIncreasing}
use Rattle.block_cut.specs.Transfers.{is_among}
use Rattle.cold_code.proofs.Searching.{member_is}
use Rattle.cold_copy.proofs.Lengths.{to_start, to_copy}
use Rattle.cold_copy.proofs.linking.Stands.place_of.Goals as goal

pub returns-then-is_ok : goal.returns-then-is_ok
returns-then-is_ok c =
    let value = c.as_slice.ensures.value in
    let member = member_is _ c.args.name c.binary_search.result (subst IsStrictlyIncreasing (sym value) c.requires) c.binary_search.ensures.position in
    let among = sym (ap (λ l. is_among l c.args.name) value) ∙ sym member ∙ sym c.is_ok.ensures.value ∙ c.if-is_ok.true in
    c.place_of.ensures ∙ sym (to_start c.args.self.now c.args.name (omega (arith, c.if-name-eq0.false)) among)

pub returns-else-is_ok : goal.returns-else-is_ok
returns-else-is_ok c =
    let value = c.as_slice.ensures.value in
    let member = member_is _ c.args.name c.binary_search.result (subst IsStrictlyIncreasing (sym value) c.requires) c.binary_search.ensures.position in
    let among = sym (ap (λ l. is_among l c.args.name) value) ∙ sym member ∙ sym c.is_ok.ensures.value ∙ c.if-is_ok.false in
    c.place_of-else-is_ok.ensures ∙ sym (to_copy c.args.self.now c.args.name (omega (arith, c.if-name-eq0.false)) among)
