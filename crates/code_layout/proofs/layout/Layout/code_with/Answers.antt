use Rattle.std.proofs.Common.{◌≡◌, ◌+◌, ◌<◌, ◌^◌, Bool, false, List, length, All, ap, sym, ◌∙◌, subst, arith}
use Rattle.std.specs.List.Sorted.{IsStrictlyIncreasing}
use Rattle.block_make.specs.declared.fragment.Fix.{Fix}
use Rattle.code_layout.specs.declared.place.TheConstants.{CODE_START}
use Rattle.code_layout.specs.declared.rows.Row.{Row}
use Rattle.code_layout.specs.Linked.{goes_out}
use Rattle.code_layout.specs.Layout.{LayoutView, IsWhole, code_length, layout_code, filled}
use Rattle.code_layout.specs.Places.{place_in}
use Rattle.code_layout.specs.Rows.{row_starts, row_address}
use Rattle.code_layout.proofs.Kept.{kept_length, view_by}
use Rattle.code_layout.proofs.Whole.{kept_order, kept_low, kept_short, kept_fixes, kept_filled, written_over}
use Rattle.code_layout.proofs.layout.Layout.code_with.Goals as goal

pub fill-requires-clause-order : goal.fill-requires-clause-order
fill-requires-clause-order g c =
    let k = c.self.invariant (ap (λ (v : LayoutView). v.spent) c.self.view_is ∙ c.requires.fresh) in
    subst (λ (r : List Row). IsStrictlyIncreasing (row_starts r)) (sym c.as_slice-2.ensures.value) (kept_order _ _ _ _ k)

pub fill-requires-clause-low : goal.fill-requires-clause-low
fill-requires-clause-low g c =
    let k = c.self.invariant (ap (λ (v : LayoutView). v.spent) c.self.view_is ∙ c.requires.fresh) in
    subst (λ (r : List Row). All (λ (x : Row). CODE_START + x.at < 2 ^ 32) r) (sym c.as_slice-2.ensures.value) (kept_low _ _ _ _ k)

pub fill-requires-clause-short : goal.fill-requires-clause-short
fill-requires-clause-short g c =
    let k = c.self.invariant (ap (λ (v : LayoutView). v.spent) c.self.view_is ∙ c.requires.fresh) in
    omega (arith, kept_short _ _ _ _ k, ap length c.deref_mut.ensures.value)

pub fill-requires-clause-fixes : goal.fill-requires-clause-fixes
fill-requires-clause-fixes g c =
    let i = c.self.inside in
    let fresh : i.spent ≡ false = ap (λ (v : LayoutView). v.spent) c.self.view_is ∙ c.requires.fresh in
    let k = c.self.invariant fresh in
    let made : Bool → LayoutView = λ s. record (view_by i.entry i.known i.code.items i.fixes.items i.rows.items) { spent = s } in
    let w = subst IsWhole (sym (ap made (sym fresh) ∙ c.self.view_is)) c.requires.whole in
    rw (c.as_slice-2.ensures.value, c.as_slice.ensures.value, c.deref_mut.ensures.value) (kept_fixes _ _ _ _ k w)

pub returns-clause-code : goal.returns-clause-code
returns-clause-code g c =
    let i = c.self.inside in
    let fresh : i.spent ≡ false = ap (λ (v : LayoutView). v.spent) c.self.view_is ∙ c.requires.fresh in
    let k = c.self.invariant fresh in
    let made : Bool → LayoutView = λ s. record (view_by i.entry i.known i.code.items i.fixes.items i.rows.items) { spent = s } in
    let v = view_by i.entry i.known i.code.items i.fixes.items i.rows.items in
    let same : v ≡ c.args.self = ap made (sym fresh) ∙ c.self.view_is in
    let w = subst IsWhole (sym same) c.requires.whole in
    let out = place_in c.args.out.now in
    let filled_is : c.fill.new.code ≡ layout_code out v =
    c.fill.ensures
    ∙ ap (λ (r : List Row). filled (goes_out (row_address r) out) CODE_START c.as_slice.result.now c.deref_mut.result.now) c.as_slice-2.ensures.value
    ∙ ap (λ (f : List Fix). filled (goes_out (row_address i.rows.items) out) CODE_START f c.deref_mut.result.now) c.as_slice.ensures.value
    ∙ ap (filled (goes_out (row_address i.rows.items) out) CODE_START i.fixes.items) c.deref_mut.ensures.value
    ∙ kept_filled _ _ _ _ k w out in
    let n : length c.fill.new.code ≡ i.code.len = omega (arith, c.fill.auto.code, ap length c.deref_mut.ensures.value, i.code.ok.0) in
    written_over i.code.len c.fill.new.code i.code.items n ∙ filled_is ∙ ap (layout_code out) same

pub returns-clause-len : goal.returns-clause-len
returns-clause-len g c =
    let k = c.self.invariant (ap (λ (v : LayoutView). v.spent) c.self.view_is ∙ c.requires.fresh) in
    omega (arith, ap code_length c.self.view_is, kept_length _ _ _ _ k, c.self.inside.code.ok.0)
