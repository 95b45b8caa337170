use Rattle.std.proofs.Common.{◌≡◌, ◌+◌, ◌<◌, ◌^◌, ℕ, All, List, map, ap, sym, ◌∙◌, subst}
use Rattle.std.specs.List.Sorted.{IsStrictlyIncreasing}
use Rattle.code_layout.specs.declared.place.TheConstants.{CODE_START}
use Rattle.code_layout.specs.declared.rows.Row.{Row}
use Rattle.code_layout.specs.Layout.{LayoutView, layout_places}
use Rattle.code_layout.specs.Rows.{row_places}
use Rattle.code_layout.proofs.Whole.{kept_order, kept_low}
use Rattle.code_layout.proofs.Outward.{kept_places, firsts}
use Rattle.code_layout.proofs.layout.Layout.places.Goals as goal

pub places_of-requires : goal.places_of-requires
places_of-requires g c =
    let k = c.self.invariant (ap (λ (v : LayoutView). v.spent) c.self.view_is ∙ c.requires.fresh) in
    record { low = subst (λ (r : List Row). All (λ (x : Row). CODE_START + x.at < 2 ^ 32) r) (sym c.as_slice.ensures.value) (kept_low _ _ _ _ k) }

pub of-requires : goal.of-requires
of-requires g c =
    let k = c.self.invariant (ap (λ (v : LayoutView). v.spent) c.self.view_is ∙ c.requires.fresh) in
    let rows = c.self.inside.rows.items in
    let e = ap (map (λ (p : ℕ × ℕ). p.0)) (c.in_ok-places_of.ensures ∙ ap row_places c.as_slice.ensures.value) ∙ firsts rows in
    subst IsStrictlyIncreasing (sym e) (kept_order _ _ _ _ k)

pub returns : goal.returns
returns g c =
    let k = c.self.invariant (ap (λ (v : LayoutView). v.spent) c.self.view_is ∙ c.requires.fresh) in
    c.of.ensures
    ∙ c.in_ok-places_of.ensures
    ∙ ap row_places c.as_slice.ensures.value
    ∙ kept_places _ _ _ _ k
    ∙ ap layout_places c.self.view_is
