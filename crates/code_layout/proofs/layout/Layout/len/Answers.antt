use Rattle.std.proofs.Common.{◌≡◌, ap, ◌∙◌, arith}
use Rattle.code_layout.specs.declared.place.TheConstants.{MAX_CODE}
use Rattle.code_layout.specs.Layout.{LayoutView, code_length}
use Rattle.code_layout.proofs.Kept.{kept_length}
use Rattle.code_layout.proofs.layout.Layout.len.Goals as goal

pub overflow_cast-result : goal.overflow_cast-result
overflow_cast-result g c =
    let k = c.self.invariant (ap (λ (v : LayoutView). v.spent) c.self.view_is ∙ c.requires.fresh) in
    let s = k.short in
    omega (arith, s, kept_length _ _ _ _ k, c.self.inside.code.ok.0, c.len.ensures)

pub returns : goal.returns
returns g c =
    let k = c.self.invariant (ap (λ (v : LayoutView). v.spent) c.self.view_is ∙ c.requires.fresh) in
    omega (arith, ap code_length c.self.view_is, kept_length _ _ _ _ k, c.self.inside.code.ok.0, c.len.ensures)
