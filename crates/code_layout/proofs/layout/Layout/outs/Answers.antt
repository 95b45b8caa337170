use Rattle.std.proofs.Common.{◌≡◌, ap, ◌∙◌}
use Rattle.std.proofs.lemmas.Result.{IfOk-weaker}
use Rattle.code_layout.specs.Layout.{LayoutView, fixes_out, layout_outs}
use Rattle.code_layout.proofs.Outward.{kept_outs}
use Rattle.code_layout.proofs.layout.Layout.outs.Goals as goal

pub returns : goal.returns
returns g c =
    let k = c.self.invariant (ap (λ (v : LayoutView). v.spent) c.self.view_is ∙ c.requires.fresh) in
    IfOk-weaker c.fixes_out.result (λ v. v.items ≡ fixes_out c.as_slice.result.now) (λ v. v.items ≡ layout_outs c.args.self.now)
    (λ v h. h ∙ ap fixes_out c.as_slice.ensures.value ∙ kept_outs _ _ _ _ k ∙ ap layout_outs c.self.view_is)
    c.fixes_out.ensures
