use Rattle.std.proofs.Common.{◌≡◌, ℕ, false, List, length, ap, ◌∙◌, arith}
use Rattle.code_layout.specs.declared.built.Built.{Built}
use Rattle.code_layout.specs.Image.{image_with}
use Rattle.code_layout.specs.Linked.{itself}
use Rattle.code_layout.specs.Layout.{LayoutView, code_length, layout_code}
use Rattle.code_layout.specs.Places.{place_in}
use Rattle.code_layout.proofs.Kept.{view_by}
use Rattle.code_layout.proofs.Whole.{kept_count, entry_some}
use Rattle.code_layout.proofs.layout.Layout.image.Goals as goal

pub written-requires-clause-some : goal.written-requires-clause-some
written-requires-clause-some g c = omega (arith, c.code_with-code.ensures.len, entry_some c.args.self.entry c.args.self.known)

pub written-requires-clause-short : goal.written-requires-clause-short
written-requires-clause-short g c =
    let k = c.self.invariant (ap (λ (v : LayoutView). v.spent) c.self.view_is ∙ c.requires.fresh) in
    omega (arith, k.short, ap code_length c.self.view_is, c.code_with-code.ensures.len)

pub returns : goal.returns
returns g c =
    let i = c.self.inside in
    let fresh : i.spent ≡ false = ap (λ (v : LayoutView). v.spent) c.self.view_is ∙ c.requires.fresh in
    let k = c.self.invariant fresh in
    let v = view_by i.entry i.known i.code.items i.fixes.items i.rows.items in
    let exe = c.args.exe.now in
    let u = c.args.self in
    let result : List ℕ → ℕ → ℕ → Built = λ code blocks len. record { bytes = image_with exe code; blocks = blocks; code = len } in
    let code_is : c.code_with-code.result.items ≡ layout_code itself u = c.code_with-code.ensures.code ∙ ap (λ ps. layout_code (place_in ps) u) c.none.ensures in
    let m : c.len-blocks.result ≡ length u.added = omega (arith, c.len-blocks.ensures, kept_count _ _ _ _ k, i.rows.ok.0, ap (λ (w : LayoutView). length w.added) c.self.view_is) in
    c.of.ensures ∙ c.in_ok-written.ensures
    ∙ ap (λ x. result x c.len-blocks.result c.code_with-code.result.len) code_is
    ∙ ap (λ x. result (layout_code itself u) x c.code_with-code.result.len) m
    ∙ ap (λ x. result (layout_code itself u) (length u.added) x) c.code_with-code.ensures.len
