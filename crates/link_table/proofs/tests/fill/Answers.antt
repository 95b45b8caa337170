use Rattle.std.proofs.Common.{◌≡◌, ℕ, zero, suc, List, [], ◌∷◌, length, slice_index_or, false, refl, ap, ◌∙◌, arith}
use Rattle.link_table.specs.Table.{Table, put_entry}
use Rattle.link_table.proofs.tests.fill.Goals as goal

length_put : (rows : List (List (ℕ × ℕ))) (i : ℕ) (e : ℕ × ℕ) → length (put_entry rows i e) ≡ length rows
length_put [] i e = refl
length_put (xs ∷ xss) zero e = refl
length_put (xs ∷ xss) (suc i) e = ap suc (length_put xss i e)

pub loop-count-preserved : goal.loop-count-preserved
loop-count-preserved c =
    let same : length c.add.new.self.columns ≡ length c.loop-count.links.columns =
    ap (λ (t : Table). length t.columns) c.in-Ok.ensures.ok ∙ length_put c.loop-count.links.columns c.args.column (c.in-Ok.field-0, 0) in
    let there = c.loop-count.invariant.1 in
    (ap (λ (t : Table). slice_index_or t.alive c.args.row false) c.in-Ok.ensures.ok ∙ c.loop-count.invariant.0, omega (arith, same, there))
