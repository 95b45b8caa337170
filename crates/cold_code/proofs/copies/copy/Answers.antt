use Rattle.std.proofs.Common.{◌∷◌, []}
use Rattle.ia_encode.specs.declared.item.Item.TheVariants as item
use Rattle.fall_stubs.proofs.Parts.{follows, grew_more}
use Rattle.cold_code.specs.Copies.{by_labels, copy_of}
use Rattle.cold_code.proofs.copies.copy.Goals as goal

pub returns-clause-err : goal.returns-clause-err
returns-clause-err c =
    let whole = copy_of c.args.exe.now (by_labels c.args.starts.now c.args.cold.now) c.args.start in
    follows _ c.put_copy.ensures.err (λ g. grew_more c.args.p.now c.label.new.self c.put_copy.new.p (item.Label c.args.start ∷ []) whole c.in_ok-label.ensures.ok g)
