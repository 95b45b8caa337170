use Rattle.std.proofs.Common.{map, take, ◌∙◌}
use Rattle.ia_encode.specs.declared.item.Item.TheVariants as item
use Rattle.fall_stubs.proofs.Parts.{follows, grew_whole}
use Rattle.cold_code.specs.Copies.{df_items}
use Rattle.cold_code.proofs.copies.put_own.Goals as goal

pub returns-clause-err : goal.returns-clause-err
returns-clause-err c =
    follows _ c.put_direction.ensures.err (λ h. grew_whole c.args.p.now c.put_direction.new.p (map item.Byte (take c.args.own.now.len c.args.own.now.bytes)) (df_items c.args.own.now.inst) (h ∙ c.in_ok-put_bytes.ensures.ok))
