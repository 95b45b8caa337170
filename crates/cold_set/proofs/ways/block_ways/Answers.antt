use Rattle.std.proofs.Common.{[], ◌∷◌, ap, ◌∙◌}
use Rattle.cold_set.proofs.Leading.{unreadable_leaves}
use Rattle.cold_set.proofs.ways.block_ways.Goals as goal

pub returns-in-Unreadable : goal.returns-in-Unreadable
returns-in-Unreadable c =
    c.one.ensures ∙ (ap (λ x. x ∷ []) c.address_behind.ensures.fits ∙ unreadable_leaves c.args.exe.now c.args.start c.args.block.now c.requires.block c.in-Unreadable.is)
