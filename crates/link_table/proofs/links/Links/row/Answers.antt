use Rattle.std.proofs.Common.{ℕ, ◌<◌, length, sym, subst, ap, ◌∙◌, List}
use Rattle.link_table.specs.Circles.{times}
use Rattle.link_table.specs.Table.{entries}
use Rattle.link_table.proofs.Named.{row_read}
use Rattle.link_table.proofs.links.Links.row.Goals as goal

pub walk-requires : goal.walk-requires
walk-requires c = (row_read c.self.inside.rows c.self.inside.columns c.self.inside.alive.items c.self.inside.values.items c.self.inside.used c.self.inside.live c.args.self.now c.args.row c.self.view_is c.self.invariant c.requires).0

pub of-requires : goal.of-requires
of-requires c = λ i p. (subst (λ (v : List ℕ). i < length v) (sym c.as_slice.ensures.value) ((row_read c.self.inside.rows c.self.inside.columns c.self.inside.alive.items c.self.inside.values.items c.self.inside.used c.self.inside.live c.args.self.now c.args.row c.self.view_is c.self.invariant c.requires).2 i (subst (λ (t : List ℕ). 0 < times i t) c.walk.ensures p)))

pub returns : goal.returns
returns c = c.of.ensures ∙ ap (λ (v : List ℕ). entries v c.walk.result) c.as_slice.ensures.value ∙ ap (entries c.self.inside.values.items) c.walk.ensures ∙ (row_read c.self.inside.rows c.self.inside.columns c.self.inside.alive.items c.self.inside.values.items c.self.inside.used c.self.inside.live c.args.self.now c.args.row c.self.view_is c.self.invariant c.requires).1
