use Rattle.std.proofs.Common.{sym, ◌∙◌, arith}
use Rattle.flow_graph.proofs.IndexOf.{start_at, index_is, no_index}
use Rattle.flow_graph.proofs.index_search.index_among.Goals.{else-index-rows-via-then-index-rows+else-rows-index, else-index-rows-via-else-index-rows}
use Rattle.flow_graph.proofs.index_search.index_among.Goals as goal

pub returns-then-rows-index : goal.returns-then-rows-index
returns-then-rows-index c = index_is c.args.rows.now c.requires c.args.start c.first_from-index.result c.first_from-index.ensures.below (omega arith) (start_at c.args.rows.now c.requires c.first_from-index.result _ (omega arith) ∙ c.if-rows-index.true)

pub returns-else-index-rows : goal.returns-else-index-rows
returns-else-index-rows c = no_index c.args.rows.now c.requires c.args.start c.first_from-index.result c.first_from-index.ensures.below c.first_from-index.ensures.from (λ l e. elim c.else-index-rows.branch as (λ _. ⊥) [
  | else-index-rows-via-then-index-rows+else-rows-index w ↦ w.if-rows-index.false (sym (start_at c.args.rows.now c.requires c.first_from-index.result _ l) ∙ e)
  | else-index-rows-via-else-index-rows w ↦ omega (arith, l, w.if-index-rows.false)
])
