use Rattle.std.proofs.Common.{◌≡◌, ◌/◌, ◌≤◌, length, subst, sym, ◌∙◌, arith}
use Rattle.std.specs.Prelude.{IfOk, All}
use Rattle.std.proofs.lemmas.Result.{IfOk-weaker}
use Rattle.trace_file.specs.Edges.{IsEdges, merge, pairs, union_of}
use Rattle.trace_file.proofs.Sorted.{same_edge}
use Rattle.trace_file.proofs.Halves.{one_set, Joins, joins_halves}
use Rattle.trace_file.proofs.unite.+union_all.Goals as goal

pub returns-then-sets-eq1-clause-value : goal.returns-then-sets-eq1-clause-value
returns-then-sets-eq1-clause-value t c =
    c.of_list.ensures
    ∙ c.in_ok-to_vec.ensures.items_if_clones_equal same_edge
    ∙ c.as_slice.ensures.value
    ∙ sym (one_set c.args.sets.now c.index-sets-0.result (omega (arith, c.if-sets-eq1.true)) c.index-sets-0.is)

pub returns : goal.returns
returns t c =
    let sets = c.args.sets.now in
    let left = c.in_ok-left.ensures in
    let right = c.in_ok-right.ensures in
    let h = joins_halves (length sets / 2) sets _ _ c.in_ok-left.left c.in_ok-right.right c.split_at.ensures.front c.split_at.ensures.back
    (record { ordered = left.ordered; value = left.value; count = left.count })
    (record { ordered = right.ordered; value = right.value; count = right.count }) in
    let joined : IfOk c.union.result (Joins sets) =
    IfOk-weaker c.union.result (λ all. all ≡ merge c.in_ok-left.left c.in_ok-right.right) (Joins sets) (λ all e. subst (Joins sets) (sym e) h) c.union.ensures.value in
    record {
      value = IfOk-weaker c.union.result (Joins sets) (λ all. all ≡ union_of sets) (λ all j. j.value) joined;
      edges = c.union.ensures.edges;
      count = IfOk-weaker c.union.result (Joins sets) (λ all. length all ≤ pairs sets) (λ all j. j.count) joined;
      ordered = IfOk-weaker c.union.result (Joins sets) (λ _. All IsEdges sets) (λ all j. j.ordered) joined;
    }
