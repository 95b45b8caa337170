use Rattle.std.proofs.Common.{◌≡◌, sym, ap, ◌∙◌, subst}
use Rattle.std.specs.Prelude.{Contains}
use Rattle.trace_file.specs.Edges.{IsEdges, merge}
use Rattle.trace_file.proofs.Union.{merge_edges, from_merge, to_merge}
use Rattle.trace_file.proofs.edges.Edges.union.Goals as goal

the_list : (c : goal.In_ok-list) → c.in_ok-list.list.items ≡ merge c.args.self.now c.args.other.now
the_list c =
    c.in_ok-list.ensures
    ∙ ap (λ l. merge l c.deref-2.result.now) (c.deref.ensures.value ∙ c.self.view_is)
    ∙ ap (λ l. merge c.args.self.now l) (c.deref-2.ensures.value ∙ c.other.view_is)

edges : (c : goal.In_ok-list) → IsEdges c.in_ok-list.list.items
edges c =
    subst IsEdges (sym (the_list c)) (merge_edges c.args.self.now c.args.other.now
    (subst IsEdges c.self.view_is c.self.invariant) (subst IsEdges c.other.view_is c.other.invariant) c.requires)

pub invariant_of-result : goal.invariant_of-result
invariant_of-result c = edges c

pub returns-clause-members : goal.returns-clause-members
returns-clause-members c e = (
  λ m. from_merge e c.args.self.now c.args.other.now (subst (λ l. Contains l e) (the_list c) m),
  λ m. subst (λ l. Contains l e) (sym (the_list c)) (to_merge e c.args.self.now c.args.other.now m),
)

pub returns-clause-edges : goal.returns-clause-edges
returns-clause-edges c = edges c
