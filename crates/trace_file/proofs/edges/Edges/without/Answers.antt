use Rattle.std.proofs.Common.{◌≡◌, sym, ap, ◌∙◌, subst}
use Rattle.std.specs.Prelude.{Contains}
use Rattle.trace_file.specs.Edges.{IsEdges, without}
use Rattle.trace_file.proofs.Without.{without_edges, from_without, to_without}
use Rattle.trace_file.proofs.edges.Edges.without.Goals as goal

the_list : (c : goal.In_ok-list) → c.in_ok-list.list.items ≡ without c.args.gone.now c.args.self.now
the_list c =
    c.in_ok-list.ensures
    ∙ ap (λ l. without c.deref-2.result.now l) (c.deref.ensures.value ∙ c.self.view_is)
    ∙ ap (λ l. without l c.args.self.now) (c.deref-2.ensures.value ∙ c.gone.view_is)

edges : (c : goal.In_ok-list) → IsEdges c.in_ok-list.list.items
edges c = subst IsEdges (sym (the_list c)) (without_edges c.args.gone.now c.args.self.now (subst IsEdges c.self.view_is c.self.invariant))

pub invariant_of-result : goal.invariant_of-result
invariant_of-result c = edges c

pub returns-clause-members : goal.returns-clause-members
returns-clause-members c e = (
  λ m. from_without c.args.gone.now c.args.self.now e (subst (λ l. Contains l e) (the_list c) m),
  λ m. subst (λ l. Contains l e) (sym (the_list c)) (to_without c.args.gone.now c.args.self.now e m.0 m.1),
)

pub returns-clause-edges : goal.returns-clause-edges
returns-clause-edges c = edges c
