use Rattle.std.proofs.Common.{sym, ◌∙◌, ap, ◌++◌}
use Rattle.std.proofs.lemmas.List.{append-nil}
use Rattle.tracer.proofs.EdgeSets.{is_edges}
use Rattle.tracer.proofs.recorder.Recorder.edges.Goals as goal

pub of_list-requires : goal.of_list-requires
of_list-requires c = is_edges c.self.inside.edges.keys c.loop-edge.list.items c.len.ensures.ordered c.self.invariant (sym (append-nil c.loop-edge.list.items) ∙ (ap (λ es. c.loop-edge.list.items ++ es) (sym c.in-None.ensures.steps.0) ∙ (c.loop-edge.invariant ∙ sym c.self.view_is)))
