use Rattle.std.proofs.Common.{◌≡◌, ◌∷◌, true, List, drop}
use Rattle.trace_file.specs.Edges.{Edge, ascends, without}
use Rattle.trace_file.proofs.difference.skipped.Given as goal

abbrev pub invariant-loop-at : goal.invariant-loop-at
invariant-loop-at l = (es : List Edge) → ascends (l.edge ∷ es) ≡ true → without (drop l.at l.gone) (l.edge ∷ es) ≡ without (drop l.fn.from l.gone) (l.edge ∷ es)
