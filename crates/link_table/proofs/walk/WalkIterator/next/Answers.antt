use Rattle.std.proofs.Common.{ℕ, ◌<◌, sym, subst, arith, List}
use Rattle.link_table.specs.Circles.{times}
use Rattle.link_table.proofs.Walked.{first_times}
use Rattle.link_table.proofs.walk.WalkIterator.next.Goals as goal

pub bounds-self-inside-node : goal.bounds-self-inside-node
bounds-self-inside-node c = c.self.invariant c.in_ok-node.node (subst (λ (t : List ℕ). 0 < times c.in_ok-node.node t) (sym c.in_ok-node.ensures.steps) (first_times c.in_ok-node.node c.next.new.self))

pub invariant_of-self-2 : goal.invariant_of-self-2
invariant_of-self-2 c = λ i p. c.self.invariant i (subst (λ (t : List ℕ). 0 < times i t) (sym c.in_ok-node.ensures.steps) (omega (arith, p)))
