use Rattle.std.proofs.lemmas.Bool.{ne_eqb}
use Rattle.link_table.proofs.Walked.{walk_goes}
use Rattle.link_table.proofs.slots.SlotsIterator.next.Goals as goal

pub bounds-self-inside-slot : goal.bounds-self-inside-slot
bounds-self-inside-slot c = (walk_goes c.self.inside.next.now c.self.inside.head c.self.inside.at c.self.invariant (ne_eqb c.self.inside.at c.self.inside.head c.if-self.false)).0

pub invariant_of-self : goal.invariant_of-self
invariant_of-self c = (walk_goes c.self.inside.next.now c.self.inside.head c.self.inside.at c.self.invariant (ne_eqb c.self.inside.at c.self.inside.head c.if-self.false)).2
