use Rattle.std.proofs.Common.{◌≡◌, ◌++◌, map, drop}
use Rattle.code_layout.specs.Keys.{set_at}
use Rattle.code_layout.proofs.keys.exits_of.Given as goal

abbrev pub invariant-loop-start : goal.invariant-loop-start
invariant-loop-start l =
    l.exits.items ++ map (λ y. (y, set_at l.rows l.sets y)) (drop l.start-index l.known) ≡ map (λ y. (y, set_at l.rows l.sets y)) l.known
