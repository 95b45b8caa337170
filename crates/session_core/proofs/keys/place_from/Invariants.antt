use Rattle.std.proofs.Common.{◌≡◌, ◌≤◌, List, All, drop}
use Rattle.ssa_form.specs.declared.form.BlockKey.{BlockKey}
use Rattle.session_core.specs.Session.{fresh}
use Rattle.session_core.proofs.keys.place_from.Given as goal

abbrev pub invariant-loop-at : goal.invariant-loop-at
invariant-loop-at l = (later : List BlockKey) → All (λ (k : BlockKey). l.start ≤ k.start) later → fresh (drop l.at l.keys) later ≡ fresh (drop l.from l.keys) later
