use Rattle.std.proofs.Common.{◌≡◌, ◌++◌, map, drop}
use Rattle.code_layout.specs.Keys.{key_by}
use Rattle.code_layout.proofs.keys.keys_by.Given as goal

abbrev pub invariant-loop-index : goal.invariant-loop-index
invariant-loop-index l = l.keys.items ++ map (key_by l.rows l.sets) (drop l.index l.rows) ≡ map (key_by l.rows l.sets) l.rows
