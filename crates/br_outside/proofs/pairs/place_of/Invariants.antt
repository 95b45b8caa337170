use Rattle.std.proofs.Common.{length, take, ◌-◌, ◌≡◌, ◌≤◌, None}
use Rattle.br_outside.specs.Files.{found}
use Rattle.br_outside.proofs.pairs.place_of.Given as goal

abbrev pub invariant-loop-place : goal.invariant-loop-place
invariant-loop-place l = (l.place ≤ length l.files) × (found (take l.place l.files) l.name ≡ None)

-- proposed from the loop's first test
abbrev pub decreases-loop-place : goal.decreases-loop-place
decreases-loop-place l = length l.files - l.place
