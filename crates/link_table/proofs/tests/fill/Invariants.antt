use Rattle.std.proofs.Common.{◌+◌, ◌-◌, ◌≡◌, ◌<◌, true, false, length, slice_index_or}
use Rattle.link_table.proofs.tests.fill.Given as goal

-- the row is live, and the column there
abbrev pub invariant-loop-count : goal.invariant-loop-count
invariant-loop-count l = (slice_index_or l.links.alive l.row false ≡ true) × (l.column < length l.links.columns)

abbrev pub decreases-loop-count : goal.decreases-loop-count
decreases-loop-count l = 16777216 + 1 - l.count
