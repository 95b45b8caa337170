use Rattle.std.proofs.Common.{◌≡◌, ◌++◌, drop}
use Rattle.code_layout.specs.Rows.{row_places}
use Rattle.code_layout.proofs.rows.places_of.Given as goal

abbrev pub invariant-loop-row : goal.invariant-loop-row
invariant-loop-row l = l.places.items ++ row_places (drop l.row-index l.rows) ≡ row_places l.rows
