use Rattle.std.proofs.Common.{◌≡◌, ◌+◌, ◌≤◌, ◌++◌, drop}
use Rattle.code_layout.specs.declared.place.TheConstants.{CODE_START, MAX_CODE}
use Rattle.code_layout.specs.Layout.{added_length, added_places}
use Rattle.cold_copy.proofs.behind.places_of.Given as goal

abbrev pub invariant-loop-piece : goal.invariant-loop-piece
invariant-loop-piece l = record {
  places : l.places.items ++ added_places (CODE_START + l.offset) (drop l.piece-index l.pieces) ≡ added_places (CODE_START + l.at) l.pieces;
  room : l.offset + added_length (drop l.piece-index l.pieces) ≤ MAX_CODE;
}
