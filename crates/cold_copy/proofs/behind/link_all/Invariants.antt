use Rattle.std.proofs.Common.{◌≡◌, ◌+◌, ◌≤◌, ◌++◌, drop, All}
use Rattle.std.specs.Prelude.{vec_len}
use Rattle.ia_encode.specs.Items.{goes_to}
use Rattle.code_layout.specs.declared.place.TheConstants.{CODE_START, MAX_CODE}
use Rattle.code_layout.specs.Layout.{added_length, filled_from}
use Rattle.cold_copy.specs.Linking.{stands_to}
use Rattle.cold_copy.proofs.behind.link_all.Given as goal

abbrev pub invariant-loop-piece : goal.invariant-loop-piece
invariant-loop-piece l = record {
  code : l.code.items ++ filled_from (goes_to (stands_to l.stands)) (CODE_START + vec_len l.code) (drop l.piece-index l.pieces)
      ≡ l.initial.code.items ++ filled_from (goes_to (stands_to l.stands)) (CODE_START + vec_len l.initial.code) l.pieces;
  len : vec_len l.code + added_length (drop l.piece-index l.pieces) ≡ vec_len l.initial.code + added_length l.pieces;
  room : vec_len l.code + added_length (drop l.piece-index l.pieces) ≤ MAX_CODE;
}
