-- Rows of the tests.
use Rattle.std.specs.Prelude.{true, false, List, [], ◌∷◌}
use Rattle.live_flow.specs.declared.row.LiveRow.{LiveRow}

-- a block that reads eax and may leave by a side exit, one that jumps back to it, and one that branches back to that and to itself
abbrev pub chain : List LiveRow
chain =
    record { start = 16; uses = 1; passes = 6; fallback = true; next = [] } ∷
    record { start = 32; uses = 0; passes = 3; fallback = false; next = 16 ∷ [] } ∷
    record { start = 48; uses = 8; passes = 5; fallback = false; next = 32 ∷ 48 ∷ [] } ∷ []
