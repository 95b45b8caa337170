-- A run of n + m steps is one of n steps and then one of m.
use Rattle.std.specs.Prelude.{◌≡◌, ℕ, ◌+◌, List, [], ◌++◌, drop, ◌↔◌}
use Rattle.br_word.specs.State.{State}
use Rattle.run_model.specs.Edges.{edges_from}
use Rattle.run_model.specs.Run.{run, WellDefined}

-- the second part goes on with the choices that are left
abbrev pub RunsSplit : Type 0
RunsSplit = (n m : ℕ) (s : State) (cs : List ℕ) → run (n + m) s cs ≡ run m (run n s cs) (drop n cs)

-- its edges are those of both parts
abbrev pub EdgesSplit : Type 0
EdgesSplit = (n m : ℕ) (s : State) → edges_from (n + m) s ≡ edges_from n s ++ edges_from m (run n s [])

-- it is well defined where both parts are
abbrev pub WellDefinedSplits : Type 0
WellDefinedSplits = (n m : ℕ) (s : State) → WellDefined (n + m) s ↔ (WellDefined n s × WellDefined m (run n s []))
