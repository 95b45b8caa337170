-- The exchange of state in the simulation's words, whichever virtual registers live in registers.
use Rattle.std.specs.Prelude.{◌≡◌, ℕ, ◌+◌, ◌^◌, ◌<◌, List, length}
use Rattle.br_word.specs.Memory.{Region}
use Rattle.br_word.specs.State.{State}
use Rattle.par_moves.specs.Homes.{AreHomes, home_in}
use Rattle.ssa_form.specs.Agree.{AreBits}
use Rattle.ia_encode.specs.declared.item.Dest.{Dest}
use Rattle.ia_encode.specs.Items.{Stands}
use Rattle.fall_stubs.specs.Exchange.{island_items, closing_items}
use Rattle.code_laws.specs.Exchange.{Homes}
use Rattle.code_laws.specs.Laws.{own_start}
use Rattle.code_laws.specs.Seen.{Cells, IsCode, Sees}
use Rattle.sim_runs.specs.Relation.{Plan, at_home}
use Rattle.sim_runs.specs.Laws.{Leads, Opens, Captured}
use Rattle.sim_runs.specs.Image.{Capturable}

-- the plan's homes are those of the exchange, and its code is there
pub record HomesMeet (homes : Homes) (plan : Plan) : Type 0 where
  pub are : AreHomes homes
  pub home : (v : ℕ) → v < 14 → plan.home v ≡ home_in homes v
  pub here : IsCode plan.code

-- The items of a native instruction lead to its own bytes, which begin from what the homes hold.
abbrev pub OpensJoined : Type 0
OpensJoined = (homes : Homes) (plan : Plan) (dest : Dest → ℕ) → HomesMeet homes plan
    → (x label to : ℕ) (bytes : List ℕ) (next : Dest) (t : State) (a : Cells) (cs : List ℕ)
    → Stands dest plan.code (plan.address x) (island_items homes bytes label next) to
    → own_start homes label (plan.address x) ≡ plan.native x
    → Sees plan.code t a → t.eip ≡ plan.address x → AreBits (at_home plan a) → Leads (Opens plan x a) (length homes + 28) t cs

-- From the byte behind them to the fragment of a start, whose homes then hold registers and flags.
abbrev pub ClosesJoined : Type 0
ClosesJoined = (homes : Homes) (plan : Plan) (dest : Dest → ℕ) → HomesMeet homes plan
    → (label at to y : ℕ) (bytes : List ℕ) (next : Dest) (t : State) (outer : List Region) (cs : List ℕ)
    → Stands dest plan.code at (island_items homes bytes label next) to → dest next ≡ plan.address y → plan.address y < 2 ^ 32
    → Capturable plan outer t → t.eip ≡ own_start homes label at + length bytes
    → Leads (Captured plan y outer t) (14 + length homes) t cs

-- So do a capture and the jump behind it alone, as at the entry.
abbrev pub EntersJoined : Type 0
EntersJoined = (homes : Homes) (plan : Plan) (dest : Dest → ℕ) → HomesMeet homes plan
    → (to y : ℕ) (next : Dest) (t : State) (outer : List Region) (cs : List ℕ)
    → Stands dest plan.code t.eip (closing_items homes next) to → dest next ≡ plan.address y → plan.address y < 2 ^ 32
    → Capturable plan outer t → Leads (Captured plan y outer t) (14 + length homes) t cs
