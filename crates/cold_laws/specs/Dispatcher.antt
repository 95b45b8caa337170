-- The dispatcher: a tree of comparisons, and what is met.
use Rattle.std.specs.Prelude.{◌≡◌, ◌≢◌, ◌<◌, ◌||◌, ◌^◌, All, ℕ, Bool, List, [], length}
use Rattle.std.specs.List.Sorted.{IsStrictlyIncreasing}
use Rattle.ia_encode.specs.declared.item.Dest.TheVariants as dests
use Rattle.ia_encode.specs.declared.item.Item.{Item}
use Rattle.ia_encode.specs.Items.{Stands, dest_at}
use Rattle.elf_read.specs.declared.exe.Exe.{Exe}
use Rattle.par_moves.specs.Homes.{register_homes}
use Rattle.block_cut.specs.Transfers.{is_among}
use Rattle.code_laws.specs.Seen.{IsCode}
use Rattle.piece_laws.specs.Exchange.{HomesMeet}
use Rattle.sim_runs.specs.Relation.{Plan}
use Rattle.cold_code.specs.Dispatcher as code
use Rattle.cold_laws.specs.Copies.{Copies}
use Rattle.cold_laws.specs.Ends.{AreLow, goes_cold, Dispatches}

-- what is met, and the whole
abbrev pub hit : Bool → ℕ → ℕ → List Item
hit start x label = code.hit dests.Block start x label

abbrev pub hits : (ℕ → Bool) → List ℕ → ℕ → ℕ → List Item
hits is_start l i label = code.hits dests.Block is_start l i label

abbrev pub dispatcher_of : (ℕ → Bool) → List ℕ → List Item
dispatcher_of is_start l = code.dispatcher_of dests.Block is_start l

-- The dispatcher of an ascending list of just the starts and the cold starts leads on, wherever it stands. There is at least one: with none
-- it would be empty.
abbrev pub DispatcherRuns : Type 0
DispatcherRuns = (exe : Exe) (plan : Plan) (copies : Copies) (l : List ℕ) (to : ℕ)
    → IsCode plan.code → HomesMeet register_homes plan → AreLow plan copies → l ≢ [] → IsStrictlyIncreasing l → All (λ x. x < 2 ^ 32) l → length l < 2 ^ 18
    → ((x : ℕ) → is_among l x ≡ (plan.is_start x || copies.cold x))
    → Stands (dest_at (goes_cold plan copies) copies.turn (dispatcher_of plan.is_start l)) plan.code copies.turn (dispatcher_of plan.is_start l) to
    → Dispatches plan copies exe
