-- The dispatcher: from a captured state with an address in slot 15 to its block, its copy, or the original (SDM volume 2: CMP, JB, JZ).
use Rattle.std.specs.Prelude.{ℕ, zero, suc, ◌+◌, ◌*◌, ◌/◌, nat_lt, Bool, true, false, List, [], ◌∷◌, ◌++◌, length, take, drop, get_or, Some, None, if◌then◌else◌}
use Rattle.br_word.specs.declared.types.Width.TheVariants.{B32}
use Rattle.ia_inst.specs.declared.inst.Rm.TheVariants as rm
use Rattle.ia_inst.specs.declared.inst.Src.TheVariants as src
use Rattle.ia_inst.specs.declared.inst.Inst.TheVariants.{Alu, JmpRm}
use Rattle.ia_encode.specs.declared.item.Dest.{Dest}
use Rattle.ia_encode.specs.declared.item.Dest.TheVariants as dests
use Rattle.ia_encode.specs.declared.item.Item.{Item}
use Rattle.ia_encode.specs.declared.item.Item.TheVariants as item
use Rattle.par_moves.specs.declared.locations.Place.TheVariants.{Slot}
use Rattle.par_moves.specs.Locations.{rm_of}
use Rattle.block_cut.specs.Transfers.{is_among}
use Rattle.fall_stubs.specs.Exchange.{reg_from_slot, restore_items}

-- ---- one ascending list of two

abbrev pub merge_step : ℕ → (List ℕ → List ℕ) → List ℕ → List ℕ
merge_step x rest [] = x ∷ rest []
merge_step x rest (y ∷ ys) = if nat_lt y x then (y ∷ merge_step x rest ys) else (x ∷ rest (y ∷ ys))

-- the numbers of both, the lower first
abbrev pub merged : List ℕ → List ℕ → List ℕ
merged [] ys = ys
merged (x ∷ xs) ys = merge_step x (merged xs) ys

-- ---- the search by halves

abbrev pub compare_with : ℕ → Item
compare_with x = item.Inst (Alu 7 B32 (rm.Reg 0) (src.Imm x))

-- Of k members from index i on: the label of member j is 1 + j, that of a miss `miss`; inner nodes take labels from `fresh` on, one less
-- than there are members. `fuel` is at least k.
unfoldable pub tree : ℕ → List ℕ → ℕ → ℕ → ℕ → List Item
tree zero l i miss fresh = []
tree (suc n) [] i miss fresh = []
tree (suc n) (x ∷ []) i miss fresh = compare_with x ∷ item.Jump (Some 4) (dests.Label (1 + i)) ∷ item.Jump None (dests.Label miss) ∷ []
tree (suc n) (x ∷ y ∷ ys) i miss fresh =
    let l = x ∷ y ∷ ys in let half = length l / 2 in
    compare_with (get_or l half 0) ∷ item.Jump (Some 2) (dests.Label fresh)
    ∷ (tree n (drop half l) (i + half) miss (fresh + half) ++ (item.Label fresh ∷ tree n (take half l) i miss (suc fresh)))

-- ---- what is met, and a miss

-- the block of a start, or a copy with the state in its registers; RESTORE takes a label of its own
abbrev pub hit : (ℕ → Dest) → Bool → ℕ → ℕ → List Item
hit to true x label = item.Jump None (dests.Block x) ∷ []
hit to false x label = restore_items label ++ (item.Jump None (to x) ∷ [])

abbrev pub hits : (ℕ → Dest) → (ℕ → Bool) → List ℕ → ℕ → ℕ → List Item
hits to is_start [] i label = []
hits to is_start (x ∷ xs) i label = item.Label (1 + i) ∷ (hit to (is_start x) x label ++ hits to is_start xs (suc i) (suc label))

-- the state to its registers, and to the address in slot 15
abbrev pub missed : ℕ → ℕ → List Item
missed miss label = item.Label miss ∷ (restore_items label ++ (item.Inst (JmpRm (rm_of (Slot 15))) ∷ []))

-- of all starts and cold starts, ascending; none where there are none
abbrev pub dispatcher_of : (ℕ → Dest) → (ℕ → Bool) → List ℕ → List Item
dispatcher_of to is_start [] = []
dispatcher_of to is_start (x ∷ xs) =
    let l = x ∷ xs in let n = length l in
    item.Inst (reg_from_slot 0 15)
    ∷ (tree n l 0 (1 + n) (2 + n) ++ (hits to is_start l 0 (2 + 2 * n) ++ missed (1 + n) (2 + 3 * n)))

-- the dispatcher, by its label
abbrev pub dispatcher_items : List ℕ → List ℕ → List Item
dispatcher_items starts cold = item.Label 0 ∷ dispatcher_of dests.Label (is_among starts) (merged starts cold)
