-- The pieces behind the fragments of a layout, and where their jumps lead.
use Rattle.std.specs.Prelude.{◌≡◌, ℕ, ◌+◌, ◌≤◌, ◌==◌, if◌then◌else◌, List, [], ◌∷◌, ◌++◌, map, All}
use Rattle.elf_read.specs.declared.exe.Exe.{Exe}
use Rattle.block_cut.specs.Transfers.{is_among}
use Rattle.ia_encode.specs.Items.{goes_to}
use Rattle.code_layout.specs.declared.place.TheConstants.{CODE_START, MAX_CODE}
use Rattle.code_layout.specs.Layout.{Added, LayoutView, added_length, added_places, code_length, filled_from, layout_code, layout_outs, layout_places}
use Rattle.code_layout.specs.Places.{place_in, AddressesAscend}
use Rattle.cold_copy.specs.declared.linking.Stands.{Stands}
use Rattle.cold_copy.specs.declared.behind.Tail.{Tail}
use Rattle.cold_copy.specs.ColdCode.{copies_by, reentered_from, reentry_at, turn_piece}
use Rattle.cold_copy.specs.Behind.{IsWithin, joined, opened}

-- where a jump of a piece to a block leads: to the dispatcher by 0, to a fragment by the start of its block, else to a copy
abbrev pub stands_to : Stands → ℕ → ℕ
stands_to s y = if y == 0 then s.turn else (if is_among s.starts.items y then place_in s.blocks y else place_in s.copies y)

-- all pieces before they are linked
abbrev pub tail_pieces : Exe → List ℕ → List ℕ → LayoutView → List Added
tail_pieces exe blocks cold v =
    map opened (copies_by exe blocks cold)
    ++ (map opened (map reentry_at (reentered_from exe (layout_outs v) blocks)) ++ (opened (turn_piece blocks cold) ∷ []))

-- these are they, each kind with the offset at which it begins
pub record IsTail (exe : Exe) (blocks cold : List ℕ) (v : LayoutView) (t : Tail) : Type 0 where
  pub at : t.at ≡ code_length v
  pub copies : t.copies.pieces.items ≡ map opened (copies_by exe blocks cold)
  pub again_at : t.copies.len ≡ t.at + added_length t.copies.pieces.items
  pub again : t.reentries.pieces.items ≡ map opened (map reentry_at (reentered_from exe (layout_outs v) blocks))
  pub turn_at : t.reentries.len ≡ t.copies.len + added_length t.reentries.pieces.items
  pub turn : t.turn.pieces.items ≡ opened (turn_piece blocks cold) ∷ []
  pub end : t.turn.len ≡ t.reentries.len + added_length t.turn.pieces.items
  pub short : t.turn.len ≤ MAX_CODE

-- the same by the parts of what stands
abbrev pub stands_by : ℕ → List ℕ → List (ℕ × ℕ) → List (ℕ × ℕ) → ℕ → ℕ
stands_by turn starts blocks copies y = if y == 0 then turn else (if is_among starts y then place_in blocks y else place_in copies y)

-- where the copies and the re-entries of a tail stand
abbrev pub tail_copies : Tail → List (ℕ × ℕ)
tail_copies t = added_places (CODE_START + t.at) t.copies.pieces.items

abbrev pub tail_again : Tail → List (ℕ × ℕ)
tail_again t = added_places (CODE_START + t.copies.len) t.reentries.pieces.items

-- a tail that can be linked behind a layout: its kinds of pieces follow one another, each fix lies in its piece, and each start has one copy
-- or one re-entry
pub record IsReady (v : LayoutView) (t : Tail) : Type 0 where
  pub at : t.at ≡ code_length v
  pub again_at : t.copies.len ≡ t.at + added_length t.copies.pieces.items
  pub turn_at : t.reentries.len ≡ t.copies.len + added_length t.reentries.pieces.items
  pub end : t.turn.len ≡ t.reentries.len + added_length t.turn.pieces.items
  pub short : t.turn.len ≤ MAX_CODE
  pub copies : All (λ (a : Added). IsWithin a.code) t.copies.pieces.items
  pub again : All (λ (a : Added). IsWithin a.code) t.reentries.pieces.items
  pub turn : All (λ (a : Added). IsWithin a.code) t.turn.pieces.items
  pub ascend : AddressesAscend (tail_copies t)
  pub all_ascend : AddressesAscend (joined (tail_copies t) (tail_again t))

-- the code of a layout and a tail
abbrev pub linked_code : LayoutView → List ℕ → Tail → List ℕ
linked_code v starts t =
    let to = goes_to (stands_by (CODE_START + t.reentries.len) starts (layout_places v) (tail_copies t)) in
    layout_code (place_in (joined (tail_copies t) (tail_again t))) v
    ++ (filled_from to (CODE_START + t.at) t.copies.pieces.items
    ++ (filled_from to (CODE_START + t.copies.len) t.reentries.pieces.items
    ++ filled_from to (CODE_START + t.reentries.len) t.turn.pieces.items))
