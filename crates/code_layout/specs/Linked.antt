-- The recovered code as a whole: the code at the entry, and the fragments of all blocks behind it, every distance filled in.
use Rattle.std.specs.Prelude.{ℕ, ◌+◌, ◌==◌, Bool, true, false, if◌then◌else◌, List, [], ◌∷◌, ◌++◌, map, None}
use Rattle.elf_read.specs.declared.exe.Exe.{Exe}
use Rattle.run_model.specs.Edges.{Edge}
use Rattle.ia_encode.specs.declared.item.Dest.{Dest}
use Rattle.ia_encode.specs.declared.item.Dest.TheVariants as dests
use Rattle.ia_encode.specs.declared.item.Item.{Item}
use Rattle.ia_encode.specs.declared.item.Item.TheVariants as item
use Rattle.ia_encode.specs.Items.{size_of_items, bytes_of_items, with_labels}
use Rattle.ssa_form.specs.declared.form.BlockKey.{BlockKey}
use Rattle.par_moves.specs.Homes.{register_homes}
use Rattle.fall_stubs.specs.Exchange.{capture_items}
use Rattle.block_cut.specs.Transfers.{is_among}
use Rattle.block_make.specs.FragmentItems.{items_of}
use Rattle.code_layout.specs.declared.place.TheConstants.{CODE_START}
use Rattle.code_layout.specs.Keys.{keys_of}

-- a fragment as it is laid out: the start of its block, and its items
pub record Fragment : Type 0 where
  pub start : ℕ
  pub items : List Item

-- the code at the entry: the state is taken over and the block of the entry is next, or the original's entry where no block starts there
abbrev pub entry_items : ℕ → Bool → List Item
entry_items entry true = capture_items register_homes ++ (item.Jump None (dests.Block entry) ∷ [])
entry_items entry false = item.Jump None (dests.Original entry) ∷ []

-- the address of the fragment of a start, where the fragments stand one behind another from an address on
abbrev pub address_in : ℕ → List Fragment → ℕ → ℕ
address_in at [] y = 0
address_in at (f ∷ fs) y = if f.start == y then at else address_in (at + size_of_items f.items) fs y

-- where destinations lie: a block at the address of its fragment, an address of the original where out says
abbrev pub goes_out : (ℕ → ℕ) → (ℕ → ℕ) → Dest → ℕ
goes_out address out (dests.Block start) = address start
goes_out address out (dests.Original place) = out place
goes_out address out (dests.Label l) = 0

-- the bytes of items at an address, by where destinations lie
abbrev pub bytes_at : (Dest → ℕ) → ℕ → List Item → List ℕ
bytes_at goes at is = bytes_of_items (with_labels goes at is) at is

-- of fragments, one behind another
abbrev pub bytes_from : (Dest → ℕ) → ℕ → List Fragment → List ℕ
bytes_from goes at [] = []
bytes_from goes at (f ∷ fs) = bytes_at goes at f.items ++ bytes_from goes (at + size_of_items f.items) fs

-- where the first fragment stands, behind the code at the entry
abbrev pub first_at : List Item → ℕ
first_at entry = CODE_START + size_of_items entry

-- the code at the entry and the fragments, with addresses of the original where out says
unfoldable pub linked : (ℕ → ℕ) → List Item → List Fragment → List ℕ
linked out entry fs =
    let goes = goes_out (address_in (first_at entry) fs) out in
    bytes_at goes CODE_START entry ++ bytes_from goes (first_at entry) fs

-- ---- of an executable and edges

-- the fragments of keys
abbrev pub fragments_of : Exe → List BlockKey → List Fragment
fragments_of exe keys = map (λ key. record { start = key.start; items = items_of exe key }) keys

-- a key of this start
abbrev pub has_key : List BlockKey → ℕ → Bool
has_key keys y = is_among (map (λ (key : BlockKey). key.start) keys) y

-- the code of keys
abbrev pub code_of_keys : (ℕ → ℕ) → Exe → List BlockKey → List ℕ
code_of_keys out exe keys = linked out (entry_items exe.entry (has_key keys exe.entry)) (fragments_of exe keys)

-- an address of the original lies at itself, where nothing of it is copied
abbrev pub itself : ℕ → ℕ
itself y = y

-- the recovered code
unfoldable pub code_of : Exe → List Edge → List ℕ
code_of exe edges = code_of_keys itself exe (keys_of exe edges)
