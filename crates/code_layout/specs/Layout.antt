-- A layout: fragments that were added one behind another, and their code once the distances between them are filled in.
use Rattle.std.specs.Prelude.{◌≡◌, ℕ, ◌+◌, ◌≤◌, ◌==◌, Bool, true, false, if◌then◌else◌, not, List, [], ◌∷◌, ◌++◌, length, take, drop, map, filter, flat_map, All}
use Rattle.std.specs.List.Sorted.{IsStrictlyIncreasing}
use Rattle.br_word.specs.Memory.{bytes_of}
use Rattle.elf_read.specs.declared.exe.Exe.{Exe}
use Rattle.elf_read.specs.Elf.{IsGuest}
use Rattle.run_model.specs.Edges.{Edge}
use Rattle.ia_encode.specs.declared.item.Dest.{Dest}
use Rattle.ia_encode.specs.declared.item.Dest.TheVariants as dests
use Rattle.ia_encode.specs.Items.{distance}
use Rattle.block_cut.specs.Transfers.{is_among}
use Rattle.trace_file.specs.Edges.{ascends}
use Rattle.flow_graph.specs.declared.error.TheConstants.{MAX_BLOCKS}
use Rattle.flow_graph.specs.GraphOf.{graph_of}
use Rattle.ssa_form.specs.declared.form.BlockKey.{BlockKey}
use Rattle.block_make.specs.Keys.{IsKey}
use Rattle.block_make.specs.declared.fragment.Fix.{Fix}
use Rattle.block_make.specs.FragmentCode.{OpenCode, code_of_items, coded}
use Rattle.code_layout.specs.declared.place.TheConstants.{CODE_START, MAX_CODE}
use Rattle.code_layout.specs.declared.built.Built.{Built}
use Rattle.code_layout.specs.Keys.{keys_of}
use Rattle.code_layout.specs.Linked.{entry_items, goes_out, code_of_keys, has_key, itself}
use Rattle.code_layout.specs.Image.{image_with}

-- a fragment that was added: the start of its block, and its code
pub record Added : Type 0 where
  pub start : ℕ
  pub code : OpenCode

-- what a layout is: the entry, whether a block starts there, and what was added; after want of memory it is spent
pub record LayoutView : Type 0 where
  pub entry : ℕ
  pub known : Bool
  pub added : List Added
  pub spent : Bool

-- the code at the entry
abbrev pub entry_code : LayoutView → OpenCode
entry_code v = code_of_items (entry_items v.entry v.known)

-- with one fragment more
abbrev pub with_added : LayoutView → ℕ → OpenCode → LayoutView
with_added v start code =
    record { entry = v.entry; known = v.known; added = v.added ++ (record { start = start; code = code } ∷ []); spent = v.spent }

-- ---- how long it is

abbrev pub added_length : List Added → ℕ
added_length [] = 0
added_length (a ∷ more) = length a.code.bytes + added_length more

abbrev pub code_length : LayoutView → ℕ
code_length v = length (entry_code v).bytes + added_length v.added

-- ---- its code

-- the address of the fragment of a start
abbrev pub added_at : ℕ → List Added → ℕ → ℕ
added_at at [] y = 0
added_at at (a ∷ more) y = if a.start == y then at else added_at (at + length a.code.bytes) more y

-- a word put over four bytes at an offset
abbrev pub with_word : ℕ → ℕ → List ℕ → List ℕ
with_word at w bytes = take at bytes ++ (bytes_of 4 w ++ drop (at + 4) bytes)

-- where a fix goes to: a block, or an address of the original
abbrev pub dest_of_fix : Fix → Dest
dest_of_fix f = if f.known then dests.Block f.target else dests.Original f.target

-- the distances of fixes are filled in, in code that stands at an address
abbrev pub filled : (Dest → ℕ) → ℕ → List Fix → List ℕ → List ℕ
filled goes at [] bytes = bytes
filled goes at (f ∷ fs) bytes = filled goes at fs (with_word f.at (distance (at + f.at + 4) (goes (dest_of_fix f))) bytes)

abbrev pub filled_code : (Dest → ℕ) → ℕ → OpenCode → List ℕ
filled_code goes at c = filled goes at c.fixes c.bytes

abbrev pub filled_from : (Dest → ℕ) → ℕ → List Added → List ℕ
filled_from goes at [] = []
filled_from goes at (a ∷ more) = filled_code goes at a.code ++ filled_from goes (at + length a.code.bytes) more

-- where the first fragment stands
abbrev pub added_from : LayoutView → ℕ
added_from v = CODE_START + length (entry_code v).bytes

-- the code at the entry, and the fragments behind it, with addresses of the original where out says
unfoldable pub layout_code : (ℕ → ℕ) → LayoutView → List ℕ
layout_code out v =
    let goes = goes_out (added_at (added_from v) v.added) out in
    filled_code goes CODE_START (entry_code v) ++ filled_from goes (added_from v) v.added

-- ---- where its parts stand, and where its jumps leave it

-- each start with the address of its fragment, where these stand one behind another from an address on
abbrev pub added_places : ℕ → List Added → List (ℕ × ℕ)
added_places at [] = []
added_places at (a ∷ more) = (a.start, at) ∷ added_places (at + length a.code.bytes) more

abbrev pub layout_places : LayoutView → List (ℕ × ℕ)
layout_places v = added_places (added_from v) v.added

-- the addresses of the original to which the jumps of code lead
abbrev pub fixes_out : List Fix → List ℕ
fixes_out fixes = map (λ (f : Fix). f.target) (filter (λ (f : Fix). not f.known) fixes)

-- those of a layout, in the order of its jumps
abbrev pub layout_outs : LayoutView → List ℕ
layout_outs v = fixes_out (entry_code v).fixes ++ flat_map (λ (a : Added). fixes_out a.code.fixes) v.added

-- ---- what is asked of it

-- a fragment of this start was added
abbrev pub is_added : List Added → ℕ → Bool
is_added list y = is_among (map (λ (a : Added). a.start) list) y

-- each fix lies in the fragment, and where it goes to a block, that one was added
pub record IsAddedFix (list : List Added) (count : ℕ) (f : Fix) : Type 0 where
  pub inside : f.at + 4 ≤ count
  pub there : f.known ≡ true → is_added list f.target ≡ true

abbrev pub AreAdded : List Added → List Added → Type 0
AreAdded list [] = Unit {0}
AreAdded list (b ∷ bs) = All (IsAddedFix list (length b.code.bytes)) b.code.fixes × AreAdded list bs

-- a layout whose file can be written: each known target was added, the entry exactly where it is known
pub record IsWhole (v : LayoutView) : Type 0 where
  pub targets : AreAdded v.added v.added
  pub entry : is_added v.added v.entry ≡ v.known

-- the file of its code
abbrev pub built_by : Exe → LayoutView → Built
built_by exe v = record { bytes = image_with exe (layout_code itself v); blocks = length v.added; code = code_length v }

-- ---- what it comes to

-- the fragments of keys, as they are added
abbrev pub added_of : Exe → List BlockKey → List Added
added_of exe keys = map (λ key. record { start = key.start; code = coded exe key }) keys

-- a layout of them
abbrev pub layout_of : Exe → List BlockKey → LayoutView
layout_of exe keys = record { entry = exe.entry; known = has_key keys exe.entry; added = added_of exe keys; spent = false }

-- Where the fragments of keys were added, filling in the distances gives the code of the keys, wherever addresses of the original
-- lie, and so much was counted.
pub record LayoutLinks : Type 0 where
  pub code : (out : ℕ → ℕ) (exe : Exe) (keys : List BlockKey) → code_length (layout_of exe keys) ≤ MAX_CODE
      → layout_code out (layout_of exe keys) ≡ code_of_keys out exe keys
  pub length_is : (out : ℕ → ℕ) (exe : Exe) (keys : List BlockKey)
      → length (code_of_keys out exe keys) ≡ code_length (layout_of exe keys)

-- The keys of a graph ascend by their starts, and their fragments make a whole layout: each known fix goes to the start of a key. Of
-- edges in order, not too many, a fragment can be made of each key.
pub record KeysAreKeys : Type 0 where
  pub ascend : (exe : Exe) (edges : List Edge) → IsGuest exe → IsStrictlyIncreasing (map (λ (key : BlockKey). key.start) (keys_of exe edges))
  pub whole : (exe : Exe) (edges : List Edge) → IsGuest exe → IsWhole (layout_of exe (keys_of exe edges))
  pub each : (exe : Exe) (edges : List Edge) → IsGuest exe → ascends edges ≡ true → length (graph_of exe edges) ≤ MAX_BLOCKS
      → All (IsKey exe) (keys_of exe edges)
