-- Layouts that take the fragments of keys one after another, and what the layout of all keys of a graph gives.
use Rattle.std.specs.Prelude.{◌≡◌, ℕ, ◌+◌, ◌<◌, ◌≤◌, ◌↔◌, List, ◌++◌, length, get_or, drop, map, All}
use Rattle.std.specs.List.Sorted.{IsStrictlyIncreasing}
use Rattle.elf_read.specs.declared.exe.Exe.{Exe}
use Rattle.run_model.specs.Edges.{Edge}
use Rattle.flow_graph.specs.GraphOf.{graph_of}
use Rattle.ssa_form.specs.declared.form.BlockKey.{BlockKey}
use Rattle.block_make.specs.declared.fragment.Fix.{Fix}
use Rattle.block_make.specs.FragmentCode.{coded}
use Rattle.code_layout.specs.declared.place.TheConstants.{MAX_CODE}
use Rattle.code_layout.specs.Keys.{keys_of}
use Rattle.code_layout.specs.Linked.{has_key}
use Rattle.code_layout.specs.Image.{built_of, IsTooLong}
use Rattle.code_layout.specs.Layout.{Added, LayoutView, with_added, code_length, IsWhole, added_of, layout_of, built_by}

-- the fragments of the keys before an index were added, and this key is the next
pub record IsNext (exe : Exe) (keys : List BlockKey) (v : LayoutView) (i : ℕ) (key : BlockKey) : Type 0 where
  pub inside : i < length keys
  pub is : key ≡ get_or keys i key
  pub added : v.added ++ added_of exe (drop i keys) ≡ added_of exe keys

-- Of keys in order, the next one starts above those before; in a whole layout the fixes of its fragment lie in it; and no part of a
-- layout is longer than all of it.
pub record LayoutsGrow : Type 0 where
  pub order : (exe : Exe) (keys : List BlockKey) (v : LayoutView) (i : ℕ) (key : BlockKey) → IsNext exe keys v i key
      → IsStrictlyIncreasing (map (λ (k : BlockKey). k.start) keys) → All (λ (a : Added). a.start < key.start) v.added
  pub fixes : (exe : Exe) (keys : List BlockKey) (v : LayoutView) (i : ℕ) (key : BlockKey) → IsNext exe keys v i key
      → IsWhole (layout_of exe keys) → All (λ (f : Fix). f.at + 4 ≤ length (coded exe key).bytes) (coded exe key).fixes
  pub part : (exe : Exe) (keys : List BlockKey) (v : LayoutView) (i : ℕ) (key : BlockKey) → IsNext exe keys v i key
      → v.entry ≡ exe.entry → v.known ≡ has_key keys exe.entry
      → code_length (with_added v key.start (coded exe key)) ≤ code_length (layout_of exe keys)

-- The keys of a graph are as many as its blocks; their layout is too long exactly where the code is, and else gives what is built.
pub record LayoutsBuild : Type 0 where
  pub count : (exe : Exe) (edges : List Edge) → length (keys_of exe edges) ≡ length (graph_of exe edges)
  pub long : (exe : Exe) (edges : List Edge) → (MAX_CODE < code_length (layout_of exe (keys_of exe edges))) ↔ IsTooLong exe edges
  pub built : (exe : Exe) (edges : List Edge) → (IsTooLong exe edges → ⊥)
      → built_by exe (layout_of exe (keys_of exe edges)) ≡ built_of exe edges
