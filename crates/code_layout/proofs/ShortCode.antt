-- The code of a graph of small blocks is short.
use Rattle.std.proofs.Common.{ℕ, ◌*◌, ◌≤◌, Bool, true, false, List, [], ◌∷◌, length, map, arith}
use Rattle.std.specs.Prelude.{All}
use Rattle.std.proofs.Math.Nat.{suc-mul}
use Rattle.std.proofs.lemmas.List.{length-map}
use Rattle.std.proofs.lemmas.List.Elements.{All-head, All-tail}
use Rattle.elf_read.specs.declared.exe.Exe.{Exe}
use Rattle.ia_encode.specs.Items.{size_of_items, dest_at}
use Rattle.flow_graph.specs.Graph.{Node}
use Rattle.flow_graph.specs.GraphOf.{graph_of}
use Rattle.block_make.specs.FragmentCode.{coded}
use Rattle.block_make.specs.CodesShort.{most_bytes, CodesShort}
use Rattle.code_layout.specs.Keys.{live_of, key_of, keys_of}
use Rattle.code_layout.specs.Linked.{entry_items, has_key, itself, code_of}
use Rattle.code_layout.specs.Layout.{added_length, added_of}
use Rattle.code_layout.specs.CodeShort.{IsWithin, ENTRY_BYTES, CodeShort}
use Rattle.code_layout.proofs.Links.{length_open, length_links}

entry_short : (entry : ℕ) (known : Bool) → size_of_items (entry_items entry known) ≤ ENTRY_BYTES
entry_short entry true = omega arith
entry_short entry false = omega arith

module _ (codes : CodesShort) (exe : Exe) (live : ℕ → ℕ) (instructions exits : ℕ) where
  coded_short : (b : Node) → IsWithin exe instructions exits b → length (coded exe (key_of live b)).bytes ≤ most_bytes instructions exits
  coded_short b h =
      let c = codes exe (key_of live b) in
      let n = length-map {B = ℕ × ℕ} b.known (λ (y : ℕ). (y, live y)) in
      let i = h.short in
      let k = h.few in
      omega (arith, c, n, i, k)

  added_short : (nodes : List Node) → All (IsWithin exe instructions exits) nodes
      → added_length (added_of exe (map (key_of live) nodes)) ≤ length nodes * most_bytes instructions exits
  added_short [] h = omega arith
  added_short (b ∷ nodes) h =
      let a = coded_short b (All-head (IsWithin exe instructions exits) b nodes h) in
      let t = added_short nodes (All-tail (IsWithin exe instructions exits) b nodes h) in
      let e = suc-mul (length nodes) (most_bytes instructions exits) in
      omega (arith, a, t, e)

pub code_short : CodesShort → CodeShort
unfolding code_of keys_of
code_short codes exe edges instructions exits h =
    let entry = entry_items exe.entry (has_key (keys_of exe edges) exe.entry) in
    let a = length_links exe itself (keys_of exe edges) in
    let b = added_short codes exe (live_of exe edges) instructions exits (graph_of exe edges) h in
    let c = length_open (dest_at (λ y. 0) 0 entry) 0 entry in
    let d = entry_short exe.entry (has_key (keys_of exe edges) exe.entry) in
    omega (arith, a, b, c, d)
