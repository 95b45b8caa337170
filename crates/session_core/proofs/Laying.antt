-- One fragment more of a layout: a kept one or a new one.
use Rattle.std.proofs.Common.{◌≡◌, ℕ, ◌+◌, ◌<◌, ◌≤◌, List, [], ◌∷◌, ◌++◌, length, get_or, drop, refl, sym, ap, subst, ◌∙◌, arith, All}
use Rattle.std.proofs.lemmas.List.{drop_more, get_or-map, length-map}
use Rattle.elf_read.specs.declared.exe.Exe.{Exe}
use Rattle.ssa_form.specs.declared.form.BlockKey.{BlockKey}
use Rattle.block_make.specs.declared.fragment.Fix.{Fix}
use Rattle.block_make.specs.FragmentCode.{OpenCode, coded}
use Rattle.code_layout.specs.Layout.{LayoutView, with_added, added_of}
use Rattle.run_model.specs.Edges.{Edge}
use Rattle.flow_graph.specs.GraphOf.{graph_of}
use Rattle.code_layout.specs.Keys.{keys_of}
use Rattle.code_layout.specs.Growth.{LayoutsBuild}
use Rattle.session_core.specs.Kept.{codes_of}

-- the fragment at the place of a kept key is that of the key
pub kept_inside : (exe : Exe) (before : List BlockKey) (kept : List OpenCode) (at : ℕ) → kept ≡ codes_of exe before → at < length before → at < length kept
kept_inside exe before kept at e l = let n : length kept ≡ length before = ap length e ∙ length-map before (coded exe) in omega (arith, l, n)

pub kept_is : (exe : Exe) (before : List BlockKey) (kept : List OpenCode) (at : ℕ) (key : BlockKey) → kept ≡ codes_of exe before → at < length before → get_or before at key ≡ key
    → get_or kept at (coded exe key) ≡ coded exe key
kept_is exe before kept at key e l is =
    ap (λ xs. get_or xs at (coded exe key)) e ∙ get_or-map (coded exe) before at key (coded exe key) l ∙ ap (coded exe) is

-- fixes lie in a fragment
pub fixes_in : (exe : Exe) (key : BlockKey) (code : OpenCode) → code ≡ coded exe key → All (λ (f : Fix). f.at + 4 ≤ length (coded exe key).bytes) (coded exe key).fixes
    → All (λ (f : Fix). f.at + 4 ≤ length code.bytes) code.fixes
fixes_in exe key code e h = subst (λ (c : OpenCode). All (λ (f : Fix). f.at + 4 ≤ length c.bytes) c.fixes) (sym e) h

append_one : {X : Type 0} (xs : List X) (x : X) (ys : List X) → (xs ++ (x ∷ [])) ++ ys ≡ xs ++ (x ∷ ys)
append_one [] x ys = refl
append_one (y ∷ xs) x ys = ap (λ t. y ∷ t) (append_one xs x ys)

module _ (exe : Exe) (keys : List BlockKey) (i : ℕ) (key : BlockKey) (l : i < length keys) (is : key ≡ get_or keys i key) where
  first_on : drop i keys ≡ key ∷ drop (i + 1) keys
  first_on = drop_more keys i key l ∙ ap (λ (k : BlockKey). k ∷ drop (i + 1) keys) (sym is)

  pub more_added : (v w : LayoutView) (code : OpenCode) → code ≡ coded exe key → w ≡ with_added v key.start code
      → v.added ++ added_of exe (drop i keys) ≡ added_of exe keys → w.added ++ added_of exe (drop (i + 1) keys) ≡ added_of exe keys
  more_added v w code e n all =
      ap (λ (x : LayoutView). x.added ++ added_of exe (drop (i + 1) keys)) n
      ∙ ap (λ (c : OpenCode). (v.added ++ (record { start = key.start; code = c } ∷ [])) ++ added_of exe (drop (i + 1) keys)) e
      ∙ append_one v.added (record { start = key.start; code = coded exe key }) (added_of exe (drop (i + 1) keys))
      ∙ ap (λ ks. v.added ++ added_of exe ks) (sym first_on)
      ∙ all

  pub more_codes : (list new : List OpenCode) (code : OpenCode) → code ≡ coded exe key → new ≡ list ++ (code ∷ [])
      → list ++ codes_of exe (drop i keys) ≡ codes_of exe keys → new ++ codes_of exe (drop (i + 1) keys) ≡ codes_of exe keys
  more_codes list new code e n all =
      ap (λ xs. xs ++ codes_of exe (drop (i + 1) keys)) n
      ∙ append_one list code (codes_of exe (drop (i + 1) keys))
      ∙ ap (λ (c : OpenCode). list ++ (c ∷ codes_of exe (drop (i + 1) keys))) e
      ∙ ap (λ ks. list ++ codes_of exe ks) (sym first_on)
      ∙ all

-- the layout of the keys of a graph has as many fragments as the graph has blocks
pub added_count : LayoutsBuild → (exe : Exe) (edges : List Edge) → length (added_of exe (keys_of exe edges)) ≡ length (graph_of exe edges)
added_count build exe edges = length-map (keys_of exe edges) (λ (key : BlockKey). record { start = key.start; code = coded exe key }) ∙ build.count exe edges
