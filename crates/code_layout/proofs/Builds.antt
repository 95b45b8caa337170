-- The layout of all keys of a graph gives what is built.
use Rattle.std.proofs.Common.{◌≡◌, ℕ, ◌<◌, ◌≤◌, ◌↔◌, List, length, sym, ap, ◌∙◌, inl, inr, arith}
use Rattle.std.proofs.lemmas.Bool.{cases_lt}
use Rattle.std.proofs.lemmas.List.{length-map}
use Rattle.elf_read.specs.declared.exe.Exe.{Exe}
use Rattle.run_model.specs.Edges.{Edge}
use Rattle.flow_graph.specs.GraphOf.{graph_of}
use Rattle.ssa_form.specs.declared.form.BlockKey.{BlockKey}
use Rattle.block_make.specs.FragmentCode.{coded}
use Rattle.code_layout.specs.declared.place.TheConstants.{MAX_CODE}
use Rattle.code_layout.specs.declared.built.Built.{Built}
use Rattle.code_layout.specs.Keys.{live_of, key_of, keys_of}
use Rattle.code_layout.specs.Linked.{itself, code_of}
use Rattle.code_layout.specs.Image.{image_with, built_of, IsTooLong}
use Rattle.code_layout.specs.Layout.{code_length, added_of, layout_of, built_by, LayoutLinks}
use Rattle.code_layout.specs.Growth.{LayoutsBuild}

keys_counted : (exe : Exe) (edges : List Edge) → length (keys_of exe edges) ≡ length (graph_of exe edges)
unfolding keys_of
keys_counted exe edges = length-map (graph_of exe edges) (key_of (live_of exe edges))

count_is : (exe : Exe) (edges : List Edge) → length (added_of exe (keys_of exe edges)) ≡ length (graph_of exe edges)
count_is exe edges =
    length-map (keys_of exe edges) (λ (key : BlockKey). record { start = key.start; code = coded exe key }) ∙ keys_counted exe edges

module _ (links : LayoutLinks) where
  module _ (exe : Exe) (edges : List Edge) where
    length_is : length (code_of exe edges) ≡ code_length (layout_of exe (keys_of exe edges))
    unfolding code_of
    length_is = links.length_is itself exe (keys_of exe edges)

    is_long : (MAX_CODE < code_length (layout_of exe (keys_of exe edges))) ↔ IsTooLong exe edges
    is_long = (λ l. omega (arith, l, length_is), λ l. omega (arith, l, length_is))

    fits : (IsTooLong exe edges → ⊥) → code_length (layout_of exe (keys_of exe edges)) ≤ MAX_CODE
    fits f =
        elim (cases_lt MAX_CODE (length (code_of exe edges))) as (λ _. code_length (layout_of exe (keys_of exe edges)) ≤ MAX_CODE) [
          | inl lt ↦ absurd (f lt)
          | inr ge ↦ omega (arith, ge, length_is)
        ]

    built_is : (IsTooLong exe edges → ⊥) → built_by exe (layout_of exe (keys_of exe edges)) ≡ built_of exe edges
    unfolding code_of
    built_is f =
        let ks = keys_of exe edges in
        let made : List ℕ → ℕ → ℕ → Built = λ bytes blocks code. record { bytes = image_with exe bytes; blocks = blocks; code = code } in
        ap (λ b. made b (length (added_of exe ks)) (code_length (layout_of exe ks))) (links.code itself exe ks (fits f))
        ∙ ap (λ n. made (code_of exe edges) n (code_length (layout_of exe ks))) (count_is exe edges)
        ∙ ap (made (code_of exe edges) (length (graph_of exe edges))) (sym length_is)

  pub builds : LayoutsBuild
  builds = record { count = λ exe edges. keys_counted exe edges; long = λ exe edges. is_long exe edges; built = λ exe edges f. built_is exe edges f }
