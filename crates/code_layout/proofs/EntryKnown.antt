-- Whether a block of a graph starts at an address, and whether a key does.
use Rattle.std.proofs.Common.{◌≡◌, ℕ, zero, suc, Bool, true, false, ◌||◌, ◌↔◌, List, [], ◌∷◌, map, Option, Some, None, refl, sym, ap, ◌∙◌, arith}
use Rattle.std.specs.Prelude.{◌==◌, is_some}
use Rattle.std.proofs.lemmas.Bool.Decides.{nat_tests}
use Rattle.elf_read.specs.declared.exe.Exe.{Exe}
use Rattle.run_model.specs.Edges.{Edge}
use Rattle.block_cut.specs.Transfers.{is_among}
use Rattle.flow_graph.specs.Graph.{Node, starts_in, StartsAt}
use Rattle.flow_graph.specs.GraphOf.{graph_of}
use Rattle.ssa_form.specs.declared.form.BlockKey.{BlockKey}
use Rattle.code_layout.specs.Keys.{live_of, key_of, keys_of}
use Rattle.code_layout.specs.Linked.{has_key}

either : (a b : Bool) → b ≡ true → (a || b) ≡ true
either true b e = refl
either false b e = e

module _ (y : ℕ) where
  here : (nodes : List Node) (i : ℕ) → StartsAt nodes i y → is_among (starts_in nodes) y ≡ true
  here [] i (l, e) = absurd (omega (arith, l))
  here (n ∷ nodes) zero (l, e) = first (y == n.start) (grind (arith, nat_tests))
    where
      first : (b : Bool) → b ≡ true → (b || is_among (starts_in nodes) y) ≡ true
      first true e = refl
      first false e = cc
  here (n ∷ nodes) (suc i) (l, e) = either (y == n.start) (is_among (starts_in nodes) y) (here nodes i (omega (arith, l), e))

  there : (nodes : List Node) → is_among (starts_in nodes) y ≡ true → (i : ℕ) × StartsAt nodes i y
  there [] e = cc
  there (n ∷ nodes) e = go (y == n.start) refl e (there nodes)
    where
      go : (b : Bool) → (y == n.start) ≡ b → (b || is_among (starts_in nodes) y) ≡ true → (is_among (starts_in nodes) y ≡ true → (i : ℕ) × StartsAt nodes i y)
          → (i : ℕ) × StartsAt (n ∷ nodes) i y
      go true s h more = (0, (omega arith, grind (arith, nat_tests)))
      go false s h more = let t = more h in let l = t.1.0 in (suc t.0, (omega (arith, l), t.1.1))

  none_some : (i : ℕ) → ◌≡◌ {A = Option ℕ} None (Some i) → ⊥
  none_some i e = cc

  pub known_is : (nodes : List Node) (o : Option ℕ) → ((i : ℕ) → (o ≡ Some i) ↔ StartsAt nodes i y) → is_some o ≡ is_among (starts_in nodes) y
  known_is nodes (Some i) f = sym (here nodes i ((f i).0 refl))
  known_is nodes None f = go (is_among (starts_in nodes) y) refl
    where
      go : (b : Bool) → is_among (starts_in nodes) y ≡ b → false ≡ is_among (starts_in nodes) y
      go true e = let t = there nodes e in absurd (none_some t.0 ((f t.0).1 t.1))
      go false e = sym e

starts_of_keys : (live : ℕ → ℕ) (nodes : List Node) → map (λ (key : BlockKey). key.start) (map (key_of live) nodes) ≡ starts_in nodes
starts_of_keys live [] = refl
starts_of_keys live (n ∷ nodes) = ap (λ l. n.start ∷ l) (starts_of_keys live nodes)

-- of the keys of a graph
pub key_there : (exe : Exe) (edges : List Edge) (nodes : List Node) (y : ℕ) → nodes ≡ graph_of exe edges → has_key (keys_of exe edges) y ≡ is_among (starts_in nodes) y
unfolding keys_of
key_there exe edges nodes y e = ap (λ l. is_among l y) (starts_of_keys (live_of exe edges) (graph_of exe edges) ∙ ap starts_in (sym e))
