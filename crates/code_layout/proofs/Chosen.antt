-- The keys of a graph: their starts ascend, and their known exits are starts of keys.
use Rattle.std.proofs.Common.{◌≡◌, ℕ, zero, suc, ◌==◌, Bool, true, false, ◌||◌, List, [], ◌∷◌, map, filter, Option, Some, None, Contains, refl, sym, ap, ◌∙◌, subst, arith}
use Rattle.std.specs.Prelude.{option_to_list, if◌then◌else◌}
use Rattle.std.specs.List.Sorted.{IsStrictlyIncreasing}
use Rattle.std.proofs.lemmas.Bool.Decides.{nat_tests}
use Rattle.elf_read.specs.declared.exe.Exe.{Exe}
use Rattle.elf_read.specs.Elf.{IsGuest}
use Rattle.run_model.specs.Edges.{Edge}
use Rattle.block_cut.specs.declared.ends.End.{End}
use Rattle.block_cut.specs.declared.ends.End.TheVariants.{Transfer, Island, BeforeIsland, Unreadable, Full}
use Rattle.block_cut.specs.Transfers.{is_among}
use Rattle.block_cut.specs.CountedEdges.{counting}
use Rattle.block_cut.specs.Blocks.{last_of, block_of, follow_of}
use Rattle.flow_graph.specs.Graph.{IsStart, AreStarts, targets_from, known_by, known_of, Node, starts_in}
use Rattle.flow_graph.specs.GraphOf.{OneGraph, graph_of, starts_of}
use Rattle.ssa_form.specs.declared.form.BlockKey.{BlockKey}
use Rattle.code_layout.specs.Keys.{live_of, key_of, keys_of}
use Rattle.code_layout.specs.Layout.{Added, is_added, IsWhole, layout_of, added_of}
use Rattle.code_layout.proofs.Targets.{Exits, AllExits, keys_added}

pub here : {X : Type 0} (x : X) (xs : List X) → Contains (x ∷ xs) x
here x xs = (0, omega arith, refl)

pub there : {X : Type 0} (y x : X) (xs : List X) → Contains xs x → Contains (y ∷ xs) x
there y x xs h = (suc h.0, let l = h.1 in omega (arith, l), h.2)

-- ---- what is contained

among : (xs : List ℕ) (y : ℕ) → Contains xs y → is_among xs y ≡ true
among [] y (k, l, e) = absurd (omega (arith, l))
among (x ∷ xs) y (zero, l, e) = or_here (y == x) (grind (arith, nat_tests))
  where
    or_here : (b : Bool) → b ≡ true → (b || is_among xs y) ≡ true
    or_here true s = refl
    or_here false s = cc
among (x ∷ xs) y (suc k, l, e) = or_there (y == x) (among xs y (k, omega (arith, l), e))
  where
    or_there : (b : Bool) → is_among xs y ≡ true → (b || is_among xs y) ≡ true
    or_there true s = refl
    or_there false s = s

record From (es : List Edge) (y : ℕ) : Type 0 where
  edge : Edge
  traced : Contains es edge
  is : edge.1 ≡ y

later : (e : Edge) (es : List Edge) (y : ℕ) → From es y → From (e ∷ es) y
later e es y f = record { edge = f.edge; traced = there e f.edge es f.traced; is = f.is }

from_targets : (p : Edge → Bool) (es : List Edge) (y : ℕ) → Contains (map (λ (e : Edge). e.1) (filter p es)) y → From es y
from_targets p [] y (k, l, e) = absurd (omega (arith, l))
from_targets p (x ∷ es) y h = go (p x) h (from_targets p es y)
  where
    first : (h : Contains (x.1 ∷ map (λ (e : Edge). e.1) (filter p es)) y) → (Contains (map (λ (e : Edge). e.1) (filter p es)) y → From es y) → From (x ∷ es) y
    first (zero, l, e) more = record { edge = x; traced = here x es; is = e }
    first (suc k, l, e) more = later x es y (more (k, omega (arith, l), e))

    go : (b : Bool) → Contains (map (λ (e : Edge). e.1) (if b then (x ∷ filter p es) else filter p es)) y → (Contains (map (λ (e : Edge). e.1) (filter p es)) y → From es y) → From (x ∷ es) y
    go true h more = first h more
    go false h more = later x es y (more h)

only : (o : Option ℕ) (y : ℕ) → Contains (option_to_list o) y → o ≡ Some y
only None y (k, l, e) = absurd (omega (arith, l))
only (Some t) y (zero, l, e) = ap (λ n. Some n) e
only (Some t) y (suc k, l, e) = absurd (omega (arith, l))

module _ (exe : Exe) (es : List Edge) where
  -- a known exit of a start is a start
  pub next_start : (s y : ℕ) → IsStart exe es s → Contains (known_of exe es s) y → IsStart exe es y
  unfolding known_of
  next_start s y h c = go (block_of exe s).end c
    where
      target : Contains (targets_from (last_of s (block_of exe s).insts) es) y → IsStart exe es y
      target c =
          let f = from_targets (λ (e : Edge). e.0 == last_of s (block_of exe s).insts) es y c in
          record { edge = f.edge; traced = f.traced; reached = (0, f.is) }

      follow : Contains (option_to_list (follow_of exe s)) y → IsStart exe es y
      follow c = record { edge = h.edge; traced = h.traced; reached = (suc h.reached.0, (s, h.reached.1, only (follow_of exe s) y c)) }

      go : (end : End) → Contains (known_by end (targets_from (last_of s (block_of exe s).insts) es) (option_to_list (follow_of exe s))) y → IsStart exe es y
      go Transfer c = target c
      go Island c = follow c
      go BeforeIsland c = follow c
      go Unreadable c = follow c
      go Full c = follow c

-- ---- as keys

exits_from : (P : ℕ → Type 0) (live : ℕ → ℕ) (ys : List ℕ) → ((y : ℕ) → Contains ys y → P y) → Exits P (map (λ y. (y, live y)) ys)
exits_from P live [] f = tt
exits_from P live (y ∷ ys) f = (f y (here y ys), exits_from P live ys (λ z c. f z (there y z ys c)))

module _ (exe : Exe) (es : List Edge) (live : ℕ → ℕ) where
  abbrev node : ℕ → Node
  node s = record { start = s; known = known_of exe es s }

  keys_exits : (list : List Added) (ss : List ℕ) → ((s y : ℕ) → Contains ss s → Contains (known_of exe es s) y → is_added list y ≡ true) → AllExits list (map (key_of live) (map node ss))
  keys_exits list [] f = tt
  keys_exits list (s ∷ ss) f = (
    exits_from (λ y. is_added list y ≡ true) live (known_of exe es s) (λ y c. f s y (here s ss) c),
    keys_exits list ss (λ t y h c. f t y (there s t ss h) c),
  )

  pub starts_of_nodes : (ss : List ℕ) → starts_in (map node ss) ≡ ss
  starts_of_nodes [] = refl
  starts_of_nodes (s ∷ ss) = ap (λ l. s ∷ l) (starts_of_nodes ss)

  starts_of_keys : (ss : List ℕ) → map (λ (key : BlockKey). key.start) (map (key_of live) (map node ss)) ≡ ss
  starts_of_keys [] = refl
  starts_of_keys (s ∷ ss) = ap (λ l. s ∷ l) (starts_of_keys ss)

starts_of_added : (exe : Exe) (keys : List BlockKey) → map (λ (a : Added). a.start) (added_of exe keys) ≡ map (λ (key : BlockKey). key.start) keys
starts_of_added exe [] = refl
starts_of_added exe (key ∷ keys) = ap (λ l. key.start ∷ l) (starts_of_added exe keys)

module _ (one : OneGraph) (exe : Exe) (edges : List Edge) (guest : IsGuest exe) where
  abbrev es : List Edge
  es = counting exe edges

  pub starts : AreStarts exe es (starts_of exe es)
  unfolding graph_of
  starts = subst (AreStarts exe es) (starts_of_nodes exe es (live_of exe edges) (starts_of exe es)) (one.starts exe edges guest)

  pub ascending : IsStrictlyIncreasing (map (λ (key : BlockKey). key.start) (keys_of exe edges))
  unfolding keys_of graph_of
  ascending = subst IsStrictlyIncreasing (sym (starts_of_keys exe es (live_of exe edges) (starts_of exe es))) starts.ascend

  pub all_added : IsWhole (layout_of exe (keys_of exe edges))
  unfolding keys_of graph_of
  all_added =
      let keys = keys_of exe edges in
      let list = added_of exe keys in
      let same : map (λ (a : Added). a.start) list ≡ starts_of exe es = starts_of_added exe keys ∙ starts_of_keys exe es (live_of exe edges) (starts_of exe es) in
      record {
        targets = keys_added list exe keys (keys_exits exe es (live_of exe edges) list (starts_of exe es) (λ s y h c.
            ap (λ l. is_among l y) same ∙ among (starts_of exe es) y ((starts.each y).1 (next_start exe es s y ((starts.each s).0 h) c))));
        entry = ap (λ l. is_among l exe.entry) (starts_of_added exe keys);
      }
