-- Each key of a graph is one of which a fragment can be made.
use Rattle.std.proofs.Common.{◌≡◌, ℕ, zero, suc, ◌^◌, ◌<◌, ◌≤◌, ◌==◌, Bool, true, false, List, [], ◌∷◌, length, map, Option, Some, None, Contains, All, refl, sym, subst, arith}
use Rattle.std.specs.Prelude.{option_to_list, if◌then◌else◌, IsTrue}
use Rattle.std.specs.List.Sorted.{IsStrictlyIncreasing}
use Rattle.std.proofs.lemmas.Bool.Decides.{nat_tests}
use Rattle.std.proofs.lemmas.List.{length-map}
use Rattle.std.proofs.lemmas.List.Elements.{All-nil, All-cons, All-map, All-contains}
use Rattle.elf_read.specs.declared.exe.Exe.{Exe}
use Rattle.elf_read.specs.Elf.{IsGuest, is_exec}
use Rattle.run_model.specs.Edges.{Edge}
use Rattle.trace_file.specs.Edges.{ascends}
use Rattle.block_cut.specs.declared.ends.End.{End}
use Rattle.block_cut.specs.declared.ends.End.TheVariants.{Transfer, Island, BeforeIsland, Unreadable, Full}
use Rattle.block_cut.specs.CountedEdges.{counts, counting}
use Rattle.block_cut.specs.Blocks.{last_of, block_of, follow_of, EachHasOneBlock}
use Rattle.flow_graph.specs.Graph.{targets_from, known_by, known_of, Node}
use Rattle.flow_graph.specs.GraphOf.{OneGraph, graph_of, starts_of}
use Rattle.flow_graph.proofs.SiteRuns.{filter_ascends, targets_ascend}
use Rattle.flow_graph.proofs.Ascending.{From, Up, to_up, no_longer}
use Rattle.lift_flow.specs.LiftedBlock.{lift_of}
use Rattle.live_flow.specs.Laws.{EachRowIsNarrow, SetsAreSmall}
use Rattle.block_make.specs.Keys.{live_at, AreDistinct, IsWayOut, IsKey}
use Rattle.code_layout.specs.Keys.{live_of, key_of, keys_of}
use Rattle.code_layout.proofs.Chosen.{here, there, next_start, starts}
use Rattle.code_layout.proofs.Ways.{way_out}
use Rattle.code_layout.proofs.LiveRows.{live_small}

-- ---- exits

none_above : (live : ℕ → ℕ) (x a : ℕ) (ys : List ℕ) → x ≤ a → From a ys → live_at (map (λ y. (y, live y)) ys) x ≡ None
none_above live x a [] l h = refl
none_above live x a (b ∷ bs) l h = go (b == x) refl (none_above live x b bs (let q = h.0 in omega arith) h.1)
  where
    go : (t : Bool) → (b == x) ≡ t → live_at (map (λ y. (y, live y)) bs) x ≡ None → (if t then Some (live b) else live_at (map (λ y. (y, live y)) bs) x) ≡ None
    go true e r = let q = h.0 in absurd (grind (arith, nat_tests))
    go false e r = r

rest_up : (a : ℕ) (xs : List ℕ) → From a xs → Up xs
rest_up a [] h = tt
rest_up a (b ∷ bs) h = h.1

distinct : (live : ℕ → ℕ) (ys : List ℕ) → Up ys → AreDistinct (map (λ y. (y, live y)) ys)
distinct live [] h = tt
distinct live (y ∷ ys) h = (none_above live y y ys (omega arith) h, distinct live ys (rest_up y ys h))

at_most_one : (o : Option ℕ) → IsStrictlyIncreasing (option_to_list o)
at_most_one None k l = absurd (omega (arith, l))
at_most_one (Some t) k l = absurd (omega (arith, l))

known_ascend : (exe : Exe) (edges : List Edge) (s : ℕ) → ascends edges ≡ true → IsStrictlyIncreasing (known_of exe (counting exe edges) s)
unfolding known_of
known_ascend exe edges s up = go (block_of exe s).end
  where
    go : (end : End) → IsStrictlyIncreasing (known_by end (targets_from (last_of s (block_of exe s).insts) (counting exe edges)) (option_to_list (follow_of exe s)))
    go Transfer = targets_ascend (last_of s (block_of exe s).insts) (counting exe edges) (filter_ascends (counts exe) edges up)
    go Island = at_most_one (follow_of exe s)
    go BeforeIsland = at_most_one (follow_of exe s)
    go Unreadable = at_most_one (follow_of exe s)
    go Full = at_most_one (follow_of exe s)

all_of : {X : Type 0} (P : X → Type 0) (xs : List X) → ((x : X) → Contains xs x → P x) → All P xs
all_of P [] f = All-nil P
all_of P (x ∷ xs) f = All-cons P x xs (f x (here x xs)) (all_of P xs (λ z c. f z (there x z xs c)))

contains_map : {X Y : Type 0} (f : X → Y) (xs : List X) (x : X) → Contains xs x → Contains (map f xs) (f x)
contains_map f [] x (k, l, i) = absurd (omega (arith, l))
contains_map f (y ∷ xs) x (zero, l, i) = subst (λ y. Contains (f y ∷ map f xs) (f x)) (sym i) (here (f x) (map f xs))
contains_map f (y ∷ xs) x (suc k, l, i) = there (f y) (f x) (map f xs) (contains_map f xs x (k, omega (arith, l), i))

module _ (narrow : EachRowIsNarrow) (few_bits : SetsAreSmall) (one : OneGraph) (block : EachHasOneBlock) (exe : Exe) (edges : List Edge) (guest : IsGuest exe) (up : ascends edges ≡ true) (few : length (graph_of exe edges) ≤ 65536) where
  abbrev es : List Edge
  es = counting exe edges

  abbrev node : ℕ → Node
  node s = record { start = s; known = known_of exe es s }

  code : (s : ℕ) → Contains (starts_of exe es) s → IsTrue (is_exec s exe.segments)
  unfolding graph_of
  code s h = All-contains (λ (n : Node). IsTrue (is_exec n.start exe.segments)) (map node (starts_of exe es)) (node s) (one.code exe edges) (contains_map node (starts_of exe es) s h)

  few_known : (s : ℕ) → Contains (starts_of exe es) s → length (known_of exe es s) ≤ 65536
  unfolding graph_of
  few_known s h =
      let a = starts one exe edges guest in
      let n = length-map (starts_of exe es) node in
      omega (arith, few, n, no_longer (starts_of exe es) (known_of exe es s) (to_up (known_of exe es s) (known_ascend exe edges s up)) (to_up (starts_of exe es) a.ascend) (λ y c. (a.each y).1 (next_start exe es s y ((a.each s).0 h) c)))

  key : (s : ℕ) → Contains (starts_of exe es) s → IsKey exe (key_of (live_of exe edges) (node s))
  key s h =
      let known = known_of exe es s in
      let live = live_of exe edges in
      let exit : ℕ → ℕ × ℕ = λ y. (y, live y) in
      record {
        code = code s h;
        distinct = distinct live known (to_up known (known_ascend exe edges s up));
        ways = All-map (λ (e : ℕ × ℕ). IsWayOut s (lift_of exe s).exit e.0) exit known (all_of (λ y. IsWayOut s (lift_of exe s).exit y) known (λ y c. way_out block exe guest edges s y c));
        few = omega (arith, few_known s h, length-map known exit);
        live = All-map (λ (e : ℕ × ℕ). e.1 < 2 ^ 14) exit known (all_of (λ y. live y < 2 ^ 14) known (λ y c. live_small narrow few_bits exe edges y));
      }

  keys : (ss : List ℕ) → ((s : ℕ) → Contains ss s → IsKey exe (key_of (live_of exe edges) (node s))) → All (IsKey exe) (map (key_of (live_of exe edges)) (map node ss))
  keys [] f = All-nil (IsKey exe)
  keys (s ∷ ss) f = All-cons (IsKey exe) (key_of (live_of exe edges) (node s)) (map (key_of (live_of exe edges)) (map node ss)) (f s (here s ss)) (keys ss (λ t c. f t (there s t ss c)))

  pub each_key : All (IsKey exe) (keys_of exe edges)
  unfolding keys_of graph_of
  each_key = keys (starts_of exe es) key
