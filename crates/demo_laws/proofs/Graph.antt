-- The graph of the demonstration and the edges of its run is one list.
use Rattle.std.proofs.Common.{◌≡◌, ℕ, zero, suc, ◌+◌, ◌-◌, ◌*◌, ◌<◌, ◌≤◌, Bool, true, false, List, [], ◌∷◌, ◌++◌, length, map, filter, Contains, IsTrue, Some, ◌⊎◌, inl, inr, refl, sym, ap, ◌∙◌, subst, arith, length-append, lit≤}
use Rattle.std.specs.Prelude.{All, if◌then◌else◌, option_to_list}
use Rattle.std.specs.List.Sorted.{IsStrictlyIncreasing}
use Rattle.std.proofs.lemmas.List.Elements.{All-nil, All-cons, All-append, All-weaker, All-map, All-contains, All-contains_itself, Contains-append_left, Contains-append_right}
use Rattle.br_word.specs.Memory.{AreBytes}
use Rattle.elf_read.specs.Elf.{IsGuest, is_exec}
use Rattle.run_model.specs.Edges.{Edge}
use Rattle.run_model.specs.Run.{AreOfBytes}
use Rattle.sim_laws.specs.Counted.{EdgesCount}
use Rattle.trace_file.specs.Edges.{ascends, in_order, SetsHold}
use Rattle.trace_file.proofs.Union.{here, there, first_or_later}
use Rattle.trace_file.proofs.Unique.{none}
use Rattle.block_cut.specs.declared.ends.End.{End}
use Rattle.block_cut.specs.declared.ends.End.TheVariants.{Transfer, Island, BeforeIsland, Unreadable, Full}
use Rattle.block_cut.specs.Blocks.{BasicBlock, last_of, is_followed, follow_of, EachHasOneBlock}
use Rattle.block_cut.specs.CountedEdges.{counts, counting}
use Rattle.flow_graph.specs.Graph.{Node, Leads, IsStart, AreStarts, targets_from, known_by, known_of, starts_in, IsGraph}
use Rattle.flow_graph.specs.GraphOf.{OneGraph}
use Rattle.flow_graph.proofs.Ascending.{From, of_up}
use Rattle.elf_flat.specs.Flat.{flat_entry}
use Rattle.demo_gen.specs.Demonstration.{demo_file}
use Rattle.demo_laws.specs.Accepted.{demo_of, IsDemoAccepted}
use Rattle.demo_laws.specs.Sites.{call_site, write_site, exit_site, function_site, HasDemoSites}
use Rattle.demo_laws.specs.Runs.{second_site, is_negative, demo_edges, IsDemoRun}
use Rattle.demo_laws.specs.Graph.{leads, second_of, call_nodes, end_nodes, function_nodes, demo_nodes, IsSmall, IsDemoGraph}
use Rattle.demo_laws.proofs.Lengths.{file_length}
use Rattle.demo_laws.proofs.Edges.{Made, began, calls, jumps, returns, IsMade, same_target, made, member, single}
use Rattle.demo_laws.proofs.Blocks.{Here, entry, call, write, written, exit, exited, function, second, Way, Fact, fact, in_code, follow_is, follow_write, follow_written, follow_exit, goes_on}

-- ---- the list

second_low : (count i : ℕ) → (function_site count i + 8 ≤ second_of count i) × (second_of count i ≤ function_site count i + 10)
second_low count i = go (is_negative count i)
  where
    go : (b : Bool) → (function_site count i + 8 ≤ second_site count i b) × (second_site count i b ≤ function_site count i + 10)
    go true = (omega arith, omega arith)
    go false = (omega arith, omega arith)

calls_up : (count a i k : ℕ) (rest : List Node) → a < call_site i → ((b : ℕ) → b < call_site (i + k) → From b (starts_in rest)) → From a (starts_in (call_nodes count i k ++ rest))
calls_up count a i zero rest h f = f a (omega (arith, h))
calls_up count a i (suc k) rest h f =
    (h, calls_up count (call_site i) (suc i) k rest (omega arith) (λ b l. f b (omega (arith, l))))

functions_up : (count a i k : ℕ) → a < function_site count i → From a (starts_in (function_nodes count i k))
functions_up count a i zero h = tt
functions_up count a i (suc k) h =
    let s = second_low count i in
    (h, (omega (arith, s.0), functions_up count (second_of count i) (suc i) k (omega (arith, s.1))))

ends_up : (count b : ℕ) → b < write_site count → From b (starts_in (end_nodes count ++ function_nodes count 0 count))
ends_up count b h = (h, (omega arith, (omega arith, (omega arith, functions_up count (exit_site count + 10) 0 count (omega arith)))))

nodes_up : (count : ℕ) → 1 ≤ count → IsStrictlyIncreasing (starts_in (demo_nodes count))
nodes_up count some =
    of_up (starts_in (demo_nodes count)) (calls_up count flat_entry 1 (count - 1) (end_nodes count ++ function_nodes count 0 count) (omega arith) (λ b l. ends_up count b (omega (arith, l, some))))

calls_number : (count i k : ℕ) → length (call_nodes count i k) ≡ k
calls_number count i zero = refl
calls_number count i (suc k) = ap suc (calls_number count (suc i) k)

functions_number : (count i k : ℕ) → length (function_nodes count i k) ≡ 2 * k
functions_number count i zero = omega arith
functions_number count i (suc k) = let e = functions_number count (suc i) k in omega arith

nodes_number : (count : ℕ) → 1 ≤ count → length (demo_nodes count) ≡ 4 + 3 * count
nodes_number count some =
    let a = length-append (call_nodes count 1 (count - 1)) (end_nodes count ++ function_nodes count 0 count) in
    omega (arith, some, a, calls_number count 1 (count - 1), functions_number count 0 count)

-- ---- its members

map_member : {X Y : Type 0} (f : X → Y) (xs : List X) (x : X) → Contains xs x → Contains (map f xs) (f x)
map_member f [] x c = absurd (none x c)
map_member f (y ∷ xs) x c = elim (first_or_later y x xs c) [
  | inl s ↦ subst (λ y. Contains (f y ∷ map f xs) (f x)) (sym s) (here (f x) (map f xs))
  | inr d ↦ there (f y) (f x) (map f xs) (map_member f xs x d)
]

split : (i j : ℕ) → (i < j) ⊎ (j ≤ i)
split i j = grind arith

in_calls : (count i j k : ℕ) → j ≤ i → i < j + k → Contains (call_nodes count j k) (leads (call_site i) (function_site count i))
in_calls count i j zero l h = absurd (omega (arith, l, h))
in_calls count i j (suc k) l h = go (split j i) (λ m. in_calls count i (suc j) k (omega (arith, m)) (omega (arith, h)))
  where
    go : (j < i) ⊎ (i ≤ j) → (j < i → Contains (call_nodes count (suc j) k) (leads (call_site i) (function_site count i))) → Contains (call_nodes count j (suc k)) (leads (call_site i) (function_site count i))
    go (inl m) f = there (leads (call_site j) (function_site count j)) (leads (call_site i) (function_site count i)) (call_nodes count (suc j) k) (f m)
    go (inr m) f =
        let e : j ≡ i = omega (arith, l, m) in
        subst (λ j. Contains (leads (call_site j) (function_site count j) ∷ call_nodes count (suc j) k) (leads (call_site i) (function_site count i))) (sym e) (here (leads (call_site i) (function_site count i)) (call_nodes count (suc i) k))

abbrev first_half : ℕ → ℕ → Node
first_half count i = leads (function_site count i) (second_of count i)

abbrev other_half : ℕ → ℕ → Node
other_half count i = leads (second_of count i) (call_site (suc i))

in_functions : (count i j k : ℕ) → j ≤ i → i < j + k → Contains (function_nodes count j k) (first_half count i) × Contains (function_nodes count j k) (other_half count i)
in_functions count i j zero l h = absurd (omega (arith, l, h))
in_functions count i j (suc k) l h = go (split j i) (λ m. in_functions count i (suc j) k (omega (arith, m)) (omega (arith, h)))
  where
    later : (x : Node) → Contains (function_nodes count (suc j) k) x → Contains (function_nodes count j (suc k)) x
    later x c = there (first_half count j) x (other_half count j ∷ function_nodes count (suc j) k) (there (other_half count j) x (function_nodes count (suc j) k) c)

    go : (j < i) ⊎ (i ≤ j) → (j < i → Contains (function_nodes count (suc j) k) (first_half count i) × Contains (function_nodes count (suc j) k) (other_half count i)) → Contains (function_nodes count j (suc k)) (first_half count i) × Contains (function_nodes count j (suc k)) (other_half count i)
    go (inl m) f =
        let r = f m in
        (later (first_half count i) r.0, later (other_half count i) r.1)
    go (inr m) f =
        let e : j ≡ i = omega (arith, l, m) in
        let rest = function_nodes count (suc i) k in
        subst (λ j. Contains (function_nodes count j (suc k)) (first_half count i) × Contains (function_nodes count j (suc k)) (other_half count i)) (sym e)
        (here (first_half count i) (other_half count i ∷ rest), there (first_half count i) (other_half count i) (other_half count i ∷ rest) (here (other_half count i) rest))

has_node : (count s t : ℕ) → 1 ≤ count → Here count s t → Contains (demo_nodes count) (leads s t)
has_node count s t some h = by_kind s t h
  where
    in_rest : (x : Node) → Contains (call_nodes count 1 (count - 1) ++ (end_nodes count ++ function_nodes count 0 count)) x → Contains (demo_nodes count) x
    in_rest x c = there (leads flat_entry (function_site count 0)) x (call_nodes count 1 (count - 1) ++ (end_nodes count ++ function_nodes count 0 count)) c

    in_ends : (x : Node) → Contains (end_nodes count ++ function_nodes count 0 count) x → Contains (demo_nodes count) x
    in_ends x c = in_rest x (Contains-append_right (call_nodes count 1 (count - 1)) (end_nodes count ++ function_nodes count 0 count) x c)

    in_function : (x : Node) → Contains (function_nodes count 0 count) x → Contains (demo_nodes count) x
    in_function x c = in_ends x (Contains-append_right (end_nodes count) (function_nodes count 0 count) x c)

    by_kind : (s t : ℕ) → Here count s t → Contains (demo_nodes count) (leads s t)
    by_kind s t entry = here (leads flat_entry (function_site count 0)) (call_nodes count 1 (count - 1) ++ (end_nodes count ++ function_nodes count 0 count))
    by_kind s t (call i p l) = in_rest (leads s t) (Contains-append_left (call_nodes count 1 (count - 1)) (end_nodes count ++ function_nodes count 0 count) (leads s t) (in_calls count i 1 (count - 1) (omega (arith, p)) (omega (arith, l, some))))
    by_kind s t write = in_ends (leads s t) (0, omega arith, refl)
    by_kind s t written = in_ends (leads s t) (1, omega arith, refl)
    by_kind s t exit = in_ends (leads s t) (2, omega arith, refl)
    by_kind s t exited = in_ends (leads s t) (3, omega arith, refl)
    by_kind s t (function i l) = in_function (leads s t) (in_functions count i 0 count (omega arith) (omega (arith, l))).0
    by_kind s t (second i l) = in_function (leads s t) (in_functions count i 0 count (omega arith) (omega (arith, l))).1

-- a block with its one known exit
abbrev IsHere : ℕ → Node → Type 0
IsHere count b = (t : ℕ) × Here count b.start t × (b.known ≡ t ∷ [])

calls_here : (count i k : ℕ) → 0 < i → i + k ≤ count → All (IsHere count) (call_nodes count i k)
calls_here count i zero p h = All-nil (IsHere count)
calls_here count i (suc k) p h =
    All-cons (IsHere count) (leads (call_site i) (function_site count i)) (call_nodes count (suc i) k) (function_site count i, call i p (omega (arith, h)), refl) (calls_here count (suc i) k (omega arith) (omega (arith, h)))

functions_here : (count i k : ℕ) → i + k ≤ count → All (IsHere count) (function_nodes count i k)
functions_here count i zero h = All-nil (IsHere count)
functions_here count i (suc k) h =
    let l : i < count = omega (arith, h) in
    All-cons (IsHere count) (first_half count i) (other_half count i ∷ function_nodes count (suc i) k) (second_of count i, function i l, refl)
    (All-cons (IsHere count) (other_half count i) (function_nodes count (suc i) k) (call_site (suc i), second i l, refl) (functions_here count (suc i) k (omega (arith, h))))

nodes_here : (count : ℕ) → 1 ≤ count → All (IsHere count) (demo_nodes count)
nodes_here count some =
    let P = IsHere count in
    let f = function_nodes count 0 count in
    let n1 = leads (write_site count) (write_site count + 18) in
    let n2 = leads (write_site count + 18) (exit_site count) in
    let n3 = leads (exit_site count) (exit_site count + 10) in
    let n4 = leads (exit_site count + 10) (function_site count 0) in
    let a4 = All-cons P n4 f (function_site count 0, exited, refl) (functions_here count 0 count (omega arith)) in
    let a3 = All-cons P n3 (n4 ∷ f) (exit_site count + 10, exit, refl) a4 in
    let a2 = All-cons P n2 (n3 ∷ n4 ∷ f) (exit_site count, written, refl) a3 in
    let a1 = All-cons P n1 (n2 ∷ n3 ∷ n4 ∷ f) (write_site count + 18, write, refl) a2 in
    let c = call_nodes count 1 (count - 1) in
    let all = All-append P c (n1 ∷ n2 ∷ n3 ∷ n4 ∷ f) (calls_here count 1 (count - 1) (omega arith) (omega (arith, some))) a1 in
    All-cons P (leads flat_entry (function_site count 0)) (c ++ (end_nodes count ++ f)) (function_site count 0, entry, refl) all

-- ---- edges that count

is_true : (b : Bool) → b ≡ true → IsTrue b
is_true b e = e

of_true : (b : Bool) → IsTrue b → b ≡ true
of_true b h = h

keeps_all : (p : Edge → Bool) (es : List Edge) → ((e : Edge) → Contains es e → p e ≡ true) → filter p es ≡ es
keeps_all p [] h = refl
keeps_all p (e ∷ es) h =
    ap (λ b. if b then e ∷ filter p es else filter p es) (h e (here e es)) ∙ ap (λ xs. e ∷ xs) (keeps_all p es (λ x c. h x (there e x es c)))

followed_known : (e : End) (xs ys : List ℕ) → is_followed e ≡ true → known_by e xs ys ≡ ys
followed_known Transfer xs ys h = cc
followed_known Island xs ys h = refl
followed_known BeforeIsland xs ys h = refl
followed_known Unreadable xs ys h = refl
followed_known Full xs ys h = refl

is_guest : (count : ℕ) → count ≤ 1000 → IsGuest (demo_of count)
is_guest count few = record {
  segments = (record { low = omega arith; high = omega arith; some = omega arith; bytes = omega (arith, file_length count); perms = refl }, tt);
  order = (omega arith, tt);
  entry = in_code count flat_entry (omega arith) (omega arith);
  count = lit≤ tt;
  memory = omega arith;
  brk = refl;
}

module _ (one : EachHasOneBlock) (graphs : OneGraph) (sets : SetsHold) (counted : EdgesCount) (count : ℕ) (some : 1 ≤ count) (few : count ≤ 1000) (ok : IsDemoAccepted count) (sites : HasDemoSites count) (runs : IsDemoRun count) where
  abbrev Es : List Edge
  Es = in_order (demo_edges count)

  order : ascends (in_order (demo_edges count)) ≡ true
  order = (sets.gathered (demo_edges count)).order

  edge_made : (e : Edge) → Contains (in_order (demo_edges count)) e → IsMade count e
  edge_made e c = made count e (((sets.gathered (demo_edges count)).members e).0 c)

  edge_member : (s t : ℕ) → Made count s t → Contains (in_order (demo_edges count)) (s, t)
  edge_member s t m = ((sets.gathered (demo_edges count)).members (s, t)).1 (member count s t m)

  target_code : (s t : ℕ) → Made count s t → is_exec t (demo_of count).segments ≡ true
  target_code s t began = in_code count flat_entry (omega arith) (omega arith)
  target_code s t (calls i h) = in_code count (function_site count i) (omega arith) (omega (arith, h))
  target_code s t (jumps i h) = let l = second_low count i in in_code count (second_of count i) (omega (arith, l.0)) (omega (arith, l.1, h))
  target_code s t (returns i h) = in_code count (call_site (suc i)) (omega arith) (omega (arith, h))

  abbrev Counted : Edge → Type 0
  Counted e = IsTrue (is_exec e.1 (demo_of count).segments) → IsTrue (counts (demo_of count) e)

  all_count : All Counted (demo_edges count)
  all_count =
      let bytes : AreOfBytes (demo_file count) [] [] = record { file = ok.bytes; words = All-nil AreBytes; input = All-nil (λ b. b < 256) } in
      subst (λ es. All Counted es) (runs.edges runs.steps (omega arith)) (counted (demo_file count) (demo_of count) [] [] runs.steps ok.guest bytes)

  edge_counts : (e : Edge) → Contains (in_order (demo_edges count)) e → counts (demo_of count) e ≡ true
  edge_counts e c =
      let m = edge_made e c in
      of_true (counts (demo_of count) e) (All-contains Counted (demo_edges count) e all_count (((sets.gathered (demo_edges count)).members e).0 c) (is_true (is_exec e.1 (demo_of count).segments) (target_code e.0 e.1 m)))

  all_counted : counting (demo_of count) (in_order (demo_edges count)) ≡ in_order (demo_edges count)
  all_counted = keeps_all (counts (demo_of count)) (in_order (demo_edges count)) edge_counts

  -- ---- known exits

  known_is : (s t : ℕ) → Here count s t → known_of (demo_of count) (in_order (demo_edges count)) s ≡ t ∷ []
  unfolding known_of
  known_is s t h =
      let f = fact one count some few sites s t h in
      sym (ap (λ b. known_by b.end (targets_from (last_of s b.insts) Es) (option_to_list (follow_of (demo_of count) s))) f.is) ∙ go f f.way
    where
      one_of : (last : ℕ) → Made count last t → All (λ (e : Edge). e.0 ≡ last → e.1 ≡ t) (in_order (demo_edges count))
      one_of last m =
          All-weaker (Contains Es) (λ (e : Edge). e.0 ≡ last → e.1 ≡ t) (λ e c. λ same. same_target count e.0 e.1 last t (edge_made e c) m same) Es (All-contains_itself Es)

      go : (f : Fact count s t) → Way count s t f.block → known_by f.block.end (targets_from (last_of s f.block.insts) (in_order (demo_edges count))) (option_to_list (follow_of (demo_of count) s)) ≡ t ∷ []
      go f (inl w) =
          let last = last_of s f.block.insts in
          ap (λ e. known_by e (targets_from last Es) (option_to_list (follow_of (demo_of count) s))) w.0
          ∙ single last t Es order (one_of last w.1) (edge_member last t w.1)
      go f (inr w) =
          followed_known f.block.end (targets_from (last_of s f.block.insts) Es) (option_to_list (follow_of (demo_of count) s)) w.0
          ∙ ap option_to_list (follow_is one count some few sites s t f w.0 w.1 w.2)

  -- ---- starts

  from_edge : (s t u : ℕ) → Made count s t → t ≡ u → IsStart (demo_of count) (in_order (demo_edges count)) u
  from_edge s t u m e = record { edge = (s, t); traced = edge_member s t m; reached = (0, e) }

  one_more : (u s : ℕ) → follow_of (demo_of count) u ≡ Some s → IsStart (demo_of count) (in_order (demo_edges count)) u → IsStart (demo_of count) (in_order (demo_edges count)) s
  one_more u s f h = record { edge = h.edge; traced = h.traced; reached = (suc h.reached.0, (u, h.reached.1, f)) }

  at_write : IsStart (demo_of count) (in_order (demo_edges count)) (write_site count)
  at_write = from_edge (function_site count (count - 1) + 10) (call_site (suc (count - 1))) (write_site count) (returns (count - 1) (omega (arith, some))) (omega (arith, some))

  at_written : IsStart (demo_of count) (in_order (demo_edges count)) (write_site count + 18)
  at_written = one_more (write_site count) (write_site count + 18) (follow_write one count some few sites) at_write

  at_exit : IsStart (demo_of count) (in_order (demo_edges count)) (exit_site count)
  at_exit = one_more (write_site count + 18) (exit_site count) (follow_written one count some few sites) at_written

  is_start : (s t : ℕ) → Here count s t → IsStart (demo_of count) (in_order (demo_edges count)) s
  is_start s t entry = from_edge 0 flat_entry flat_entry began refl
  is_start s t (call i p h) = from_edge (function_site count (i - 1) + 10) (call_site (suc (i - 1))) (call_site i) (returns (i - 1) (omega (arith, h))) (omega (arith, p))
  is_start s t write = at_write
  is_start s t written = at_written
  is_start s t exit = at_exit
  is_start s t exited = one_more (exit_site count) (exit_site count + 10) (follow_exit one count some few sites) at_exit
  is_start s t (function i h) = from_edge (call_site i) (function_site count i) (function_site count i) (calls i h) refl
  is_start s t (second i h) = from_edge (function_site count i + 6) (second_of count i) (second_of count i) (jumps i h) refl

  abbrev HasBlock : ℕ → Type 0
  HasBlock s = (t : ℕ) × Here count s t

  target_block : (s t : ℕ) → Made count s t → HasBlock t
  target_block s t began = (function_site count 0, entry)
  target_block s t (calls i h) = (second_of count i, function i h)
  target_block s t (jumps i h) = (call_site (suc i), second i h)
  target_block s t (returns i h) = go (split (suc i) count)
    where
      go : (suc i < count) ⊎ (count ≤ suc i) → HasBlock (call_site (suc i))
      go (inl l) = (function_site count (suc i), call (suc i) (omega arith) l)
      go (inr l) = let e : count ≡ suc i = omega (arith, h, l) in subst (λ n. HasBlock (call_site n)) e (write_site count + 18, write)

  reached_block : (n s t : ℕ) → Leads (demo_of count) n s t → HasBlock s → HasBlock t
  reached_block zero s t l h = subst HasBlock l h
  reached_block (suc n) s t l h = let u = reached_block n s l.0 l.1 h in goes_on one count some few sites l.0 u.0 t u.1 l.2

  start_block : (s : ℕ) → IsStart (demo_of count) (in_order (demo_edges count)) s → HasBlock s
  start_block s h = reached_block h.reached.0 h.edge.1 s h.reached.1 (target_block h.edge.0 h.edge.1 (edge_made h.edge h.traced))

  starts_here : All HasBlock (starts_in (demo_nodes count))
  starts_here = All-map HasBlock (λ (b : Node). b.start) (demo_nodes count) (All-weaker (IsHere count) (λ (b : Node). HasBlock b.start) (λ b h. (h.0, h.1)) (demo_nodes count) (nodes_here count some))

  are_starts : AreStarts (demo_of count) (in_order (demo_edges count)) (starts_in (demo_nodes count))
  are_starts = record { ascend = nodes_up count some; each = λ s. (to s, from s) }
    where
      to : (s : ℕ) → Contains (starts_in (demo_nodes count)) s → IsStart (demo_of count) (in_order (demo_edges count)) s
      to s c = let h = All-contains HasBlock (starts_in (demo_nodes count)) s starts_here c in is_start s h.0 h.1

      from : (s : ℕ) → IsStart (demo_of count) (in_order (demo_edges count)) s → Contains (starts_in (demo_nodes count)) s
      from s h = let b = start_block s h in map_member (λ (b : Node). b.start) (demo_nodes count) (leads s b.0) (has_node count s b.0 some b.1)

  one_ascends : (xs : List ℕ) (t : ℕ) → xs ≡ t ∷ [] → IsStrictlyIncreasing xs
  one_ascends xs t e = subst IsStrictlyIncreasing (sym e) (λ k l. absurd (omega (arith, l)))

  is_graph : IsGraph (demo_of count) (in_order (demo_edges count)) (demo_nodes count)
  is_graph = record {
    starts = are_starts;
    known = All-weaker (IsHere count) (λ (b : Node). b.known ≡ known_of (demo_of count) Es b.start) (λ b h. h.2 ∙ sym (known_is b.start h.0 h.1)) (demo_nodes count) (nodes_here count some);
    ascend = All-weaker (IsHere count) (λ (b : Node). IsStrictlyIncreasing b.known) (λ b h. one_ascends b.known h.0 h.2) (demo_nodes count) (nodes_here count some);
  }

  small : (b : Node) → IsHere count b → IsSmall (demo_of count) b
  small b h =
      let f = fact one count some few sites b.start h.0 h.1 in
      record { instructions = subst (λ (b : BasicBlock). length b.insts ≤ 5) f.is f.short; exits = subst (λ xs. length xs ≤ 1) (sym h.2) (lit≤ tt) }

  pub is_demo_graph : IsDemoGraph count
  is_demo_graph = record {
    graph = sym (graphs.only (demo_of count) Es (demo_nodes count) (is_guest count few) (subst (λ es. IsGraph (demo_of count) es (demo_nodes count)) (sym all_counted) is_graph));
    number = nodes_number count some;
    each = All-weaker (IsHere count) (IsSmall (demo_of count)) small (demo_nodes count) (nodes_here count some);
  }
