-- How the rows of a graph are made, and that they show its blocks.
use Rattle.std.proofs.Common.{◌≡◌, ℕ, zero, suc, ◌+◌, ◌-◌, ◌<◌, ◌≤◌, true, List, [], ◌∷◌, ◌++◌, length, get_or, take, drop, map, Option, Some, None, refl, sym, subst, ap, ◌∙◌, arith, append_assoc, length-append}
use Rattle.std.specs.Prelude.{All, option_to_list, IsTrue, ◌||◌}
use Rattle.std.specs.List.Sorted.{IsStrictlyIncreasing}
use Rattle.std.proofs.lemmas.List.{take-append-le, drop-append-le, length-drop, take_more, map_push, length-map, get_or-map}
use Rattle.std.proofs.lemmas.List.Elements.{All-head, All-tail, All-push, filter_passes}
use Rattle.std.proofs.lemmas.List.Sums.{length-filter, count_by-le-length}
use Rattle.elf_read.specs.declared.exe.Exe.{Exe}
use Rattle.elf_read.specs.Elf.{is_exec}
use Rattle.block_cut.specs.Transfers.{leads_to}
use Rattle.trace_file.proofs.Sorted.{and_inv}
use Rattle.block_cut.specs.declared.ends.End.{End}
use Rattle.block_cut.specs.declared.ends.End.TheVariants.{Transfer, Island, BeforeIsland, Unreadable, Full}
use Rattle.block_cut.specs.declared.ends.Cut.{Cut}
use Rattle.block_cut.specs.Blocks.{last_of, block_of, cut_of, follow_of}
use Rattle.run_model.specs.Edges.{Edge}
use Rattle.trace_file.specs.Edges.{ascends, IsEdges}
use Rattle.block_cut.specs.CountedEdges.{is_beginning, counts, counting}
use Rattle.flow_graph.specs.declared.block_rows.BlockRow.{BlockRow}
use Rattle.flow_graph.specs.Graph.{Node, GraphView, node_at, cut_in, cut_at, targets_from, known_by, known_of, starts_in, AreStarts, IsGraph, AreCode, AreCutsOf}
use Rattle.flow_graph.specs.CutStarts.{IsCutBlock, starts_with}
use Rattle.flow_graph.specs.BlockRows.{node_of, nodes_of, cuts_in, row_starts, view_of, IsRow, AreRows, IsKept, Holds, Gains, IsMade, AreMade}
use Rattle.flow_graph.proofs.SiteRuns.{from_to, targets_run, targets_ascend, filter_again, filter_ascends}

abbrev targets_in : List Edge → List ℕ
targets_in es = map (λ (e : Edge). e.1) es

abbrev node : ℕ → List ℕ → Node
node start known = record { start = start; known = known }

-- ---- known exits

pub known_transfer : (exe : Exe) (es : List Edge) (start : ℕ) (cut : Cut) → cut ≡ cut_of start (block_of exe start) → cut.end ≡ Transfer → targets_from cut.last es ≡ known_of exe es start
unfolding known_of
known_transfer exe es start cut is end =
    ap (λ (c : Cut). targets_from c.last es) is
    ∙ ap (λ e. known_by e (targets_from (last_of start (block_of exe start).insts) es) (option_to_list (follow_of exe start))) (sym end ∙ ap (λ (c : Cut). c.end) is)

other_end : (e : End) (targets next : List ℕ) → (e ≡ Transfer → ⊥) → next ≡ known_by e targets next
other_end Transfer targets next h = absurd (h refl)
other_end Island targets next h = refl
other_end BeforeIsland targets next h = refl
other_end Unreadable targets next h = refl
other_end Full targets next h = refl

pub known_other : (exe : Exe) (es : List Edge) (start : ℕ) (cut : Cut) → cut ≡ cut_of start (block_of exe start) → (cut.end ≡ Transfer → ⊥) → option_to_list (follow_of exe start) ≡ known_of exe es start
unfolding known_of
known_other exe es start cut is h = other_end (block_of exe start).end (targets_from (last_of start (block_of exe start).insts) es) (option_to_list (follow_of exe start)) (λ e. h (ap (λ (c : Cut). c.end) is ∙ e))

one_ascends : (o : Option ℕ) → IsStrictlyIncreasing (option_to_list o)
one_ascends None = λ k l. absurd (omega arith)
one_ascends (Some x) = λ k l. absurd (omega arith)

known_ascend : (exe : Exe) (es : List Edge) (start : ℕ) → ascends es ≡ true → IsStrictlyIncreasing (known_of exe es start)
unfolding known_of
known_ascend exe es start up = go (block_of exe start).end
  where
    targets : IsStrictlyIncreasing (targets_from (last_of start (block_of exe start).insts) es)
    targets = targets_ascend (last_of start (block_of exe start).insts) es up

    go : (e : End) → IsStrictlyIncreasing (known_by e (targets_from (last_of start (block_of exe start).insts) es) (option_to_list (follow_of exe start)))
    go Transfer = targets
    go Island = one_ascends (follow_of exe start)
    go BeforeIsland = one_ascends (follow_of exe start)
    go Unreadable = one_ascends (follow_of exe start)
    go Full = one_ascends (follow_of exe start)

-- ---- one row

pub run_made : (es : List Edge) (start : ℕ) (cut : Cut) (from to : ℕ) → from ≤ length es → to ≤ length es → ((k : ℕ) → k < from → (get_or es k (0, 0)).0 < cut.last) → ((k : ℕ) → from ≤ k → k < length es → cut.last ≤ (get_or es k (0, 0)).0) → ((k : ℕ) → k < to → (get_or es k (0, 0)).0 < cut.last + 1) → ((k : ℕ) → to ≤ k → k < length es → cut.last + 1 ≤ (get_or es k (0, 0)).0) → IsMade (targets_in es) start (targets_from cut.last es) cut (record { start = start; cut = cut; from = from; to = to })
run_made es start cut from to in' up below at still past = record {
  row = record { order = from_to es cut.last from to in' up below at still past; inside = let l = length-map es (λ (e : Edge). e.1) in omega arith };
  node = ap (node start) (targets_run es cut.last from to in' up below at still past);
  cut = refl;
}

-- more targets change nothing
row_more : (old more : List ℕ) (r : BlockRow) → IsRow (length old) r → IsRow (length (old ++ more)) r
row_more old more r h = record { order = h.order; inside = let l = length-append old more in let i = h.inside in omega arith }

same_node : (old more : List ℕ) (r : BlockRow) → IsRow (length old) r → node_of (old ++ more) r ≡ node_of old r
same_node old more r h =
    let order = h.order in
    let inside = h.inside in
    let long = length-drop r.from old in
    ap (λ xs. node r.start (take (r.to - r.from) xs)) (drop-append-le r.from old more (omega arith))
    ∙ ap (node r.start) (take-append-le (r.to - r.from) (drop r.from old) more (omega arith))

pub made_more : (old more : List ℕ) (start : ℕ) (known : List ℕ) (cut : Cut) (r : BlockRow) → IsMade old start known cut r → IsMade (old ++ more) start known cut r
made_more old more start known cut r h = record { row = row_more old more r h.row; node = same_node old more r h.row ∙ h.node; cut = h.cut }

pub made_held : (counted : List Edge) (targets : List ℕ) (start : ℕ) (known known' : List ℕ) (cut : Cut) (r : BlockRow) → Holds counted targets → known ≡ known' → IsMade (targets_in counted) start known cut r → IsMade targets start known' cut r
made_held counted targets start known known' cut r h e m =
    let P : List ℕ → Type 0 = λ ts. IsMade ts start known' cut r in
    let Q : List ℕ → Type 0 = λ ks. IsMade (targets_in counted) start ks cut r in
    subst P (sym h.1) (made_more (targets_in counted) h.0 start known' cut r (subst Q e m))

-- ---- rows

abbrev node_with : (ℕ → List ℕ) → ℕ × Cut → Node
node_with known b = node b.0 (known b.0)

abbrev kept_cut : ℕ × Cut → Cut
kept_cut b = b.1

nodes_more : (old more : List ℕ) (rows : List BlockRow) → ((k : ℕ) (d : BlockRow) → k < length rows → IsRow (length old) (get_or rows k d)) → nodes_of (old ++ more) rows ≡ nodes_of old rows
nodes_more old more [] h = refl
nodes_more old more (r ∷ rs) h =
    ap (λ n. n ∷ nodes_of (old ++ more) rs) (same_node old more r (h 0 r (omega arith)))
    ∙ ap (λ ns. node_of old r ∷ ns) (nodes_more old more rs (λ k d l. h (suc k) d (omega arith)))

pub none_made : (targets : List ℕ) (known : ℕ → List ℕ) → AreMade targets [] known []
none_made targets known = record { each = λ k d l. absurd (omega arith); nodes = refl; cuts = refl }

pub one_more : (old new : List ℕ) (blocks : List (ℕ × Cut)) (known : ℕ → List ℕ) (rows new_rows : List BlockRow) (i : ℕ) (d : ℕ × Cut) (r : BlockRow) → i < length blocks → AreMade old (take i blocks) known rows → Gains 1 old new → IsMade new (get_or blocks i d).0 (known (get_or blocks i d).0) (get_or blocks i d).1 r → new_rows ≡ rows ++ r ∷ [] → AreMade new (take (i + 1) blocks) known new_rows
one_more old new blocks known rows new_rows i d r l h g m e =
    let block = get_or blocks i d in
    let whole : old ++ g.0 ≡ new = sym g.1 in
    let P : List ℕ → Type 0 = λ ts. All (IsRow (length ts)) rows in
    let old_rows : All (IsRow (length new)) rows = subst P whole (λ k d l. row_more old g.0 (get_or rows k d) (h.each k d l)) in
    let same : nodes_of new rows ≡ nodes_of old rows = ap (λ ts. nodes_of ts rows) (sym whole) ∙ nodes_more old g.0 rows h.each in
    let Q : List BlockRow → Type 0 = λ rows. All (IsRow (length new)) rows in
    record {
      each = subst Q (sym e) (All-push (IsRow (length new)) rows r old_rows m.row);
      nodes =
          ap (nodes_of new) e
          ∙ map_push (node_of new) rows r
          ∙ ap (λ ns. ns ++ node_of new r ∷ []) (same ∙ h.nodes)
          ∙ ap (λ n. map (node_with known) (take i blocks) ++ n ∷ []) m.node
          ∙ sym (map_push (node_with known) (take i blocks) block)
          ∙ ap (map (node_with known)) (sym (take_more blocks i d l));
      cuts =
          ap cuts_in e
          ∙ map_push (λ (r : BlockRow). r.cut) rows r
          ∙ ap (λ cs. cs ++ r.cut ∷ []) h.cuts
          ∙ ap (λ c. map kept_cut (take i blocks) ++ c ∷ []) m.cut
          ∙ sym (map_push kept_cut (take i blocks) block)
          ∙ ap (map kept_cut) (sym (take_more blocks i d l));
    }

-- ---- the graph

starts_again : (known : ℕ → List ℕ) (blocks : List (ℕ × Cut)) → starts_in (map (node_with known) blocks) ≡ starts_with blocks
starts_again known [] = refl
starts_again known (b ∷ bs) = ap (λ xs. b.0 ∷ xs) (starts_again known bs)

each_known : (P : Node → Type 0) (known : ℕ → List ℕ) (blocks : List (ℕ × Cut)) → ((s : ℕ) → P (node s (known s))) → (k : ℕ) (d : Node) → k < length (map (node_with known) blocks) → P (get_or (map (node_with known) blocks) k d)
each_known P known [] h k d l = absurd (omega arith)
each_known P known (b ∷ bs) h zero d l = h b.0
each_known P known (b ∷ bs) h (suc k) d l = each_known P known bs h k d (omega arith)

each_of : (P : Node → Type 0) (known : ℕ → List ℕ) (blocks : List (ℕ × Cut)) → ((k : ℕ) (d : ℕ × Cut) → k < length blocks → P (node_with known (get_or blocks k d))) → (k : ℕ) (d : Node) → k < length (map (node_with known) blocks) → P (get_or (map (node_with known) blocks) k d)
each_of P known [] h k d l = absurd (omega arith)
each_of P known (b ∷ bs) h zero d l = h 0 b (omega arith)
each_of P known (b ∷ bs) h (suc k) d l = each_of P known bs (λ k d l. h (suc k) d (omega arith)) k d (omega arith)

is_graph : (exe : Exe) (es : List Edge) (blocks : List (ℕ × Cut)) (targets : List ℕ) (rows : List BlockRow) → ascends es ≡ true → AreStarts exe es (starts_with blocks) → AreMade targets blocks (known_of exe es) rows → IsGraph exe es (nodes_of targets rows)
is_graph exe es blocks targets rows up a m =
    let G : List Node → Type 0 = IsGraph exe es in
    let S : List ℕ → Type 0 = AreStarts exe es in
    subst G (sym m.nodes) (record {
      starts = subst S (sym (starts_again (known_of exe es) blocks)) a;
      known = each_known (λ b. b.known ≡ known_of exe es b.start) (known_of exe es) blocks (λ s. refl);
      ascend = each_known (λ b. IsStrictlyIncreasing b.known) (known_of exe es) blocks (λ s. known_ascend exe es s up);
    })

rows_start : (targets : List ℕ) (rows : List BlockRow) → row_starts rows ≡ starts_in (nodes_of targets rows)
rows_start targets [] = refl
rows_start targets (r ∷ rs) = ap (λ xs. r.start ∷ xs) (rows_start targets rs)

are_rows : (exe : Exe) (es : List Edge) (targets : List ℕ) (blocks : List (ℕ × Cut)) (known : ℕ → List ℕ) (rows : List BlockRow) → length blocks ≤ 65536 → AreStarts exe es (starts_with blocks) → AreMade targets blocks known rows → AreRows targets rows
are_rows exe es targets blocks known rows few a m =
    let same = ap length m.nodes in
    let x = length-map rows (node_of targets) in
    let y = length-map blocks (node_with known) in
    let P : List ℕ → Type 0 = IsStrictlyIncreasing in
    record {
      few = omega arith;
      each = m.each;
      ascend = subst P (sym (rows_start targets rows ∙ ap starts_in m.nodes ∙ starts_again known blocks)) a.ascend;
    }

right_cuts : (exe : Exe) (known : ℕ → List ℕ) (blocks : List (ℕ × Cut)) → All (IsCutBlock exe) blocks → map kept_cut blocks ≡ map (cut_in exe) (map (node_with known) blocks)
right_cuts exe known [] h = refl
right_cuts exe known (b ∷ bs) h =
    ap (λ c. c ∷ map kept_cut bs) (All-head (IsCutBlock exe) b bs h).cut
    ∙ ap (λ cs. cut_of b.0 (block_of exe b.0) ∷ cs) (right_cuts exe known bs (All-tail (IsCutBlock exe) b bs h))

pub are_cuts : (exe : Exe) (edges : List Edge) (targets : List ℕ) (blocks : List (ℕ × Cut)) (known : ℕ → List ℕ) (rows : List BlockRow) → All (IsCutBlock exe) blocks → AreMade targets blocks known rows → AreCutsOf exe (view_of edges targets rows)
are_cuts exe edges targets blocks known rows h m =
    m.cuts ∙ right_cuts exe known blocks h ∙ ap (map (cut_in exe)) (sym m.nodes)

pub cut_seen : (edges : List Edge) (targets : List ℕ) (rows : List BlockRow) (i : ℕ) (row : BlockRow) (g : GraphView) → row ≡ get_or rows i row → view_of edges targets rows ≡ g → i < length g.nodes → row.cut ≡ cut_at g i
cut_seen edges targets rows i row g at is l =
    let whole = ap (λ (g : GraphView). length g.nodes) is in
    let same = length-map rows (node_of targets) in
    ap (λ (r : BlockRow). r.cut) at
    ∙ sym (get_or-map (λ (r : BlockRow). r.cut) rows i row (record { count = 0; len = 0; end = Unreadable; last = 0 }) (omega arith))
    ∙ ap (λ g. cut_at g i) is

pub cut_of_block : (exe : Exe) (g : GraphView) (i : ℕ) → i < length g.nodes → AreCutsOf exe g → cut_at g i ≡ cut_in exe (node_at g.nodes i)
cut_of_block exe g i l h =
    let none : Cut = record { count = 0; len = 0; end = Unreadable; last = 0 } in
    ap (λ (cs : List Cut). get_or cs i none) h
    ∙ get_or-map (cut_in exe) g.nodes i (record { start = 0; known = [] }) none l

-- ---- what the calls of the whole need

counts_exec : (exe : Exe) (e : Edge) → counts exe e ≡ true → IsTrue (is_exec e.1 exe.segments)
unfolding counts
counts_exec exe e h = (and_inv (is_exec e.1 exe.segments) (is_beginning exe e || leads_to exe e.0 e.1) h).0

pub counted_exec : (exe : Exe) (es counted : List Edge) → counted ≡ counting exe es → All (λ (e : Edge). IsTrue (is_exec e.1 exe.segments)) counted
counted_exec exe es counted is =
    let P : List Edge → Type 0 = λ xs. All (λ (e : Edge). IsTrue (is_exec e.1 exe.segments)) xs in
    subst P (sym is) (λ k d l. counts_exec exe (get_or (counting exe es) k d) (filter_passes (counts exe) es k d l))

pub nodes_exec : (exe : Exe) (targets : List ℕ) (blocks : List (ℕ × Cut)) (known : ℕ → List ℕ) (rows : List BlockRow) → All (IsCutBlock exe) blocks → AreMade targets blocks known rows → AreCode exe (nodes_of targets rows)
nodes_exec exe targets blocks known rows all m = subst (AreCode exe) (sym m.nodes) (each_of (λ b. IsTrue (is_exec b.start exe.segments)) known blocks (λ k d l. (all k d l).code))

pub counted_ascend : (exe : Exe) (es counted : List Edge) → counted ≡ counting exe es → IsEdges es → ascends counted ≡ true
counted_ascend exe es counted is h = ap ascends is ∙ filter_ascends (counts exe) es h.order

pub counted_no_more : (exe : Exe) (es counted : List Edge) → counted ≡ counting exe es → length counted ≤ length es
counted_no_more exe es counted is = let same = ap length is in omega (arith, length-filter (counts exe) es, count_by-le-length (counts exe) es)

pub counted_few : (exe : Exe) (es counted : List Edge) → counted ≡ counting exe es → IsEdges es → length counted ≤ 16777216
counted_few exe es counted is h = let few = h.count in omega (arith, counted_no_more exe es counted is)

pub counted_again : (exe : Exe) (es counted : List Edge) → counted ≡ counting exe es → counted ≡ counting exe counted
counted_again exe es counted is = is ∙ filter_again (counts exe) es ∙ ap (counting exe) (sym is)

pub counted_edges : (exe : Exe) (es counted : List Edge) → counted ≡ counting exe es → IsEdges es → IsEdges counted
counted_edges exe es counted is h = record { order = counted_ascend exe es counted is h; count = counted_few exe es counted is h }

pub graph_made : (exe : Exe) (counted first second : List Edge) (blocks again : List (ℕ × Cut)) (targets : List ℕ) (rows : List BlockRow) → first ≡ counted → second ≡ counted → again ≡ blocks → ascends counted ≡ true → AreStarts exe first (starts_with blocks) → AreMade targets again (known_of exe second) rows → IsGraph exe counted (nodes_of targets rows)
graph_made exe counted first second blocks again targets rows a b c up s m =
    let P : List Edge → Type 0 = λ xs. AreStarts exe xs (starts_with blocks) in
    let Q : List Edge → Type 0 = λ xs. AreMade targets again (known_of exe xs) rows in
    let R : List (ℕ × Cut) → Type 0 = λ xs. AreMade targets xs (known_of exe counted) rows in
    is_graph exe counted blocks targets rows up (subst P a s) (subst R c (subst Q b m))

pub is_kept : (exe : Exe) (counted first : List Edge) (blocks again : List (ℕ × Cut)) (targets : List ℕ) (known : ℕ → List ℕ) (rows : List BlockRow) → IsEdges counted → again ≡ blocks → length blocks ≤ 65536 → AreStarts exe first (starts_with blocks) → AreMade targets again known rows → IsKept counted targets rows
is_kept exe counted first blocks again targets known rows edges c few s m =
    let R : List (ℕ × Cut) → Type 0 = λ xs. AreMade targets xs known rows in
    record { edges = edges; rows = are_rows exe first targets blocks known rows few s (subst R c m) }

pub holds_more : (counted : List Edge) (old new : List ℕ) → Holds counted old → Gains 1 old new → Holds counted new
holds_more counted old new h g = (h.0 ++ g.0, g.1 ∙ ap (λ xs. xs ++ g.0) h.1 ∙ append_assoc (targets_in counted) h.0 g.0)

pub room_more : (old new : List ℕ) → Gains 1 old new → length new ≤ length old + 1
room_more old new g = let same = ap length g.1 in let few = g.2 in omega (arith, length-append old g.0)
