-- The rows of a graph's blocks: where they stand, that they are linked, and the keys that they give.
use Rattle.std.proofs.Common.{◌≡◌, ℕ, zero, suc, ◌^◌, ◌<◌, ◌≤◌, ◌==◌, Bool, true, false, List, [], ◌∷◌, ◌++◌, length, drop, map, get_or, Contains, refl, sym, ap, ◌∙◌, subst, arith, inl, inr, ⊎_elim}
use Rattle.std.specs.Prelude.{if◌then◌else◌}
use Rattle.std.specs.List.Sorted.{IsStrictlyIncreasing}
use Rattle.std.proofs.lemmas.Bool.{cases_lt}
use Rattle.std.proofs.lemmas.Bool.Decides.{nat_tests}
use Rattle.std.proofs.lemmas.List.{get_or-map, length-map, drop_all, append-nil}
use Rattle.std.proofs.lemmas.List.Elements.{All-nil, All-cons}
use Rattle.std.proofs.lemmas.Map.Keys.{sorted_from_strictly_increasing, below_from_sorted}
use Rattle.elf_read.specs.declared.exe.Exe.{Exe}
use Rattle.elf_read.specs.Elf.{IsGuest}
use Rattle.ia_inst.specs.declared.inst.Inst.{Inst}
use Rattle.run_model.specs.Edges.{Edge}
use Rattle.block_cut.specs.declared.ends.End.{End}
use Rattle.block_cut.specs.declared.ends.End.TheVariants.{Transfer, Island, BeforeIsland, Unreadable, Full}
use Rattle.block_cut.specs.Places.{Placed}
use Rattle.block_cut.specs.Blocks.{block_of}
use Rattle.block_cut.specs.CountedEdges.{counting}
use Rattle.flow_graph.specs.Graph.{IsStart, known_of, Node, starts_in}
use Rattle.flow_graph.specs.GraphOf.{OneGraph, graph_of, starts_of}
use Rattle.ssa_form.specs.declared.form.Block.{Block}
use Rattle.ssa_form.specs.declared.form.BlockKey.{BlockKey}
use Rattle.lift_alu.specs.Lifted.{lifted}
use Rattle.lift_flow.specs.LiftedBlock.{blank, lifted_all, lifted_to, lift_of}
use Rattle.live_flow.specs.declared.row.LiveRow.{LiveRow}
use Rattle.live_flow.specs.Live.{no_row, row_at, place_of, is_live, sets_from, live_in, IsAmong, StartsAscend, NextAreStarts}
use Rattle.live_flow.specs.Laws.{IsNarrow, AreNarrow, EachRowIsNarrow, SetsAreSmall}
use Rattle.block_make.specs.Choices.{ready}
use Rattle.live_flow.specs.Rows.{row_of}
use Rattle.code_layout.specs.Keys.{row_in, rows_in, IsRow, AreRows, rows_of, set_at, live_of, key_of, keys_of, key_by}
use Rattle.code_layout.proofs.Chosen.{here, there, next_start, starts, starts_of_nodes}

-- ---- what becomes code of a block has its start

one_start : (i : Inst) (at n : ℕ) (b : Block) → (lifted i at n b).start ≡ b.start
unfolding lifted
one_start i at n b = refl

all_start : (is : List Placed) (b : Block) → (lifted_all is b).start ≡ b.start
all_start [] b = refl
all_start (p ∷ ps) b = all_start ps (lifted p.inst p.at p.size b) ∙ one_start p.inst p.at p.size b

lift_start : (exe : Exe) (s : ℕ) → (lift_of exe s).start ≡ s
unfolding lift_of
lift_start exe s = by_end (block_of exe s).end
  where
    by_end : (e : End) → (lifted_to e (block_of exe s).insts s).start ≡ s
    by_end Transfer = all_start (block_of exe s).insts (blank s)
    by_end Island = refl
    by_end BeforeIsland = all_start (block_of exe s).insts (blank s)
    by_end Unreadable = all_start (block_of exe s).insts (blank s)
    by_end Full = all_start (block_of exe s).insts (blank s)

pub ready_start : (exe : Exe) (s : ℕ) → (ready exe s).start ≡ s
unfolding ready
ready_start exe s = lift_start exe s

-- ---- rows by their starts

abbrev pub row_starts : List LiveRow → List ℕ
row_starts rows = map (λ (r : LiveRow). r.start) rows

starts_are : (exe : Exe) (ns : List Node) → row_starts (rows_in exe ns) ≡ starts_in ns
starts_are exe [] = refl
starts_are exe (n ∷ ns) = ap (λ s. s ∷ row_starts (rows_in exe ns)) (ready_start exe n.start) ∙ ap (λ ss. n.start ∷ ss) (starts_are exe ns)

pub ascend : (rows : List LiveRow) → IsStrictlyIncreasing (row_starts rows) → StartsAscend rows
ascend rows up i j l m =
    let k : i < length rows = omega (arith, l, m) in
    let a = get_or-map (λ (r : LiveRow). r.start) rows i no_row 0 k in
    let b = get_or-map (λ (r : LiveRow). r.start) rows j no_row 0 m in
    let n = length-map rows (λ (r : LiveRow). r.start) in
    let c = below_from_sorted (row_starts rows) i j 0 (sorted_from_strictly_increasing (row_starts rows) up) l (omega (arith, m, n)) in
    omega (arith, a, b, c)

place_there : (rows : List LiveRow) (y : ℕ) → Contains (row_starts rows) y → place_of rows y < length rows
place_there [] y (k, l, e) = absurd (omega (arith, l))
place_there (r ∷ rows) y c = go (r.start == y) refl c (λ h. place_there rows y h)
  where
    go : (b : Bool) → (r.start == y) ≡ b → Contains (r.start ∷ row_starts rows) y → (Contains (row_starts rows) y → place_of rows y < length rows) → (if b then 0 else suc (place_of rows y)) < suc (length rows)
    go true e h more = omega arith
    go false e (zero, l, i) more = absurd (grind (arith, nat_tests))
    go false e (suc k, l, i) more = let h = more (k, omega (arith, l), i) in omega (arith, h)

past : (rows : List LiveRow) (i : ℕ) → length rows ≤ i → row_at rows i ≡ no_row
past [] i l = refl
past (r ∷ rows) zero l = absurd (omega (arith, l))
past (r ∷ rows) (suc i) l = past rows i (omega (arith, l))

low_ways : (rows : List LiveRow) (ys : List ℕ) → ((y : ℕ) → Contains ys y → place_of rows y < length rows) → (j : ℕ) → IsAmong (map (place_of rows) ys) j → j < length rows
low_ways rows [] f j m = absurd m
low_ways rows (y ∷ ys) f j (inl e) = let l = f y (here y ys) in omega (arith, l, e)
low_ways rows (y ∷ ys) f j (inr m) = low_ways rows ys (λ z c. f z (there y z ys c)) j m

pub among_ways : (rows : List LiveRow) (ys : List ℕ) (k d : ℕ) → k < length ys → IsAmong (map (place_of rows) ys) (place_of rows (get_or ys k d))
among_ways rows [] k d l = absurd (omega (arith, l))
among_ways rows (y ∷ ys) zero d l = inl refl
among_ways rows (y ∷ ys) (suc k) d l = inr (among_ways rows ys k d (omega (arith, l)))

sets_length : (sets : ℕ → ℕ → Bool) (n : ℕ) (rows : List LiveRow) → length (sets_from sets n rows) ≡ length rows
sets_length sets n [] = refl
sets_length sets n (r ∷ rows) = ap suc (sets_length sets (suc n) rows)

pub live_length : (rows : List LiveRow) → length (live_in rows) ≡ length rows
live_length rows = sets_length (is_live rows) 0 rows

pub rows_same : (exe : Exe) (edges : List Edge) (nodes : List Node) → nodes ≡ graph_of exe edges → rows_in exe nodes ≡ rows_of exe edges
unfolding rows_of
rows_same exe edges nodes e = ap (rows_in exe) e

-- ---- rows of blocks

row_is_row : (exe : Exe) (n : Node) → IsRow exe (row_in exe n)
row_is_row exe n = ap (λ s. row_of (ready exe s) n.known) (sym (ready_start exe n.start))

each_is_row : (exe : Exe) (ns : List Node) → AreRows exe (rows_in exe ns)
each_is_row exe [] = All-nil (IsRow exe)
each_is_row exe (n ∷ ns) = All-cons (IsRow exe) (row_in exe n) (rows_in exe ns) (row_is_row exe n) (each_is_row exe ns)

pub all_are_rows : (exe : Exe) (ns : List Node) (rows : List LiveRow) (i : ℕ) → length ns ≤ i → rows ++ map (row_in exe) (drop i ns) ≡ rows_in exe ns → AreRows exe rows
all_are_rows exe ns rows i l e =
    let none : rows ++ map (row_in exe) (drop i ns) ≡ rows = ap (λ rest. rows ++ map (row_in exe) rest) (drop_all i ns l) ∙ append-nil rows in
    subst (AreRows exe) (sym (sym none ∙ e)) (each_is_row exe ns)

-- ---- keys

pub keys_are : (exe : Exe) (ns : List Node) (rows : List LiveRow) (sets : List ℕ) → map (key_by rows sets) (rows_in exe ns) ≡ map (key_of (λ y. set_at rows sets y)) ns
keys_are exe [] rows sets = refl
keys_are exe (n ∷ ns) rows sets =
    let F : ℕ → BlockKey = λ s. record { start = s; exits = map (λ y. (y, set_at rows sets y)) n.known } in
    ap (λ s. F s ∷ map (key_by rows sets) (rows_in exe ns)) (ready_start exe n.start)
    ∙ ap (λ ks. F n.start ∷ ks) (keys_are exe ns rows sets)

pub keys_by_rows : (exe : Exe) (edges : List Edge) → map (key_by (rows_of exe edges) (live_in (rows_of exe edges))) (rows_of exe edges) ≡ keys_of exe edges
unfolding keys_of rows_of live_of
keys_by_rows exe edges = keys_are exe (graph_of exe edges) (rows_in exe (graph_of exe edges)) (live_in (rows_in exe (graph_of exe edges)))

-- ---- narrow sets

row_narrow : EachRowIsNarrow → (exe : Exe) (ns : List Node) (i : ℕ) → IsNarrow (row_at (rows_in exe ns) i).uses × IsNarrow (row_at (rows_in exe ns) i).passes
row_narrow each exe [] i = (λ v l. refl_none v, λ v l. refl_none v)
  where
    refl_none : (v : ℕ) → Rattle.pass_dead.specs.Names.has 0 v ≡ false
    refl_none v = Rattle.stub_sink.proofs.Sets.has_none v
row_narrow each exe (n ∷ ns) zero = each (ready exe n.start) n.known
row_narrow each exe (n ∷ ns) (suc i) = row_narrow each exe ns i

pub are_narrow : EachRowIsNarrow → (exe : Exe) (edges : List Edge) → AreNarrow (rows_of exe edges)
unfolding rows_of
are_narrow each exe edges i = row_narrow each exe (graph_of exe edges) i

pub live_small : EachRowIsNarrow → SetsAreSmall → (exe : Exe) (edges : List Edge) (y : ℕ) → live_of exe edges y < 2 ^ 14
unfolding live_of
live_small each small exe edges y = small (rows_of exe edges) (place_of (rows_of exe edges) y) (are_narrow each exe edges)

-- ---- of a graph

module _ (one : OneGraph) (exe : Exe) (edges : List Edge) (guest : IsGuest exe) where
  abbrev es : List Edge
  es = counting exe edges

  abbrev node : ℕ → Node
  node s = record { start = s; known = known_of exe es s }

  same_starts : row_starts (rows_of exe edges) ≡ starts_of exe es
  unfolding rows_of graph_of
  same_starts = starts_are exe (graph_of exe edges) ∙ starts_of_nodes exe es (λ y. 0) (starts_of exe es)

  pub rows_ascend : StartsAscend (rows_of exe edges)
  rows_ascend = ascend (rows_of exe edges) (subst IsStrictlyIncreasing (sym same_starts) (starts one exe edges guest).ascend)

  -- the start of a block is that of a row
  pub has_row : (y : ℕ) → IsStart exe es y → place_of (rows_of exe edges) y < length (rows_of exe edges)
  has_row y h = place_there (rows_of exe edges) y (subst (λ xs. Contains xs y) (sym same_starts) (((starts one exe edges guest).each y).1 h))

  row_is : (i : ℕ) → i < length (rows_of exe edges) → row_at (rows_of exe edges) i ≡ row_in exe (node (get_or (starts_of exe es) i 0))
  unfolding rows_of graph_of
  row_is i l =
      let ss = starts_of exe es in
      let n = length-map (map node ss) (row_in exe) in
      let m = length-map ss node in
      get_or-map (row_in exe) (map node ss) i (node 0) no_row (omega (arith, l, n)) ∙ ap (row_in exe) (get_or-map node ss i 0 (node 0) (omega (arith, l, n, m)))

  few_rows : length (rows_of exe edges) ≡ length (starts_of exe es)
  few_rows = sym (length-map (rows_of exe edges) (λ (r : LiveRow). r.start)) ∙ ap length same_starts

  -- known exits of a row are starts of rows
  pub next_are : NextAreStarts (rows_of exe edges)
  next_are i j m = ⊎_elim
      (λ (l : i < length (rows_of exe edges)).
      let s = get_or (starts_of exe es) i 0 in
      let there : IsStart exe es s = ((starts one exe edges guest).each s).0 (i, (let n = few_rows in omega (arith, l, n)), inside (starts_of exe es) i (let n = few_rows in omega (arith, l, n))) in
      low_ways (rows_of exe edges) (known_of exe es s) (λ y c. has_row y (next_start exe es s y there c)) j
      (subst (λ (r : LiveRow). IsAmong (map (place_of (rows_of exe edges)) r.next) j) (row_is i l) m))
      (λ (g : length (rows_of exe edges) ≤ i). absurd (subst (λ (r : LiveRow). IsAmong (map (place_of (rows_of exe edges)) r.next) j) (past (rows_of exe edges) i g) m))
      (cases_lt i (length (rows_of exe edges)))
    where
      inside : (xs : List ℕ) (k : ℕ) → k < length xs → get_or xs k (get_or xs k 0) ≡ get_or xs k 0
      inside [] k l = absurd (omega (arith, l))
      inside (x ∷ xs) zero l = refl
      inside (x ∷ xs) (suc k) l = inside xs k (omega (arith, l))
