-- Rows of edges over a table of links: a node for each edge of a row, a column for each edge.
use Rattle.std.specs.Prelude.{◌≡◌, ◌⊎◌, ℕ, zero, suc, ◌+◌, ◌<◌, ◌≤◌, true, false, if◌then◌else◌, List, [], ◌∷◌, ◌++◌, length, drop, slice_index_or, vec_capacity, Option, Some}
use Rattle.std.specs.declared.cmp.Ordering.{Ordering}
use Rattle.std.specs.Ordering.{ordering_then, nat_cmp}
use Rattle.std.specs.BTreeMap.{BTreeMap, get, btree_map_len}
use Rattle.link_table.specs.Circles.{times}
use Rattle.link_table.specs.Table.{Table, valued, valued_in}
use Rattle.trace_file.specs.Edges.{Edge, same}
use Rattle.trace_set.specs.declared.rows.EdgeRows.{EdgeRows}

-- the edge of the column
abbrev pub edge_at : List Edge → ℕ → Edge
edge_at columns c = slice_index_or columns c (0, 0)

-- the edges of a row's nodes: the value of a node is its column
abbrev pub edges_in : List Edge → List (ℕ × ℕ) → List Edge
edges_in columns [] = []
edges_in columns (e ∷ es) = edge_at columns e.1 ∷ edges_in columns es

abbrev pub rows_in : List Edge → List (List (ℕ × ℕ)) → List (List Edge)
rows_in columns [] = []
rows_in columns (es ∷ rows) = edges_in columns es ∷ rows_in columns rows

-- how often the list has the edge
abbrev pub uses_of : Edge → List Edge → ℕ
uses_of e [] = 0
uses_of e (a ∷ es) = (if same a e then 1 else 0) + uses_of e es

-- how often the lists have the edge
abbrev pub uses_in : Edge → List (List Edge) → ℕ
uses_in e [] = 0
uses_in e (es ∷ rows) = uses_of e es + uses_in e rows

-- the rows with the edge last in the one at i
abbrev pub put_edge : List (List Edge) → ℕ → Edge → List (List Edge)
put_edge [] i e = []
put_edge (es ∷ rows) zero e = (es ++ e ∷ []) ∷ rows
put_edge (es ∷ rows) (suc i) e = es ∷ put_edge rows i e

-- the lists with the first element of the one at i taken out
abbrev pub behead : {X : Type 0} → List (List X) → ℕ → List (List X)
behead [] i = []
behead (xs ∷ xss) zero = drop 1 xs ∷ xss
behead (xs ∷ xss) (suc i) = xs ∷ behead xss i

-- the rows are as before, or there is one more, which is empty, where they ended at i
abbrev pub Reaches : List (List Edge) → ℕ → List (List Edge) → Type 0
Reaches old i new = (new ≡ old) ⊎ ((length old ≡ i) × (new ≡ old ++ [] ∷ []))

-- by the site, and then by the target
abbrev pub edge_cmp : Edge → Edge → Ordering
edge_cmp a b = ordering_then (nat_cmp a.0 b.0) (nat_cmp a.1 b.1)

-- the column of an edge that some row has
abbrev pub column_of : BTreeMap Edge ℕ → Edge → Option ℕ
column_of names e = get edge_cmp names e

-- columns: the edge of each column; names: the column of each edge that some row has; spare: the columns of no edge;
-- room: for how many columns there is room in spare
pub record IsLaid (t : Table) (columns : List Edge) (names : BTreeMap Edge ℕ) (spare : List ℕ) (room : ℕ) : Type 0 where
  pub own : (c v : ℕ) → 0 < valued v (slice_index_or t.columns c []) → v ≡ c
  pub alive : (r : ℕ) → r < length t.rows → slice_index_or t.alive r false ≡ true
  pub named : length columns ≡ length t.columns
  pub keyed : (c : ℕ) → 0 < valued_in c t.rows → column_of names (edge_at columns c) ≡ Some c
  pub found : (e : Edge) (c : ℕ) → column_of names e ≡ Some c → (edge_at columns c ≡ e) × (0 < valued_in c t.rows)
  pub empty : (c : ℕ) → 0 < times c spare → (c < length columns) × (valued_in c t.rows ≡ 0)
  pub once : (c : ℕ) → times c spare ≤ 1
  pub sized : btree_map_len names + length spare ≡ length columns
  pub fits : length columns ≤ room

abbrev pub IsKept : EdgeRows → Type 0
IsKept s = IsLaid s.links s.columns.items s.names s.spare.items (vec_capacity s.spare) × (s.count ≡ length s.links.rows)

-- the rows that are shown
abbrev pub shown_rows : EdgeRows → List (List Edge)
shown_rows s = rows_in s.columns.items s.links.rows
