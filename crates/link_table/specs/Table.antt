-- What a table of links shows: the entries of each row and of each column, by name.
use Rattle.std.specs.Prelude.{◌≡◌, ℕ, zero, suc, ◌+◌, ◌<◌, ◌≤◌, ◌^◌, ◌==◌, Bool, if◌then◌else◌, List, [], ◌∷◌, ◌++◌, length, slice_index, drop, Option, None, Some}
use Rattle.link_table.specs.Circles.{Family, times, times_in, size}

-- the rows and columns by name, each a list of (node, value), and which row names are not given up
pub record Table : Type 0 where
  pub alive : List Bool
  pub rows : List (List (ℕ × ℕ))
  pub columns : List (List (ℕ × ℕ))

-- the entries of the list at i with one put last
abbrev pub put_entry : List (List (ℕ × ℕ)) → ℕ → ℕ × ℕ → List (List (ℕ × ℕ))
put_entry [] i e = []
put_entry (xs ∷ xss) zero e = (xs ++ e ∷ []) ∷ xss
put_entry (xs ∷ xss) (suc i) e = xs ∷ put_entry xss i e

-- the entries of other nodes
abbrev pub others : ℕ → List (ℕ × ℕ) → List (ℕ × ℕ)
others x [] = []
others x (e ∷ es) = if e.0 == x then others x es else (e ∷ others x es)

abbrev pub all_others : ℕ → List (List (ℕ × ℕ)) → List (List (ℕ × ℕ))
all_others x [] = []
all_others x (es ∷ ess) = others x es ∷ all_others x ess

-- how many entries a node has
abbrev pub entries_of : ℕ → List (ℕ × ℕ) → ℕ
entries_of x [] = 0
entries_of x (e ∷ es) = (if e.0 == x then 1 else 0) + entries_of x es

abbrev pub entries_in : ℕ → List (List (ℕ × ℕ)) → ℕ
entries_in x [] = 0
entries_in x (es ∷ ess) = entries_of x es + entries_in x ess

-- how many entries there are
abbrev pub count_in : List (List (ℕ × ℕ)) → ℕ
count_in [] = 0
count_in (es ∷ ess) = length es + count_in ess

-- nodes with their values
abbrev pub entries : List ℕ → List ℕ → List (ℕ × ℕ)
entries values [] = []
entries values (x ∷ xs) = (x, slice_index values x) ∷ entries values xs

abbrev pub all_entries : List ℕ → List (List ℕ) → List (List (ℕ × ℕ))
all_entries values [] = []
all_entries values (xs ∷ xss) = entries values xs ∷ all_entries values xss

-- the lists of the rows: the first list has the free nodes
abbrev pub row_lists : Family → List (List ℕ)
row_lists f = drop 1 f.lists

-- two families of lists over the same nodes
pub record IsLinked (rows columns : Family) (alive : List Bool) (values : List ℕ) (used live : ℕ) : Type 0 where
  pub row_slots : used ≤ rows.slots
  pub column_slots : used ≤ columns.slots
  pub value_slots : used ≤ length values
  pub given : (i : ℕ) → 0 < times i rows.heads + times_in i rows.lists + times i columns.heads → i < used
  pub apart : (i : ℕ) → times i rows.heads + times_in i rows.lists + times i columns.heads ≤ 1
  pub paired : (i : ℕ) → times_in i columns.lists ≡ times_in i (row_lists rows)
  pub sizes : used ≡ length rows.heads + length columns.heads + size rows.lists
  pub row_size : size (row_lists rows) ≡ live
  pub column_size : size columns.lists ≡ live
  pub named : length alive ≡ length (row_lists rows)
  pub few_rows : length rows.heads ≤ 2 ^ 24 + 1
  pub few_columns : length columns.heads ≤ 2 ^ 24
  pub few_nodes : size rows.lists ≤ 2 ^ 24

-- lists without the entries of the nodes of some entries
abbrev pub all_but : List (ℕ × ℕ) → List (List (ℕ × ℕ)) → List (List (ℕ × ℕ))
all_but [] t = t
all_but (e ∷ es) t = all_but es (all_others e.0 t)

-- the node of the first entry
abbrev pub first_node : List (ℕ × ℕ) → Option ℕ
first_node [] = None
first_node (e ∷ es) = Some e.0

-- how many entries have the value v
abbrev pub valued : ℕ → List (ℕ × ℕ) → ℕ
valued v [] = 0
valued v (e ∷ es) = (if e.1 == v then 1 else 0) + valued v es

abbrev pub valued_in : ℕ → List (List (ℕ × ℕ)) → ℕ
valued_in v [] = 0
valued_in v (es ∷ ess) = valued v es + valued_in v ess

-- rows and columns have the same nodes with the same values, each node once; and each row has a name
pub record IsCrossed (t : Table) : Type 0 where
  pub once : (n : ℕ) → entries_in n t.rows ≤ 1
  pub paired : (n : ℕ) → entries_in n t.columns ≡ entries_in n t.rows
  pub counted : (v : ℕ) → valued_in v t.columns ≡ valued_in v t.rows
  pub sized : count_in t.columns ≡ count_in t.rows
  pub named : length t.alive ≡ length t.rows
  pub few_rows : length t.rows ≤ 2 ^ 24
  pub few_columns : length t.columns ≤ 2 ^ 24
  pub few_nodes : count_in t.rows ≤ 2 ^ 24
