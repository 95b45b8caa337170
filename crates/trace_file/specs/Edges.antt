-- Control-flow edges, and lists of them in order.
use Rattle.std.specs.Prelude.{◌≡◌, ℕ, ◌≤◌, ◌↔◌, ◌⊎◌, Bool, true, false, ◌||◌, ◌&&◌, nat_eq, nat_lt, if◌then◌else◌, List, [], ◌∷◌, length, sum_by, All, Contains}
use Rattle.trace_file.specs.declared.limits.TheConstants.{EDGE_LIMIT}

-- the address of a transfer, the site, and the address that it led to, the target
abbrev pub Edge : Type 0
Edge = ℕ × ℕ

-- by the site, and then by the target
abbrev pub before : Edge → Edge → Bool
before a b = nat_lt a.0 b.0 || (nat_eq a.0 b.0 && nat_lt a.1 b.1)

-- the list ascends strictly, from an edge before it on
abbrev pub ascends_after : Edge → List Edge → Bool
ascends_after a [] = true
ascends_after a (b ∷ bs) = before a b && ascends_after b bs

-- the list ascends strictly
abbrev pub ascends : List Edge → Bool
ascends [] = true
ascends (a ∷ es) = ascends_after a es

-- a list that a set of edges may have
pub record IsEdges (es : List Edge) : Type 0 where
  pub order : ascends es ≡ true
  pub count : length es ≤ EDGE_LIMIT

-- an edge put before the rest, or where it belongs in the other list
abbrev pub step : Edge → (List Edge → List Edge) → List Edge → List Edge
step a rest [] = a ∷ rest []
step a rest (b ∷ bs) =
    if before a b then (a ∷ rest (b ∷ bs)) else (if before b a then (b ∷ step a rest bs) else (a ∷ rest bs))

-- two ascending lists as one
abbrev pub merge : List Edge → List Edge → List Edge
merge [] bs = bs
merge (a ∷ es) bs = step a (merge es) bs

-- an edge put in its place, unless it is there
abbrev pub with_edge : Edge → List Edge → List Edge
with_edge e es = merge (e ∷ []) es

-- edges in any order, put in one after another
abbrev pub collected : List Edge → List Edge → List Edge
collected [] es = es
collected (e ∷ more) es = collected more (with_edge e es)

-- edges in any order as a set: in order, each once
abbrev pub in_order : List Edge → List Edge
in_order es = collected es []

-- two edges are the same
abbrev pub same : Edge → Edge → Bool
same a b = nat_eq a.0 b.0 && nat_eq a.1 b.1

-- whether the list has the edge
abbrev pub has : Edge → List Edge → Bool
has e [] = false
has e (a ∷ es) = same a e || has e es

-- the edges of a list that the first one does not have
abbrev pub without : List Edge → List Edge → List Edge
without gone [] = []
without gone (e ∷ es) = if has e gone then without gone es else (e ∷ without gone es)

-- the union of sets
abbrev pub union_of : List (List Edge) → List Edge
union_of [] = []
union_of (es ∷ sets) = merge es (union_of sets)

-- how many pairs the sets have together, one that several have counted in each
abbrev pub pairs : List (List Edge) → ℕ
pairs sets = sum_by length sets

-- ---- what these lists are

-- strictly ascending, so each edge once
abbrev pub IsInOrder : List Edge → Type 0
IsInOrder es = ascends es ≡ true

-- a list has exactly the edges of which this holds, in order
pub record IsSetOf (Holds : Edge → Type 0) (made : List Edge) : Type 0 where
  pub order : IsInOrder made
  pub members : (e : Edge) → Contains made e ↔ Holds e

-- an edge is in the union exactly where it is in one of the two
abbrev pub IsInBoth : List Edge → List Edge → List Edge → Edge → Type 0
IsInBoth left right all e =
    (Contains all e → Contains left e ⊎ Contains right e) × (Contains left e ⊎ Contains right e → Contains all e)

-- an edge is in the rest exactly where it is in the list and not among those that are gone
abbrev pub IsInRest : List Edge → List Edge → List Edge → Edge → Type 0
IsInRest list gone rest e = Contains rest e ↔ (Contains list e × (Contains gone e → ⊥))

-- an edge is in one of the sets
abbrev pub IsInSome : List (List Edge) → Edge → Type 0
IsInSome sets e = (es : List Edge) × Contains sets es × Contains es e

-- edges put in one after another, and the union of sets, are sets of just these edges; and two sets of
-- the same edges are one list
pub record SetsHold : Type 0 where
  pub gathered : (es : List Edge) → IsSetOf (Contains es) (in_order es)
  pub united : (sets : List (List Edge)) → All IsInOrder sets → IsSetOf (IsInSome sets) (union_of sets)
  pub unique : (es made : List Edge) → IsInOrder es → IsSetOf (Contains es) made → made ≡ es
