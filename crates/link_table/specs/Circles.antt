-- Lists that are kept as circles of slots.
use Rattle.std.specs.Prelude.{◌≡◌, ℕ, zero, suc, ◌+◌, ◌<◌, ◌≤◌, ◌==◌, if◌then◌else◌, List, [], ◌∷◌, ◌++◌, length, slice_index, Option, None, Some}

-- the list with every x taken out
abbrev pub without : ℕ → List ℕ → List ℕ
without x [] = []
without x (y ∷ ys) = if y == x then without x ys else (y ∷ without x ys)

-- every list with every x taken out
abbrev pub all_without : ℕ → List (List ℕ) → List (List ℕ)
all_without x [] = []
all_without x (xs ∷ xss) = without x xs ∷ all_without x xss

-- the lists with x put last in the one at i
abbrev pub put_last : List (List ℕ) → ℕ → ℕ → List (List ℕ)
put_last [] i x = []
put_last (xs ∷ xss) zero x = (xs ++ x ∷ []) ∷ xss
put_last (xs ∷ xss) (suc i) x = xs ∷ put_last xss i x

-- how often x is in the list
abbrev pub times : ℕ → List ℕ → ℕ
times x [] = 0
times x (y ∷ ys) = (if y == x then 1 else 0) + times x ys

-- how often x is in the lists
abbrev pub times_in : ℕ → List (List ℕ) → ℕ
times_in x [] = 0
times_in x (xs ∷ xss) = times x xs + times_in x xss

-- how many elements the lists have
abbrev pub size : List (List ℕ) → ℕ
size [] = 0
size (xs ∷ xss) = length xs + size xss

-- from a on, next leads through xs to b
abbrev pub Leads : List ℕ → ℕ → List ℕ → ℕ → Type 0
Leads next a [] b = slice_index next a ≡ b
Leads next a (x ∷ xs) b = (slice_index next a ≡ x) × Leads next x xs b

-- each head's circle is its list
abbrev pub AreCircles : List ℕ → List ℕ → List (List ℕ) → Type 0
AreCircles next [] [] = Unit {0}
AreCircles next [] (xs ∷ xss) = ⊥
AreCircles next (h ∷ hs) [] = ⊥
AreCircles next (h ∷ hs) (xs ∷ xss) = Leads next h xs h × AreCircles next hs xss

-- the elements from a up to the head, at most n
abbrev pub walk : List ℕ → ℕ → ℕ → ℕ → List ℕ
walk next head zero a = []
walk next head (suc n) a = if a == head then [] else (a ∷ walk next head n (slice_index next a))

-- the list of each head
abbrev pub lists_of : List ℕ → List ℕ → List (List ℕ)
lists_of next [] = []
lists_of next (h ∷ hs) = walk next h (length next) (slice_index next h) ∷ lists_of next hs

-- next and prev are each other's inverse
pub record AreTwins (next prev : List ℕ) : Type 0 where
  pub same : length prev ≡ length next
  pub forth : (i : ℕ) → i < length next → (slice_index next i < length next) × (slice_index prev (slice_index next i) ≡ i)
  pub back : (i : ℕ) → i < length next → (slice_index prev i < length next) × (slice_index next (slice_index prev i) ≡ i)

-- the slots' circles are these lists
pub record Keeps (next prev heads : List ℕ) (lists : List (List ℕ)) : Type 0 where
  pub twins : AreTwins next prev
  pub circles : AreCircles next heads lists
  pub in_range : (i : ℕ) → 0 < times i heads + times_in i lists → i < length next
  pub once : (i : ℕ) → times i heads + times_in i lists ≤ 1
  pub alone : (i : ℕ) → times i heads + times_in i lists ≡ 0 → i < length next → slice_index next i ≡ i
  pub few : size lists ≤ length next

-- lists over slots: how many slots there are, the slots that are no elements but heads, and the lists
pub record Family : Type 0 where
  pub slots : ℕ
  pub heads : List ℕ
  pub lists : List (List ℕ)

-- each slot is a head or an element at most once, and a list has a head
pub record IsTidy (f : Family) : Type 0 where
  pub in_range : (i : ℕ) → 0 < times i f.heads + times_in i f.lists → i < f.slots
  pub once : (i : ℕ) → times i f.heads + times_in i f.lists ≤ 1
  pub few : size f.lists ≤ f.slots
  pub headed : length f.lists ≡ length f.heads

-- the first element
abbrev pub first_of : List ℕ → Option ℕ
first_of [] = None
first_of (x ∷ xs) = Some x

-- the walk from a up to the head ends within the slots
pub record Ends (next : List ℕ) (head a : ℕ) : Type 0 where
  pub stops : walk next head (suc (length next)) a ≡ walk next head (length next) a
  pub inside : (i : ℕ) → 0 < times i (walk next head (length next) a) → i < length next
