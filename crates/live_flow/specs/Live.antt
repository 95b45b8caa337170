-- Live registers: sets that grow along known exits, from rows that say what each block reads and hands on.
use Rattle.std.specs.Prelude.{◌≡◌, ℕ, zero, suc, ◌+◌, ◌^◌, ◌<◌, ◌⊎◌, Bool, true, false, ◌||◌, ◌&&◌, ◌==◌, if◌then◌else◌}
use Rattle.std.specs.Prelude.{List, [], ◌∷◌, length, get_or, map}
use Rattle.live_flow.specs.declared.row.LiveRow.{LiveRow}
use Rattle.pass_dead.specs.Names.{has}

-- ---- rows by their places

abbrev pub no_row : LiveRow
no_row = record { start = 0; uses = 0; passes = 0; fallback = false; next = [] }

-- the row at a place; behind the last there is one that reads and hands on nothing
abbrev pub row_at : List LiveRow → ℕ → LiveRow
row_at rows i = get_or rows i no_row

-- the place of the row with this start
abbrev pub place_of : List LiveRow → ℕ → ℕ
place_of [] s = 0
place_of (r ∷ rows) s = if r.start == s then 0 else suc (place_of rows s)

-- the places of a row's known exits
abbrev pub ways : List LiveRow → ℕ → List ℕ
ways rows i = map (place_of rows) (row_at rows i).next

-- the block hands register v on as it is
abbrev pub hands : List LiveRow → ℕ → ℕ → Bool
hands rows i v = has (row_at rows i).passes v

-- register v is read by the block, or handed on to the original program
abbrev pub needed_at : LiveRow → ℕ → Bool
needed_at r v = has r.uses v || (has r.passes v && r.fallback)

-- ---- rounds; sets i v: register v is in the set of the row at place i

-- in one of these rows' sets
abbrev pub any_live : (ℕ → ℕ → Bool) → ℕ → List ℕ → Bool
any_live sets v [] = false
any_live sets v (j ∷ js) = sets j v || any_live sets v js

-- one round: each row takes what it hands on to the set of a known exit
abbrev pub round : List LiveRow → (ℕ → ℕ → Bool) → ℕ → ℕ → Bool
round rows sets i v = sets i v || (hands rows i v && any_live sets v (ways rows i))

abbrev pub live_after : ℕ → List LiveRow → ℕ → ℕ → Bool
live_after zero rows = λ i v. needed_at (row_at rows i) v
live_after (suc n) rows = round rows (live_after n rows)

-- as many rounds as there are rows
abbrev pub is_live : List LiveRow → ℕ → ℕ → Bool
is_live rows = live_after (length rows) rows

-- ---- the same as numbers: bit v of a row's number is register v

-- the number whose bits below k are those of a set
abbrev pub gathered : (ℕ → Bool) → ℕ → ℕ
gathered set zero = 0
gathered set (suc k) = (if set k then 2 ^ k else 0) + gathered set k

-- of the rows from place n on
abbrev pub sets_from : (ℕ → ℕ → Bool) → ℕ → List LiveRow → List ℕ
sets_from sets n [] = []
sets_from sets n (r ∷ rs) = gathered (sets n) 16 ∷ sets_from sets (suc n) rs

abbrev pub live_in : List LiveRow → List ℕ
live_in rows = sets_from (is_live rows) 0 rows

-- ---- what a reader believes

abbrev pub IsAmong : List ℕ → ℕ → Type 0
IsAmong [] j = ⊥
IsAmong (k ∷ ks) j = (k ≡ j) ⊎ IsAmong ks j

-- a walk of at most n known exits from the row at place i, through rows that hand v on, to one where it is needed
pub data Walk (rows : List LiveRow) (v : ℕ) : ℕ → ℕ → Type 0 where
  Here : (n i : ℕ) → needed_at (row_at rows i) v ≡ true → Walk rows v n i
  There : (n i j : ℕ) → hands rows i v ≡ true → IsAmong (ways rows i) j → Walk rows v n j → Walk rows v (suc n) i

-- what is read is live, and what is handed on to the original program or to where it is live
pub record AreLive (rows : List LiveRow) (sets : ℕ → ℕ → Bool) : Type 0 where
  pub uses : (i v : ℕ) → has (row_at rows i).uses v ≡ true → sets i v ≡ true
  pub fallback : (i v : ℕ) → hands rows i v ≡ true → (row_at rows i).fallback ≡ true → sets i v ≡ true
  pub passes : (i v j : ℕ) → hands rows i v ≡ true → IsAmong (ways rows i) j → sets j v ≡ true → sets i v ≡ true

-- ---- rows that can be looked up

-- starts ascend
abbrev pub StartsAscend : List LiveRow → Type 0
StartsAscend rows = (i j : ℕ) → i < j → j < length rows → (row_at rows i).start < (row_at rows j).start

-- each known exit is the start of a row
abbrev pub NextAreStarts : List LiveRow → Type 0
NextAreStarts rows = (i j : ℕ) → IsAmong (ways rows i) j → j < length rows
