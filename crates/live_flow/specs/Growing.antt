-- Sets that grow, with a queue of the rows whose set is still to be handed on.
use Rattle.std.specs.Prelude.{◌≡◌, ℕ, ◌+◌, ◌*◌, ◌<◌, ◌≤◌, ◌⊎◌, true, List, length, get_or, sum}
use Rattle.pass_dead.specs.Names.{has}
use Rattle.live_flow.specs.declared.row.LiveRow.{LiveRow}
use Rattle.live_flow.specs.Live.{row_at, hands, ways, needed_at, is_live, IsAmong}

-- register v is in the set at place k
abbrev pub In : List ℕ → ℕ → ℕ → Type 0
In sets k v = has (get_or sets k 0) v ≡ true

-- each set has what its row reads, or hands on to the original program
abbrev pub AreNeeded : List LiveRow → List ℕ → Type 0
AreNeeded rows sets = (k v : ℕ) → k < length rows → has (get_or sets k 0) v ≡ needed_at (row_at rows k) v

-- The rows at these places have taken over what they hand on to a set. Those that grew are in the queue, and it has no more new ones
-- than sets grew.
pub record Grows (rows : List LiveRow) (set : ℕ) (done : List ℕ) (old new : List ℕ) (waits queue : List ℕ) : Type 0 where
  pub each : length new ≡ length old
  pub keeps : (k v : ℕ) → In old k v → In new k v
  pub comes : (k v : ℕ) → In new k v → In old k v ⊎ (IsAmong done k × (hands rows k v ≡ true) × (has set v ≡ true))
  pub gives : (k v : ℕ) → IsAmong done k → hands rows k v ≡ true → has set v ≡ true → In new k v
  pub queued : (k v : ℕ) → In new k v → In old k v ⊎ IsAmong queue k
  pub stays : (k : ℕ) → IsAmong waits k → IsAmong queue k
  pub within : (k : ℕ) → IsAmong queue k → IsAmong waits k ⊎ IsAmong done k
  pub cost : length queue + 2 * sum old ≤ length waits + 2 * sum new

-- what is not in the queue has been handed on
pub record IsUnder (rows : List LiveRow) (sets queue : List ℕ) : Type 0 where
  pub each : length sets ≡ length rows
  pub within : (k : ℕ) → IsAmong queue k → k < length rows
  pub sound : (k v : ℕ) → In sets k v → is_live rows k v ≡ true
  pub needed : (k v : ℕ) → k < length rows → needed_at (row_at rows k) v ≡ true → In sets k v
  pub handed : (p j v : ℕ) → p < length rows → IsAmong (ways rows p) j → hands rows p v ≡ true → In sets j v →
      IsAmong queue j ⊎ In sets p v
